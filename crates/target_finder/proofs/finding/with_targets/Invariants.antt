use Rattle.std.proofs.Common.{◌≡◌, take}
use Rattle.target_finder.specs.Targets.{with_targets}
use Rattle.target_finder.proofs.finding.with_targets.Given as goal

abbrev pub invariant-loop-at : goal.invariant-loop-at
invariant-loop-at l = l.all ≡ with_targets (take l.at l.targets) (take l.at l.clafers)
