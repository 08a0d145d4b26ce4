use Rattle.std.proofs.Common.{ℕ, ◌<◌}
use Rattle.family_checks.specs.Tours.{NestsAt}
use Rattle.family_checks.proofs.repeating.all_nest.Given as goal

abbrev pub invariant-loop-number : goal.invariant-loop-number
invariant-loop-number l = (c : ℕ) → c < l.number → NestsAt l.clafers l.enter l.leave c
