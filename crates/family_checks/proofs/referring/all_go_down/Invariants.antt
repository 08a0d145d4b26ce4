use Rattle.std.proofs.Common.{ℕ, ◌<◌}
use Rattle.family_checks.specs.Marks.{GoDownAt}
use Rattle.family_checks.proofs.referring.all_go_down.Given as goal

abbrev pub invariant-loop-number : goal.invariant-loop-number
invariant-loop-number l = (c : ℕ) → c < l.number → GoDownAt l.clafers l.marks c
