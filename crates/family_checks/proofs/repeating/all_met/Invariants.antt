use Rattle.std.proofs.Common.{ℕ, ◌<◌}
use Rattle.family_checks.specs.Tours.{MetAt}
use Rattle.family_checks.proofs.repeating.all_met.Given as goal

abbrev pub invariant-loop-number : goal.invariant-loop-number
invariant-loop-number l = (c : ℕ) → c < l.number → MetAt l.clafers l.order c
