use Rattle.std.proofs.Common.{ℕ, ◌<◌}
use Rattle.family_checks.specs.Heights.{RiseAt}
use Rattle.family_checks.proofs.certificate.all_rise.Given as goal

abbrev pub invariant-loop-number : goal.invariant-loop-number
invariant-loop-number l = (c : ℕ) → c < l.number → RiseAt l.clafers l.own l.heirs c
