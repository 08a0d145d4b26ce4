use Rattle.std.proofs.Common.{◌≤◌, ◌∙◌, ◌+◌, subst, ap, sym, arith}
use Rattle.number_encoder.proofs.Digits.{more_digits, few_digits}
use Rattle.number_encoder.proofs.rooms.+binary_digits.Goals as goal

pub overflow_add-result : goal.overflow_add-result
overflow_add-result t c = omega (arith, c.binary_digits.ensures.few)

pub returns-clause-few : goal.returns-clause-few
returns-clause-few t c = subst (λ n. n ≤ 64) (sym (ap (λ d. d + 1) c.binary_digits.ensures.digits ∙ more_digits c.args.number (omega arith))) (few_digits c.args.number (omega (arith, c.ranges.number.fits)))
