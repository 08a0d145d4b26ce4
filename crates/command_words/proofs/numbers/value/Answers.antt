-- Digits in their order.
use Rattle.std.proofs.Common.{◌∙◌, ◌-◌, get_or, arith, sym}
use Rattle.std.proofs.lemmas.List.{at_drop_more, at_drop_all}
use Rattle.command_words.specs.Words.{value_after}
use Rattle.command_words.proofs.Sizes.{one_more, most, digit_at}
use Rattle.command_words.proofs.numbers.value.Goals as goal

pub overflow_mul-value : goal.overflow_mul-value
overflow_mul-value c = omega (
  arith,
  most c.loop-digit.value c.loop-digit.digit-index c.loop-digit.invariant.1
      (omega (arith, c.requires.few, c.loop-digit.auto.digit-index-end)),
)

pub overflow_add-value : goal.overflow_add-value
overflow_add-value c =
    omega (
      arith,
      most c.loop-digit.value c.loop-digit.digit-index c.loop-digit.invariant.1
          (omega (arith, c.requires.few, c.loop-digit.auto.digit-index-end)),
      digit_at c.args.digits.now c.loop-digit.digit-index c.requires.digits c.loop-digit-test.true,
    )

pub loop-digit-preserved : goal.loop-digit-preserved
unfolding value_after
loop-digit-preserved c = (
  sym (at_drop_more (value_after c.loop-digit.value) c.args.digits.now c.loop-digit.digit-index 0 c.loop-digit-test.true)
      ∙ c.loop-digit.invariant.0,
  one_more c.loop-digit.value (get_or c.args.digits.now c.loop-digit.digit-index 0 - 48) c.loop-digit.digit-index
      c.loop-digit.invariant.1
      (digit_at c.args.digits.now c.loop-digit.digit-index c.requires.digits c.loop-digit-test.true),
)

pub returns-clause-value : goal.returns-clause-value
unfolding value_after
returns-clause-value c =
    sym (at_drop_all (value_after c.loop-digit.value) c.args.digits.now c.loop-digit.digit-index (omega (arith, c.loop-digit-test.false)))
    ∙ c.loop-digit.invariant.0

pub returns-clause-small : goal.returns-clause-small
returns-clause-small c = most c.loop-digit.value c.loop-digit.digit-index c.loop-digit.invariant.1
    (omega (arith, c.requires.few, c.loop-digit.auto.digit-index-end))
