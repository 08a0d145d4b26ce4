use Rattle.std.proofs.Common.{◌≡◌, ◌<◌, arith, subst, sym, length, true, Some}
use Rattle.std.specs.Prelude.{ℤ}
use Rattle.set_bits.specs.declared.layout.SlotBits.{SlotBits}
use Rattle.set_bits.specs.Showing.{is_value}
use Rattle.integer_bits.specs.Numbers.{FitsBits}
use Rattle.instance_decoder.specs.Packing.{Adds, integer_in_table}
use Rattle.instance_decoder.proofs.Filling.{no_numbers, numbers_more, slot_in, numbers_all, all_at, if_some, told_integer}
use Rattle.instance_decoder.proofs.packing.push_numbers.Goals as goal

pub loop-at-init : goal.loop-at-init
loop-at-init c = λ entries t. no_numbers entries c.args.slots.now c.args.values.now c.args.bits.now

pub get-entry-requires : goal.get-entry-requires
get-entry-requires c = omega (arith, slot_in c.args.slots.now c.args.values.now c.loop-at.at c.get-value.result.now c.requires.inside c.get-value.ensures, c.requires.sized)

pub push_integer-requires : goal.push_integer-requires
push_integer-requires c = record {
  some = subst (λ n. 0 < n) (sym c.len.ensures) (all_at (λ (v : SlotBits). 0 < length v.bits) c.args.values.now c.loop-at.at c.get-value.result.now c.requires.some c.get-value.ensures);
  fits = if_some (FitsBits c.len.result) c.integer_at-integer.result
      (λ z e. subst (λ n. FitsBits n z) (sym c.len.ensures)
      (all_at (λ (v : SlotBits). (y : ℤ) → integer_in_table c.args.table.now v.slot ≡ Some y → FitsBits (length v.bits) y) c.args.values.now c.loop-at.at c.get-value.result.now c.requires.fits c.get-value.ensures z
      (told_integer c.args.table.now c.get-value.result.now.slot c.get-entry.result.now c.integer_at-integer.result z c.get-entry.ensures c.integer_at-integer.ensures e)));
}

pub loop-at-preserved : goal.loop-at-preserved
loop-at-preserved c = λ entries t.
    numbers_more entries c.args.slots.now c.args.table.now c.args.values.now c.loop-at.at c.get-value.result.now c.get-entry.result.now c.integer_at-integer.result c.args.bits.now c.loop-at.bits c.push_integer.new.bits
    t c.get-value.ensures c.get-entry.ensures c.integer_at-integer.ensures (c.loop-at.invariant entries t)
    (subst (λ n. Adds c.loop-at.bits c.push_integer.new.bits n (λ bs. is_value c.integer_at-integer.result bs ≡ true)) c.len.ensures c.in_ok-push_integer.ensures)

pub returns : goal.returns
returns c = λ entries t. numbers_all entries c.args.slots.now c.args.values.now c.loop-at.at c.args.bits.now c.loop-at.bits (omega (arith, c.len-at-end.ensures)) (c.loop-at.invariant entries t)
