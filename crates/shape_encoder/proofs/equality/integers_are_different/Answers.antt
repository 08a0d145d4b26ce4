use Rattle.std.proofs.Common.{◌+◌, length, arith}
use Rattle.shape_encoder.specs.Comparing.{own_value_cost, values_cost}
use Rattle.shape_encoder.proofs.Compared.{cost_step}
use Rattle.shape_encoder.proofs.Unequal.{integers_more, values_room, slot_of, slot_stays}
use Rattle.shape_encoder.proofs.equality.integers_are_different.Goals as goal

pub and_integer-requires-clause-value_bits : goal.and_integer-requires-clause-value_bits
and_integer-requires-clause-value_bits c = λ k d l.
    slot_stays c.args.circuit.now c.loop-place.circuit (values_cost c.args.clafers.now c.args.layout.now c.loop-place.place + 1) (length c.args.layout.now.live) _ c.loop-place.invariant.extends (c.requires.value_bits k d l)

pub and_integer-requires-clause-later_is : goal.and_integer-requires-clause-later_is
and_integer-requires-clause-later_is c =
    slot_stays c.args.circuit.now c.loop-place.circuit (values_cost c.args.clafers.now c.args.layout.now c.loop-place.place + 1) (length c.args.layout.now.live) c.get-later.result.now c.loop-place.invariant.extends
    (slot_of c.args.circuit.now c.args.layout.now c.loop-place.place c.get-later.result.now c.requires.value_bits c.get-later.ensures)

pub and_integer-requires-clause-room : goal.and_integer-requires-clause-room
and_integer-requires-clause-room c = omega (arith, c.requires.room, c.loop-place.invariant.extends.at_most, values_room c.args.clafers.now c.args.layout.now c.loop-place.place c.get-later.result.now c.get-later.ensures)

pub returns-in_err-all-2-clause-extends : goal.returns-in_err-all-2-clause-extends
returns-in_err-all-2-clause-extends c =
    cost_step c.args.circuit.now c.loop-place.circuit c.and_integer.new.circuit (values_cost c.args.clafers.now c.args.layout.now c.loop-place.place) (own_value_cost c.args.clafers.now c.args.layout.now c.get-later.result.now c.loop-place.place) (values_cost c.args.clafers.now c.args.layout.now (length c.args.layout.now.values))
    (values_room c.args.clafers.now c.args.layout.now c.loop-place.place c.get-later.result.now c.get-later.ensures) c.loop-place.invariant.extends c.in_err-all-2.ensures.extends

pub loop-place-preserved : goal.loop-place-preserved
loop-place-preserved c =
    integers_more c.args.circuit.now c.loop-place.circuit c.and_integer.new.circuit c.args.clafers.now c.args.layout.now c.loop-place.place c.get-later.result.now c.loop-place.all c.in_ok-all-2.all c.get-later.ensures
    c.loop-place.invariant c.in_ok-all-2.ensures.extends c.in_ok-all-2.ensures.wire c.in_ok-all-2.ensures.value
