use Rattle.std.proofs.Common.{arith, ◌+◌, length, take}
use Rattle.bool_circuit.proofs.Extending.{extends_trans}
use Rattle.shape_encoder.specs.Reading.{integer_cost, integers_room}
use Rattle.shape_encoder.proofs.Ranged.{none_ranged, ranged_more, slot_of, live_wire, value_wires_in, ranged_fits, ranged_within, one_more}
use Rattle.shape_encoder.proofs.ranges.integers.Goals as goal

pub loop-at-init : goal.loop-at-init
loop-at-init c =
    none_ranged c.args.circuit.now c.ends_of.new.circuit c.constant.new.self c.args.scopes.now c.args.layout.now c.in_ok-ends.ends.low c.in_ok-ends.ends.high c.in_ok-all.all
    c.in_ok-ends.ensures.extends c.in_ok-all.ensures.extends c.in_ok-ends.ensures.low c.in_ok-ends.ensures.high c.in_ok-all.ensures.wire c.in_ok-all.ensures.value

pub get-live-requires : goal.get-live-requires
get-live-requires c = (slot_of c.args.circuit.now c.args.layout.now c.loop-at.at c.get-value.result.now c.requires.value_bits c.get-value.ensures).known

pub integer-requires-clause-live_in : goal.integer-requires-clause-live_in
integer-requires-clause-live_in c =
    live_wire c.args.circuit.now c.loop-at.circuit (integers_room c.args.scopes.now (take c.loop-at.at c.args.layout.now.values) + 5) c.args.layout.now.live c.get-value.result.now.slot c.get-live.result.now c.requires.live_bits c.get-live.ensures c.loop-at.invariant.extends

pub integer-requires-clause-value_in : goal.integer-requires-clause-value_in
integer-requires-clause-value_in c =
    value_wires_in c.args.circuit.now c.loop-at.circuit (integers_room c.args.scopes.now (take c.loop-at.at c.args.layout.now.values) + 5) c.args.layout.now c.loop-at.at c.get-value.result.now c.requires.value_bits c.get-value.ensures c.loop-at.invariant.extends

pub integer-requires-clause-value_some : goal.integer-requires-clause-value_some
integer-requires-clause-value_some c = (slot_of c.args.circuit.now c.args.layout.now c.loop-at.at c.get-value.result.now c.requires.value_bits c.get-value.ensures).some

pub integer-requires-clause-room : goal.integer-requires-clause-room
integer-requires-clause-room c =
    omega (arith, c.requires.room, ranged_fits c.args.circuit.now c.loop-at.circuit c.args.scopes.now c.args.layout.now c.loop-at.at c.get-value.result.now c.in_ok-ends.ends.low c.in_ok-ends.ends.high c.loop-at.all c.get-value.ensures c.loop-at.invariant)

pub returns-in_err-right-clause-extends : goal.returns-in_err-right-clause-extends
returns-in_err-right-clause-extends c =
    ranged_within c.args.circuit.now c.loop-at.circuit c.integer.new.circuit c.args.scopes.now c.args.layout.now c.loop-at.at c.get-value.result.now c.in_ok-ends.ends.low c.in_ok-ends.ends.high c.loop-at.all c.get-value.ensures c.loop-at.invariant
    (one_more c.loop-at.circuit c.integer.new.circuit (integer_cost (length c.in_ok-ends.ends.low) (length c.in_ok-ends.ends.high) (length c.get-value.result.now.bits)) c.in_err-right.ensures.extends)

pub and-requires-clause-room : goal.and-requires-clause-room
and-requires-clause-room c =
    omega (arith, c.requires.room, c.in_ok-right.ensures.extends.at_most, ranged_fits c.args.circuit.now c.loop-at.circuit c.args.scopes.now c.args.layout.now c.loop-at.at c.get-value.result.now c.in_ok-ends.ends.low c.in_ok-ends.ends.high c.loop-at.all c.get-value.ensures c.loop-at.invariant)

pub returns-in_err-all-2-clause-extends : goal.returns-in_err-all-2-clause-extends
returns-in_err-all-2-clause-extends c =
    ranged_within c.args.circuit.now c.loop-at.circuit c.and.new.self c.args.scopes.now c.args.layout.now c.loop-at.at c.get-value.result.now c.in_ok-ends.ends.low c.in_ok-ends.ends.high c.loop-at.all c.get-value.ensures c.loop-at.invariant
    (extends_trans c.loop-at.circuit c.integer.new.circuit c.and.new.self (integer_cost (length c.in_ok-ends.ends.low) (length c.in_ok-ends.ends.high) (length c.get-value.result.now.bits)) 1 c.in_ok-right.ensures.extends c.in_err-all-2.ensures.extends)

pub loop-at-preserved : goal.loop-at-preserved
loop-at-preserved c =
    ranged_more c.args.circuit.now c.loop-at.circuit c.integer.new.circuit c.and.new.self c.args.scopes.now c.args.layout.now c.loop-at.at c.get-value.result.now c.get-live.result.now c.in_ok-ends.ends.low c.in_ok-ends.ends.high c.loop-at.all c.in_ok-right.right c.in_ok-all-2.all
    c.requires.live_bits c.requires.value_bits c.get-value.ensures c.get-live.ensures c.loop-at.invariant c.in_ok-right.ensures.extends c.in_ok-all-2.ensures.extends c.in_ok-all-2.ensures.wire c.in_ok-right.ensures.value c.in_ok-all-2.ensures.value
