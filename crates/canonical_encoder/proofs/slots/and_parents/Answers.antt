use Rattle.std.proofs.Common.{◌+◌, arith}
use Rattle.canonical_encoder.proofs.Wires.{slot_below, slot_bits}
use Rattle.canonical_encoder.proofs.slots.and_parents.Goals as goal

pub overflow_add-behind : goal.overflow_add-behind
overflow_add-behind c =
    let below = slot_below c.args.circuit.now c.args.ground.now.core.now.clafers c.args.ground.now.scopes.now c.args.ground.now.layout.now
    (c.args.slot + 1) c.args.ground.now.fits c.requires.laid c.requires.slot_in in
    omega (arith, below, c.requires.room)

pub and_no_later-requires-clause-earlier_bits : goal.and_no_later-requires-clause-earlier_bits
and_no_later-requires-clause-earlier_bits c =
    slot_bits c.args.circuit.now c.args.ground.now.layout.now c.args.ground.now.parents.items c.args.slot c.index-earlier.result.now
    c.requires.laid c.args.ground.now.parents_are (omega (arith, c.if-behind-len.false, c.len.ensures)) c.index-earlier.ensures

pub and_no_later-requires-clause-later_bits : goal.and_no_later-requires-clause-later_bits
and_no_later-requires-clause-later_bits c =
    slot_bits c.args.circuit.now c.args.ground.now.layout.now c.args.ground.now.parents.items (c.args.slot + 1) c.index-later.result.now
    c.requires.laid c.args.ground.now.parents_are (omega (arith, c.if-behind-len.false, c.len.ensures)) c.index-later.ensures
