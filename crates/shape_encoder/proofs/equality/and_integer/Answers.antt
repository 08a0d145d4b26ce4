use Rattle.std.proofs.Common.{◌+◌, ◌*◌, ◌<◌, length, arith}
use Rattle.bool_circuit.specs.Circuit.{wire_value}
use Rattle.shape_encoder.specs.Comparing.{integer_pairs_cost, own_value_cost}
use Rattle.shape_encoder.proofs.Compared.{list_is, told_slot, costs_same}
use Rattle.shape_encoder.proofs.Unequal.{untold_integer, own_value_cost_is}
use Rattle.shape_encoder.proofs.equality.and_integer.Goals as goal

pub returns-then-not-tells_apart-clause-value : goal.returns-then-not-tells_apart-clause-value
returns-then-not-tells_apart-clause-value c = λ bits.
    untold_integer c.args.clafers.now c.args.layout.now c.args.later.now c.args.place c.get.result.now (wire_value c.args.circuit.now c.args.all bits) c.tells_apart.result c.get.ensures c.tells_apart.ensures c.if-not-tells_apart.true bits

pub and_told_integer-requires-clause-told : goal.and_told_integer-requires-clause-told
and_told_integer-requires-clause-told c = told_slot c.args.clafers.now c.args.layout.now c.args.later.now.slot c.get.result.now c.tells_apart.result c.get.ensures c.tells_apart.ensures c.if-not-tells_apart.false

pub and_told_integer-requires-clause-edges_are : goal.and_told_integer-requires-clause-edges_are
and_told_integer-requires-clause-edges_are c =
    let inside : c.args.later.now.slot < length c.args.layout.now.slots = omega (arith, c.requires.later_is.known, c.requires.slots) in
    list_is c.args.layout.now.parents (length c.args.layout.now.slots) c.args.later.now.slot c.args.parents.now.items c.index-edges.result.now c.requires.parents inside c.index-edges.ensures

pub and_told_integer-requires-clause-room : goal.and_told_integer-requires-clause-room
and_told_integer-requires-clause-room c =
    let inside : c.args.later.now.slot < length c.args.layout.now.slots = omega (arith, c.requires.later_is.known, c.requires.slots) in
    let cost = own_value_cost_is c.args.clafers.now c.args.layout.now c.args.later.now c.args.place c.index-edges.result.now
    (told_slot c.args.clafers.now c.args.layout.now c.args.later.now.slot c.get.result.now c.tells_apart.result c.get.ensures c.tells_apart.ensures c.if-not-tells_apart.false)
    (list_is c.args.layout.now.parents (length c.args.layout.now.slots) c.args.later.now.slot c.args.parents.now.items c.index-edges.result.now c.requires.parents inside c.index-edges.ensures) in
    omega (arith, c.requires.room, cost)

pub returns-in_err-right-clause-extends : goal.returns-in_err-right-clause-extends
returns-in_err-right-clause-extends c =
    let inside : c.args.later.now.slot < length c.args.layout.now.slots = omega (arith, c.requires.later_is.known, c.requires.slots) in
    costs_same c.args.circuit.now c.and_told_integer.new.circuit ((4 * length c.index-edges.result.now + 1) + (integer_pairs_cost c.args.layout.now c.args.later.now c.args.place + 1) + 1) (own_value_cost c.args.clafers.now c.args.layout.now c.args.later.now c.args.place)
    (own_value_cost_is c.args.clafers.now c.args.layout.now c.args.later.now c.args.place c.index-edges.result.now
    (told_slot c.args.clafers.now c.args.layout.now c.args.later.now.slot c.get.result.now c.tells_apart.result c.get.ensures c.tells_apart.ensures c.if-not-tells_apart.false)
    (list_is c.args.layout.now.parents (length c.args.layout.now.slots) c.args.later.now.slot c.args.parents.now.items c.index-edges.result.now c.requires.parents inside c.index-edges.ensures)) c.in_err-right.ensures.extends

pub returns-clause-extends : goal.returns-clause-extends
returns-clause-extends c =
    let inside : c.args.later.now.slot < length c.args.layout.now.slots = omega (arith, c.requires.later_is.known, c.requires.slots) in
    costs_same c.args.circuit.now c.and_told_integer.new.circuit ((4 * length c.index-edges.result.now + 1) + (integer_pairs_cost c.args.layout.now c.args.later.now c.args.place + 1) + 1) (own_value_cost c.args.clafers.now c.args.layout.now c.args.later.now c.args.place)
    (own_value_cost_is c.args.clafers.now c.args.layout.now c.args.later.now c.args.place c.index-edges.result.now
    (told_slot c.args.clafers.now c.args.layout.now c.args.later.now.slot c.get.result.now c.tells_apart.result c.get.ensures c.tells_apart.ensures c.if-not-tells_apart.false)
    (list_is c.args.layout.now.parents (length c.args.layout.now.slots) c.args.later.now.slot c.args.parents.now.items c.index-edges.result.now c.requires.parents inside c.index-edges.ensures)) c.in_ok-right.ensures.extends
