use Rattle.std.proofs.Common.{◌≡◌, ◌+◌, ◌*◌, ◌<◌, ◌&&◌, length, ap, ◌∙◌, sym, arith}
use Rattle.std.specs.Prelude.{is_some}
use Rattle.bool_circuit.specs.Circuit.{wire_value}
use Rattle.clf_tree.specs.Hierarchy.{parent_of}
use Rattle.set_bits.specs.Fitting.{slot_clafer}
use Rattle.shape_encoder.specs.Comparing.{equal_cost, integer_pair_cost}
use Rattle.shape_encoder.proofs.Compared.{list_is, list_bits, clafer_at, clafers_same, costs_same}
use Rattle.shape_encoder.proofs.Unequal.{integer_pair_cost_is, integer_value}
use Rattle.shape_encoder.proofs.equality.and_integers_differ.Goals as goal

pub and_two_integers-requires-clause-bits : goal.and_two_integers-requires-clause-bits
and_two_integers-requires-clause-bits c =
    let inside : c.args.earlier.now.slot < length c.args.layout.now.slots = omega (arith, c.requires.earlier_is.known, c.requires.slots) in
    list_bits c.args.circuit.now c.args.layout.now.parents c.index-edges.result.now c.args.earlier.now.slot (list_is c.args.layout.now.parents (length c.args.layout.now.slots) c.args.earlier.now.slot c.args.parents.now.items c.index-edges.result.now c.requires.parents inside c.index-edges.ensures) c.requires.parent_bits

pub and_two_integers-requires-clause-room : goal.and_two_integers-requires-clause-room
and_two_integers-requires-clause-room c =
    let inside : c.args.earlier.now.slot < length c.args.layout.now.slots = omega (arith, c.requires.earlier_is.known, c.requires.slots) in
    let same : c.get-2.result.now.clafer ≡ c.get.result.now.clafer = omega (arith, c.if-get-clafer.false) in
    let cost = integer_pair_cost_is c.args.layout.now c.args.earlier.now c.args.later.now c.index-edges.result.now (clafers_same c.args.layout.now c.args.earlier.now.slot c.args.later.now.slot c.get-2.result.now c.get.result.now c.get-2.ensures c.get.ensures same)
    (list_is c.args.layout.now.parents (length c.args.layout.now.slots) c.args.earlier.now.slot c.args.parents.now.items c.index-edges.result.now c.requires.parents inside c.index-edges.ensures) in
    omega (arith, c.requires.room, cost)

pub returns-in_err-right-clause-extends : goal.returns-in_err-right-clause-extends
returns-in_err-right-clause-extends c =
    let inside : c.args.earlier.now.slot < length c.args.layout.now.slots = omega (arith, c.requires.earlier_is.known, c.requires.slots) in
    let same : c.get-2.result.now.clafer ≡ c.get.result.now.clafer = omega (arith, c.if-get-clafer.false) in
    costs_same c.args.circuit.now c.and_two_integers.new.circuit ((2 * length c.index-edges.result.now + 1) + equal_cost c.args.earlier.now c.args.later.now + 3) (integer_pair_cost c.args.layout.now c.args.earlier.now c.args.later.now)
    (integer_pair_cost_is c.args.layout.now c.args.earlier.now c.args.later.now c.index-edges.result.now (clafers_same c.args.layout.now c.args.earlier.now.slot c.args.later.now.slot c.get-2.result.now c.get.result.now c.get-2.ensures c.get.ensures same)
    (list_is c.args.layout.now.parents (length c.args.layout.now.slots) c.args.earlier.now.slot c.args.parents.now.items c.index-edges.result.now c.requires.parents inside c.index-edges.ensures)) c.in_err-right.ensures.extends

pub returns-clause-extends : goal.returns-clause-extends
returns-clause-extends c =
    let inside : c.args.earlier.now.slot < length c.args.layout.now.slots = omega (arith, c.requires.earlier_is.known, c.requires.slots) in
    let same : c.get-2.result.now.clafer ≡ c.get.result.now.clafer = omega (arith, c.if-get-clafer.false) in
    costs_same c.args.circuit.now c.and_two_integers.new.circuit ((2 * length c.index-edges.result.now + 1) + equal_cost c.args.earlier.now c.args.later.now + 3) (integer_pair_cost c.args.layout.now c.args.earlier.now c.args.later.now)
    (integer_pair_cost_is c.args.layout.now c.args.earlier.now c.args.later.now c.index-edges.result.now (clafers_same c.args.layout.now c.args.earlier.now.slot c.args.later.now.slot c.get-2.result.now c.get.result.now c.get-2.ensures c.get.ensures same)
    (list_is c.args.layout.now.parents (length c.args.layout.now.slots) c.args.earlier.now.slot c.args.parents.now.items c.index-edges.result.now c.requires.parents inside c.index-edges.ensures)) c.in_ok-right.ensures.extends

pub returns-clause-value : goal.returns-clause-value
returns-clause-value c =
    let inside : c.args.earlier.now.slot < length c.args.layout.now.slots = omega (arith, c.requires.earlier_is.known, c.requires.slots) in
    let same : c.get-2.result.now.clafer ≡ c.get.result.now.clafer = omega (arith, c.if-get-clafer.false) in
    let nested : c.is_some-is_nested.result ≡ is_some (parent_of c.args.clafers.now (slot_clafer c.args.layout.now.slots c.args.later.now.slot)) =
    c.is_some-is_nested.ensures ∙ ap is_some (c.parent_of.ensures ∙ ap (parent_of c.args.clafers.now) (sym (clafer_at c.args.layout.now c.args.later.now.slot c.get.result.now c.get.ensures))) in
    λ bits. c.in_ok-right.ensures.value bits
    ∙ ap (λ b. wire_value c.args.circuit.now c.args.all bits && b)
    (integer_value c.args.circuit.now c.args.clafers.now c.args.layout.now c.args.earlier.now c.args.later.now c.is_some-is_nested.result c.args.table.now.items c.index-edges.result.now
    (clafers_same c.args.layout.now c.args.earlier.now.slot c.args.later.now.slot c.get-2.result.now c.get.result.now c.get-2.ensures c.get.ensures same) c.requires.told nested
    (list_is c.args.layout.now.parents (length c.args.layout.now.slots) c.args.earlier.now.slot c.args.parents.now.items c.index-edges.result.now c.requires.parents inside c.index-edges.ensures) c.requires.parents_by bits)
