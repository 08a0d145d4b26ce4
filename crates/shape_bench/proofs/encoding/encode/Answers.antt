use Rattle.std.proofs.Common.{◌≤◌, ◌+◌, subst, sym, arith}
use Rattle.shape_bench.proofs.encoding.encode.Goals as goal
use Rattle.clf_tree.specs.declared.model.Clafer.{Clafer}
use Rattle.std.specs.Prelude.{List, IsTrue, not}
use Rattle.clf_tree.specs.Named.{each, contains_itself}
use Rattle.set_bits.specs.Fitting.{Fits, size}
use Rattle.instance_encoder.specs.Shaping.{shape_cost, slots_room}
use Rattle.shown_instance.specs.Consistent.{abstract_are_empty}
use Rattle.bool_circuit.specs.declared.circuit.TheConstants.{MOST_WIRES}
use Rattle.shape_bench.proofs.Known.{scopes_are_empty, range_is_right}

pub shape-requires-clause-acyclic : goal.shape-requires-clause-acyclic
shape-requires-clause-acyclic c =
    subst (λ (cs : List Clafer). IsTrue (each cs (λ d. not (contains_itself cs d)))) (sym c.in_ok-core.ensures.clafers) c.model-plan.ensures.known.contains_no_cycle

pub shape-requires-clause-empty : goal.shape-requires-clause-empty
shape-requires-clause-empty c =
    let read = c.args.read.now in
    subst (λ (cs : List Clafer). IsTrue (abstract_are_empty cs read.scopes)) (sym c.in_ok-core.ensures.clafers) (scopes_are_empty read.model.clafers read.scopes read.fit)

pub shape-requires-clause-room : goal.shape-requires-clause-room
shape-requires-clause-room c =
    let read = c.args.read.now in
    let layout = c.in_ok-layout.layout in
    let fits = subst (λ (cs : List Clafer). Fits cs read.scopes layout) c.in_ok-core.ensures.clafers c.in_ok-layout.ensures.fits in
    let room = c.shapes_are_within_the_weight.ensures.room read.model read.scopes layout fits (scopes_are_empty read.model.clafers read.scopes read.fit) c.model-plan.ensures.known.inherits_abstract (range_is_right read.scopes read.range) (omega (arith, read.weighs, read.light)) in
    let here : size layout + shape_cost c.in_ok-core.core.clafers read.scopes layout + slots_room layout ≤ MOST_WIRES =
    subst (λ (cs : List Clafer). size layout + shape_cost cs read.scopes layout + slots_room layout ≤ MOST_WIRES) (sym c.in_ok-core.ensures.clafers) room in
    omega (arith, here, c.in_ok-layout.ensures.alone)
