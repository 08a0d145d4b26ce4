use Rattle.question_space.proofs.encoded.structure_of.Goals as goal
use Rattle.std.proofs.Common.{◌≤◌, ◌+◌, subst, sym, arith}
use Rattle.std.specs.Prelude.{List, IsTrue, not}
use Rattle.bool_circuit.specs.declared.circuit.TheConstants.{MOST_WIRES}
use Rattle.clf_tree.specs.declared.model.Clafer.{Clafer}
use Rattle.clf_tree.specs.Named.{each, contains_itself}
use Rattle.instance_encoder.specs.Shaping.{shape_cost, slots_room}
use Rattle.set_bits.specs.Fitting.{Fits, size}
use Rattle.shown_instance.specs.Consistent.{abstract_are_empty}
use Rattle.question_space.proofs.Known.{scopes_are_empty, range_is_right}
use Rattle.question_space.proofs.Structuring.{structured_is}

pub shape-requires-clause-acyclic : goal.shape-requires-clause-acyclic
shape-requires-clause-acyclic c =
    subst (λ (cs : List Clafer). IsTrue (each cs (λ d. not (contains_itself cs d))))
    (sym c.requires.same) c.model-plan.ensures.known.contains_no_cycle

pub shape-requires-clause-empty : goal.shape-requires-clause-empty
shape-requires-clause-empty c =
    let read = c.args.read.now in
    subst (λ (cs : List Clafer). IsTrue (abstract_are_empty cs read.scopes)) (sym c.requires.same)
    (scopes_are_empty read.model.clafers read.scopes read.fit)

pub shape-requires-clause-room : goal.shape-requires-clause-room
shape-requires-clause-room c =
    let read = c.args.read.now in
    let layout = c.in_ok-layout.layout in
    let fits = subst (λ (cs : List Clafer). Fits cs read.scopes layout) c.requires.same c.in_ok-layout.ensures.fits in
    let room = c.shapes_are_within_the_weight.ensures.room read.model read.scopes layout fits
    (scopes_are_empty read.model.clafers read.scopes read.fit) c.model-plan.ensures.known.inherits_abstract
    (range_is_right read.scopes read.range) (omega (arith, read.weighs, read.light)) in
    let here : size layout + shape_cost c.args.core.now.clafers read.scopes layout + slots_room layout ≤ MOST_WIRES =
    subst (λ (cs : List Clafer). size layout + shape_cost cs read.scopes layout + slots_room layout ≤ MOST_WIRES)
    (sym c.requires.same) room in
    omega (arith, here, c.in_ok-layout.ensures.alone)

pub returns : goal.returns
returns c =
    let read = c.args.read.now in
    structured_is read.model read.scopes c.args.core.now.clafers c.in_ok-layout.layout c.layout.new.circuit c.shape.new.circuit
    c.in_ok-structure.structure
    c.requires.same read.range read.fit c.model-plan.ensures.known.contains_no_cycle c.in_ok-layout.ensures.fits
    c.in_ok-layout.ensures.read c.in_ok-layout.ensures.alone
    c.in_ok-structure.ensures.extends c.grown_circuits_keep_sets.ensures.read c.in_ok-structure.ensures.wire c.in_ok-structure.ensures.value
