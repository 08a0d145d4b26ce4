use Rattle.std.proofs.Common.{◌≤◌, ◌+◌, subst, sym, ◌∙◌, arith}
use Rattle.std.specs.Prelude.{ℕ, List, IsTrue, not}
use Rattle.bool_circuit.specs.declared.circuit.TheConstants.{MOST_WIRES}
use Rattle.clf_tree.specs.declared.model.Clafer.{Clafer}
use Rattle.clf_tree.specs.Named.{each, contains_itself}
use Rattle.instance_encoder.specs.Shaping.{shape_cost, slots_room}
use Rattle.set_bits.specs.Fitting.{Fits, IsRead, size}
use Rattle.shown_instance.specs.Consistent.{abstract_are_empty}
use Rattle.question_space.proofs.Known.{range_is_right}
use Rattle.question_space.proofs.Structuring.{framed_is}
use Rattle.question_space.proofs.questions.structure_over.Goals as goal

pub inputs_alone-requires : goal.inputs_alone-requires
inputs_alone-requires c =
    let read = c.args.read.now in
    let room = c.shapes_are_within_the_weight.ensures.room read.model read.scopes c.args.layout.now c.requires.placed.fits
    c.requires.placed.empty c.model-plan.ensures.known.inherits_abstract (range_is_right read.scopes read.range)
    (omega (arith, read.weighs, read.light)) in
    omega (arith, room, c.requires.count)

pub shape-requires-clause-acyclic : goal.shape-requires-clause-acyclic
shape-requires-clause-acyclic c =
    subst (λ (cs : List Clafer). IsTrue (each cs (λ d. not (contains_itself cs d)))) (sym c.requires.lowered.same) c.requires.placed.acyclic

pub shape-requires-clause-empty : goal.shape-requires-clause-empty
shape-requires-clause-empty c =
    subst (λ (cs : List Clafer). IsTrue (abstract_are_empty cs c.args.read.now.scopes))
    (sym c.requires.lowered.same) c.requires.placed.empty

pub shape-requires-clause-fits : goal.shape-requires-clause-fits
shape-requires-clause-fits c =
    subst (λ (cs : List Clafer). Fits cs c.args.read.now.scopes c.args.layout.now) (sym c.requires.lowered.same) c.requires.placed.fits

pub shape-requires-clause-read : goal.shape-requires-clause-read
shape-requires-clause-read c = subst (λ (n : ℕ). IsRead c.in_ok-circuit.circuit n) c.requires.count c.in_ok-circuit.ensures.read

pub shape-requires-clause-room : goal.shape-requires-clause-room
shape-requires-clause-room c =
    let read = c.args.read.now in
    let layout = c.args.layout.now in
    let room = c.shapes_are_within_the_weight.ensures.room read.model read.scopes layout c.requires.placed.fits c.requires.placed.empty
    c.model-plan.ensures.known.inherits_abstract (range_is_right read.scopes read.range) (omega (arith, read.weighs, read.light)) in
    let here : size layout + shape_cost c.args.core.now.clafers read.scopes layout + slots_room layout ≤ MOST_WIRES =
    subst (λ (cs : List Clafer). size layout + shape_cost cs read.scopes layout + slots_room layout ≤ MOST_WIRES)
    (sym c.requires.lowered.same) room in
    omega (arith, here, c.in_ok-circuit.ensures.alone, c.requires.count)

pub returns : goal.returns
returns c =
    let read = c.args.read.now in
    framed_is read.model read.scopes c.args.core.now.clafers c.args.layout.now c.in_ok-circuit.circuit c.shape.new.circuit
    c.in_ok-structure.structure
    c.requires.lowered.same c.requires.placed (subst (λ (n : ℕ). IsRead c.in_ok-circuit.circuit n) c.requires.count
    c.in_ok-circuit.ensures.read) (c.in_ok-circuit.ensures.alone ∙ c.requires.count)
    c.in_ok-structure.ensures.extends c.grown_circuits_keep_sets.ensures.read c.in_ok-structure.ensures.wire c.in_ok-structure.ensures.value
