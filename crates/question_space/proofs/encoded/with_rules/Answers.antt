use Rattle.question_space.proofs.encoded.with_rules.Goals as goal
use Rattle.std.proofs.Common.{◌≤◌, List, length, subst, arith}
use Rattle.bool_circuit.specs.declared.gate.Wire.{Wire}
use Rattle.question_space.specs.Encoding.{IsArranged}
use Rattle.question_space.specs.Wiring.{IsConjunctionSoFar, wires_cost}
use Rattle.question_space.proofs.Known.{range_is_right}
use Rattle.question_space.proofs.Structuring.{arranged_is, conjunction_room, wired_is}
use Rattle.question_space.proofs.Weighing.{truths_count, within_same}

pub arranged-requires-clause-room : goal.arranged-requires-clause-room
arranged-requires-clause-room c =
    let read = c.args.read.now in
    let light : wires_cost read.model read.scopes c.args.layout.now c.args.core.now.truths ≤ read.weight =
    (within_same _ _ _ (c.questions_are_within_the_weight.ensures read.model read.scopes c.args.layout.now c.args.core.now.truths
    c.requires.structured.placed.fits c.requires.structured.placed.empty
    c.model-plan.ensures.known.inherits_abstract (range_is_right read.scopes read.range) c.requires.lowered.light
    (omega (arith, read.weighs, read.light))) read.weighs) in
    omega (arith, light, read.light, c.requires.structured.few)

pub rules-requires-clause-read : goal.rules-requires-clause-read
rules-requires-clause-read c = c.grown_circuits_keep_sets.ensures.read _ _ _ _ c.in_ok-right.ensures.extends c.requires.structured.reads

pub rules-requires-clause-room : goal.rules-requires-clause-room
rules-requires-clause-room c =
    let read = c.args.read.now in
    let light : wires_cost read.model read.scopes c.args.layout.now c.args.core.now.truths ≤ read.weight =
    (within_same _ _ _ (c.questions_are_within_the_weight.ensures read.model read.scopes c.args.layout.now c.args.core.now.truths
    c.requires.structured.placed.fits c.requires.structured.placed.empty
    c.model-plan.ensures.known.inherits_abstract (range_is_right read.scopes read.range) c.requires.lowered.light
    (omega (arith, read.weighs, read.light))) read.weighs) in
    omega (arith, light, read.light, c.requires.structured.few, c.in_ok-right.ensures.extends.at_most)

pub conjunction-requires-clause-room : goal.conjunction-requires-clause-room
conjunction-requires-clause-room c =
    let read = c.args.read.now in
    let start : IsArranged read.model read.scopes c.args.layout.now c.arranged.new.circuit c.in_ok-right.right =
    arranged_is read.model read.scopes c.args.core.now.clafers c.args.layout.now c.args.circuit.now c.arranged.new.circuit
    c.args.structure c.in_ok-right.right
    c.requires.lowered.same c.requires.structured c.in_ok-right.ensures.extends c.grown_circuits_keep_sets.ensures.read
    c.in_ok-right.ensures.wire c.in_ok-right.ensures.value in
    conjunction_room read.model read.scopes read.weight c.args.core.now c.args.layout.now c.arranged.new.circuit c.rules.new.circuit
    c.in_ok-right.right c.in_ok-rules.rules c.as_slice.result.now
    start c.in_ok-rules.ensures
    (within_same _ _ _ (c.questions_are_within_the_weight.ensures read.model read.scopes c.args.layout.now c.args.core.now.truths
    c.requires.structured.placed.fits c.requires.structured.placed.empty
    c.model-plan.ensures.known.inherits_abstract (range_is_right read.scopes read.range) c.requires.lowered.light
    (omega (arith, read.weighs, read.light))) read.weighs)
    read.light c.as_slice.ensures

pub returns : goal.returns
returns c =
    let read = c.args.read.now in
    let start : IsArranged read.model read.scopes c.args.layout.now c.arranged.new.circuit c.in_ok-right.right =
    arranged_is read.model read.scopes c.args.core.now.clafers c.args.layout.now c.args.circuit.now c.arranged.new.circuit
    c.args.structure c.in_ok-right.right
    c.requires.lowered.same c.requires.structured c.in_ok-right.ensures.extends c.grown_circuits_keep_sets.ensures.read
    c.in_ok-right.ensures.wire c.in_ok-right.ensures.value in
    wired_is (record {
      shaped = c.shaped_bits_show_a_tree.ensures;
      alone = c.the_told_instance_alone_is_shown.ensures;
      spelled = c.each_instance_has_bits.ensures;
      tested = c.canonical_slots_show_canonical_instances.ensures.shown;
      canonical = c.each_instance_has_a_canonical_one.ensures.satisfying;
    })
    read.model read.scopes (wires_cost read.model read.scopes c.args.layout.now c.args.core.now.truths) c.args.core.now c.args.layout.now
    c.arranged.new.circuit c.rules.new.circuit c.conjunction.new.circuit c.in_ok-right.right c.in_ok-rules.rules c.in_ok-whole.whole
    c.layouts_that_fit_are_laid.ensures.laid c.grown_circuits_keep_sets.ensures.read c.requires.lowered
    (truths_count read.model.clafers read.scopes c.args.core.now.truths read.model.rules c.requires.lowered.light)
    start c.in_ok-rules.ensures
    (subst (λ (ws : List Wire). IsConjunctionSoFar c.rules.new.circuit c.in_ok-right.right ws
    (length ws) c.conjunction.new.circuit c.in_ok-whole.whole) c.as_slice.ensures c.in_ok-whole.ensures)
    (omega arith)
