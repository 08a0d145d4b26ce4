use Rattle.std.proofs.Common.{◌<◌, ◌^◌, ◌∷◌, ◌++◌, List, map, ap, subst, sym, ◌∙◌, arith}
use Rattle.std.specs.List.{All}
use Rattle.bool_circuit.specs.declared.gate.Wire.{Wire}
use Rattle.question_space.specs.Encoding.{literal_of}
use Rattle.question_space.specs.Queries.{limit_of}
use Rattle.question_space.proofs.posing.pose.Goals as goal
use Rattle.question_space.proofs.Deciding.{variables_light, wires_small}
use Rattle.question_space.proofs.Limits.{limit_few}
use Rattle.question_space.proofs.Posed.{complete, exact, posed}

pub part_literals-requires-clause-structure_small : goal.part_literals-requires-clause-structure_small
part_literals-requires-clause-structure_small c =
    let query = c.args.query.now in
    omega (arith, limit_few query.read.now query.question.now _ query.few_found query.known.asked.few, query.known.asked.wires.structure_in)

pub part_literals-requires-clause-rules_small : goal.part_literals-requires-clause-rules_small
part_literals-requires-clause-rules_small c =
    let query = c.args.query.now in
    subst (λ (ws : List Wire). All (λ (w : Wire). w.number < 2 ^ 31) ws) (sym c.as_slice.ensures)
    (wires_small query.encoded.now.circuit query.encoded.now.rules (limit_few query.read.now query.question.now _ query.few_found
    query.known.asked.few) query.known.asked.wires.rules_in)

pub part_literals-requires-clause-tests_small : goal.part_literals-requires-clause-tests_small
part_literals-requires-clause-tests_small c =
    let query = c.args.query.now in
    subst (λ (ws : List Wire). All (λ (w : Wire). w.number < 2 ^ 31) ws) (sym c.as_slice-2.ensures)
    (wires_small query.encoded.now.circuit query.tests.now (limit_few query.read.now query.question.now _ query.few_found
    query.known.asked.few) query.known.asked.tests_in)

pub returns-clause-exact : goal.returns-clause-exact
returns-clause-exact c =
    exact (record {
      shaped = c.shaped_bits_show_a_tree.ensures;
      alone = c.the_told_instance_alone_is_shown.ensures;
      spelled = c.each_instance_has_bits.ensures;
      tested = c.canonical_slots_show_canonical_instances.ensures.shown;
      canonical = c.each_instance_has_a_canonical_one.ensures.satisfying;
    })
    c.args.query.now.read.now.model c.args.query.now.read.now.scopes c.args.query.now.question.now
    (limit_of c.args.query.now.read.now c.args.query.now.question.now)
    c.args.query.now.layout.now c.args.query.now.encoded.now.circuit c.args.query.now.encoded.now.structure
    c.args.query.now.encoded.now.rules c.args.query.now.tests.now c.args.query.now.root c.in_ok-clauses.clauses
    c.args.query.now.known.asked c.in_ok-clauses.ensures

pub returns-clause-complete : goal.returns-clause-complete
returns-clause-complete c =
    complete (record {
      shaped = c.shaped_bits_show_a_tree.ensures;
      alone = c.the_told_instance_alone_is_shown.ensures;
      spelled = c.each_instance_has_bits.ensures;
      tested = c.canonical_slots_show_canonical_instances.ensures.shown;
      canonical = c.each_instance_has_a_canonical_one.ensures.satisfying;
    })
    c.args.query.now.read.now.model c.args.query.now.read.now.scopes c.args.query.now.question.now
    (limit_of c.args.query.now.read.now c.args.query.now.question.now)
    c.args.query.now.layout.now c.args.query.now.encoded.now.circuit c.args.query.now.encoded.now.structure
    c.args.query.now.encoded.now.rules c.args.query.now.tests.now c.args.query.now.root c.in_ok-clauses.clauses
    c.args.query.now.known.asked c.in_ok-clauses.ensures

pub returns-clause-posed : goal.returns-clause-posed
returns-clause-posed c =
    posed (record {
      shaped = c.shaped_bits_show_a_tree.ensures;
      alone = c.the_told_instance_alone_is_shown.ensures;
      spelled = c.each_instance_has_bits.ensures;
      tested = c.canonical_slots_show_canonical_instances.ensures.shown;
      canonical = c.each_instance_has_a_canonical_one.ensures.satisfying;
    })
    c.args.query.now.read.now.model c.args.query.now.read.now.scopes c.args.query.now.question.now
    (limit_of c.args.query.now.read.now c.args.query.now.question.now)
    c.args.query.now.layout.now c.args.query.now.encoded.now.circuit c.args.query.now.encoded.now.structure
    c.args.query.now.encoded.now.rules c.args.query.now.tests.now c.args.query.now.root c.in_ok-clauses.clauses
    c.args.query.now.known.asked c.in_ok-clauses.ensures c.in_ok-parts.parts
    (c.in_ok-parts.ensures ∙ ap (λ (ws : List Wire). map literal_of (c.args.query.now.encoded.now.structure ∷
    (ws ++ c.as_slice-2.result.now))) c.as_slice.ensures
    ∙ ap (λ (ws : List Wire). map literal_of (c.args.query.now.encoded.now.structure ∷ (c.args.query.now.encoded.now.rules ++ ws)))
    c.as_slice-2.ensures)

pub returns-clause-light : goal.returns-clause-light
returns-clause-light c =
    variables_light c.args.query.now.encoded.now.circuit c.args.query.now.root c.in_ok-clauses.clauses
    (limit_of c.args.query.now.read.now c.args.query.now.question.now) c.in_ok-clauses.ensures c.args.query.now.known.asked.few
