use Rattle.std.proofs.Common.{map, ap, subst, sym, ◌∙◌}
use Rattle.std.specs.Prelude.{List}
use Rattle.cdcl_search.specs.Progress.{assignment_of}
use Rattle.clf_tree.specs.declared.model.Clafer.{Clafer}
use Rattle.clf_tree.specs.Lists.{numbers_below}
use Rattle.set_bits.specs.Fitting.{Fits}
use Rattle.question_space.specs.Queries.{limit_of}
use Rattle.question_space.proofs.verdicts.found.Goals as goal
use Rattle.question_space.proofs.Deciding.{found_shows, found_satisfies, found_admitted, found_canonical}

pub decode-requires-clause-fits : goal.decode-requires-clause-fits
decode-requires-clause-fits c =
    let query = c.args.query.now in
    subst (λ (cs : List Clafer). Fits cs query.read.now.scopes query.layout.now) (sym query.known.same) query.known.asked.wires.placed.fits

pub decode-requires-clause-shows : goal.decode-requires-clause-shows
decode-requires-clause-shows c =
    found_shows (record {
      shaped = c.shaped_bits_show_a_tree.ensures;
      alone = c.the_told_instance_alone_is_shown.ensures;
      spelled = c.each_instance_has_bits.ensures;
      tested = c.canonical_slots_show_canonical_instances.ensures.shown;
      canonical = c.each_instance_has_a_canonical_one.ensures.satisfying;
    })
    c.args.query.now.read.now.model c.args.query.now.read.now.scopes c.args.query.now.question.now
    (limit_of c.args.query.now.read.now c.args.query.now.question.now)
    c.args.query.now.layout.now c.args.query.now.encoded.now.circuit c.args.query.now.encoded.now.structure
    c.args.query.now.encoded.now.rules c.args.query.now.tests.now c.args.query.now.root
    c.args.query.now.known.asked (assignment_of c.args.values.now) c.requires c.as_slice.result.now
    (c.as_slice.ensures ∙ c.in_ok-bits.ensures ∙ ap (λ n. map (assignment_of c.args.values.now) (numbers_below n)) c.inputs.ensures)
    c.args.query.now.encoded.now.core.clafers c.args.query.now.known.same

pub returns-clause-satisfied : goal.returns-clause-satisfied
returns-clause-satisfied c =
    found_satisfies (record {
      shaped = c.shaped_bits_show_a_tree.ensures;
      alone = c.the_told_instance_alone_is_shown.ensures;
      spelled = c.each_instance_has_bits.ensures;
      tested = c.canonical_slots_show_canonical_instances.ensures.shown;
      canonical = c.each_instance_has_a_canonical_one.ensures.satisfying;
    })
    c.args.query.now.read.now.model c.args.query.now.read.now.scopes c.args.query.now.question.now
    (limit_of c.args.query.now.read.now c.args.query.now.question.now)
    c.args.query.now.layout.now c.args.query.now.encoded.now.circuit c.args.query.now.encoded.now.structure
    c.args.query.now.encoded.now.rules c.args.query.now.tests.now c.args.query.now.root
    c.args.query.now.known.asked (assignment_of c.args.values.now) c.requires c.as_slice.result.now
    (c.as_slice.ensures ∙ c.in_ok-bits.ensures ∙ ap (λ n. map (assignment_of c.args.values.now) (numbers_below n)) c.inputs.ensures)
    c.args.query.now.encoded.now.core.clafers c.args.query.now.known.same
    c.in_ok-instance.instance.entries c.in_ok-instance.ensures.alone

pub returns-clause-admitted : goal.returns-clause-admitted
returns-clause-admitted c =
    found_admitted (record {
      shaped = c.shaped_bits_show_a_tree.ensures;
      alone = c.the_told_instance_alone_is_shown.ensures;
      spelled = c.each_instance_has_bits.ensures;
      tested = c.canonical_slots_show_canonical_instances.ensures.shown;
      canonical = c.each_instance_has_a_canonical_one.ensures.satisfying;
    })
    c.args.query.now.read.now.model c.args.query.now.read.now.scopes c.args.query.now.question.now
    (limit_of c.args.query.now.read.now c.args.query.now.question.now)
    c.args.query.now.layout.now c.args.query.now.encoded.now.circuit c.args.query.now.encoded.now.structure
    c.args.query.now.encoded.now.rules c.args.query.now.tests.now c.args.query.now.root
    c.args.query.now.known.asked (assignment_of c.args.values.now) c.requires c.as_slice.result.now
    (c.as_slice.ensures ∙ c.in_ok-bits.ensures ∙ ap (λ n. map (assignment_of c.args.values.now) (numbers_below n)) c.inputs.ensures)
    c.args.query.now.encoded.now.core.clafers c.args.query.now.known.same
    c.in_ok-instance.instance.entries c.in_ok-instance.ensures.alone

pub returns-clause-canonical : goal.returns-clause-canonical
returns-clause-canonical c =
    found_canonical (record {
      shaped = c.shaped_bits_show_a_tree.ensures;
      alone = c.the_told_instance_alone_is_shown.ensures;
      spelled = c.each_instance_has_bits.ensures;
      tested = c.canonical_slots_show_canonical_instances.ensures.shown;
      canonical = c.each_instance_has_a_canonical_one.ensures.satisfying;
    })
    c.args.query.now.read.now.model c.args.query.now.read.now.scopes c.args.query.now.question.now
    (limit_of c.args.query.now.read.now c.args.query.now.question.now)
    c.args.query.now.layout.now c.args.query.now.encoded.now.circuit c.args.query.now.encoded.now.structure
    c.args.query.now.encoded.now.rules c.args.query.now.tests.now c.args.query.now.root
    c.args.query.now.known.asked (assignment_of c.args.values.now) c.requires c.as_slice.result.now
    (c.as_slice.ensures ∙ c.in_ok-bits.ensures ∙ ap (λ n. map (assignment_of c.args.values.now) (numbers_below n)) c.inputs.ensures)
    c.args.query.now.encoded.now.core.clafers c.args.query.now.known.same
    c.in_ok-instance.instance.entries c.in_ok-instance.ensures.alone
