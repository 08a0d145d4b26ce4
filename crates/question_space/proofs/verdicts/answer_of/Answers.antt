use Rattle.std.proofs.Common.{◌≡◌, true, Bool, List, map, ap, subst, sym, ◌∙◌}
use Rattle.bool_circuit.specs.Circuit.{wire_value}
use Rattle.cdcl_search.specs.Progress.{assignment_of}
use Rattle.certified_solver.specs.Verdicts.{IsRefutation}
use Rattle.clause_store.specs.declared.derivation.Chain.{Chain}
use Rattle.clause_store.specs.declared.derivation.Derivation.{Derivation}
use Rattle.clause_store.specs.Satisfaction.{SatisfiesAll}
use Rattle.clf_tree.specs.Lists.{numbers_below}
use Rattle.set_bits.specs.Fitting.{size}
use Rattle.question_space.specs.Queries.{limit_of}
use Rattle.question_space.proofs.Posed.{solved_root, unanswered}
use Rattle.question_space.proofs.verdicts.answer_of.Goals as goal

pub found-requires : goal.found-requires
found-requires c =
    let query = c.args.query.now in
    let all : SatisfiesAll (assignment_of c.in-Yes.values) c.args.clauses.now.clauses = rw c.in-Yes.is at c.requires.verdict in
    let root = solved_root (record {
      shaped = c.shaped_bits_show_a_tree.ensures;
      alone = c.the_told_instance_alone_is_shown.ensures;
      spelled = c.each_instance_has_bits.ensures;
      tested = c.canonical_slots_show_canonical_instances.ensures.shown;
      canonical = c.each_instance_has_a_canonical_one.ensures.satisfying;
    })
    c.args.query.now.read.now.model c.args.query.now.read.now.scopes c.args.query.now.question.now
    (limit_of c.args.query.now.read.now c.args.query.now.question.now)
    c.args.query.now.layout.now c.args.query.now.encoded.now.circuit c.args.query.now.encoded.now.structure
    c.args.query.now.encoded.now.rules c.args.query.now.tests.now c.args.query.now.root c.args.clauses.now
    query.known.asked c.requires.encodes (assignment_of c.in-Yes.values) all in
    subst (λ (vs : List Bool). wire_value query.encoded.now.circuit query.root
    (map (assignment_of vs) (numbers_below (size query.layout.now))) ≡ true) (sym c.as_slice.ensures) root

pub returns-in-No-clause-answer : goal.returns-in-No-clause-answer
returns-in-No-clause-answer c =
    let query = c.args.query.now in
    let given = c.args.clauses.now.clauses in
    let refuted : IsRefutation given c.in-No.refutation = rw c.in-No.is at c.requires.verdict in
    let chains : c.claim_of-made.result.derivation.chains ≡ c.in-No.refutation =
    ap (λ (d : Derivation). d.chains) c.claim_of-made.ensures.derivation ∙ c.into_derivation.ensures in (
      unanswered (record {
        shaped = c.shaped_bits_show_a_tree.ensures;
        alone = c.the_told_instance_alone_is_shown.ensures;
        spelled = c.each_instance_has_bits.ensures;
        tested = c.canonical_slots_show_canonical_instances.ensures.shown;
        canonical = c.each_instance_has_a_canonical_one.ensures.satisfying;
      })
          c.args.query.now.read.now.model c.args.query.now.read.now.scopes c.args.query.now.question.now
          (limit_of c.args.query.now.read.now c.args.query.now.question.now)
          c.args.query.now.layout.now c.args.query.now.encoded.now.circuit c.args.query.now.encoded.now.structure
          c.args.query.now.encoded.now.rules c.args.query.now.tests.now c.args.query.now.root c.args.clauses.now
          query.known.asked c.requires.encodes (c.refuted_is_unsatisfiable.ensures given c.in-No.refutation refuted.refutes),
      subst (λ (cs : List Chain). IsRefutation given cs) (sym chains) refuted,
      c.claim_of-made.ensures.given,
    )
