use Rattle.std.proofs.Common.{length, refl, sym, ap, ◌∙◌}
use Rattle.std.proofs.lemmas.Bool.{eqb-true, eqb-false}
use Rattle.std.proofs.lemmas.List.{nil_from_length}
use Rattle.proof_checker.proofs.Derivations.{known_below, lawful_onward, lawful_back, empty_here, empty_before, empty_earlier}
use Rattle.proof_checker.proofs.chains.refutes.Goals as goal
use Rattle.proof_checker.proofs.chains.refutes.Goals.{then-is_empty, else-is_empty}

pub is_lawful_chain-requires-clause-known : goal.is_lawful_chain-requires-clause-known
is_lawful_chain-requires-clause-known c =
    rw c.loop-at.auto.marks (known_below (length c.args.marks.now) c.args.clauses.now.clauses c.args.chains.now c.loop-at.at c.requires.clauses c.requires.chains)

pub is_lawful_chain-requires-clause-chain : goal.is_lawful_chain-requires-clause-chain
is_lawful_chain-requires-clause-chain c =
    let h = c.requires.chains c.loop-at.at c.index-chains-at.result c.loop-at-test.true in
    rw c.loop-at.auto.marks (rw (← c.index-chains-at.is) at h)

pub loop-at-preserved : goal.loop-at-preserved
loop-at-preserved c =
    let given = c.args.clauses.now.clauses in
    let chains = c.args.chains.now in
    let i = c.loop-at.at in
    let chain = c.index-chains-at.result in
    let within = c.loop-at-test.true in
    let is = c.index-chains-at.is in
    let literals = c.literals.result.now in
    let value = c.literals.ensures.value in
    let says = c.if-not-is_lawful_chain.ensures in
    record {
      clear = says.clear refl;
      onward = λ h. c.loop-at.invariant.onward (lawful_onward given chains i chain within is (says.lawful.0 refl) h);
      back = λ h. lawful_back given chains i chain within is (c.loop-at.invariant.back h);
      empty = elim c.if-is_empty.branch [
        | then-is_empty w ↦ (
          λ _. empty_here given chains i chain within is (sym value ∙ nil_from_length literals (eqb-true (length literals) 0 (sym c.is_empty.ensures ∙ w.if-is_empty.true))),
          λ _. w.found-is,
        )
        | else-is_empty w ↦ (
          λ t. empty_before given chains i chain within is (c.loop-at.invariant.empty.0 (sym w.found-is ∙ t)),
          λ a. w.found-is ∙ c.loop-at.invariant.empty.1 (empty_earlier given chains i chain within is (λ e. eqb-false (length literals) 0 (sym c.is_empty.ensures ∙ w.if-is_empty.false) (ap length (value ∙ e))) a),
        )
      ];
    }
