use Rattle.std.proofs.Common.{◌||◌, refl, sym, ap, ◌∙◌, arith}
use Rattle.clause_store.specs.declared.derivation.Step.{Step}
use Rattle.clause_store.specs.Literals.{literals_of}
use Rattle.clause_store.specs.Store.{clause_at}
use Rattle.proof_checker.specs.Marks.{marked}
use Rattle.clause_store.specs.Resolution.{known_clauses}
use Rattle.proof_checker.proofs.Marking.{count_from_clear}
use Rattle.proof_checker.proofs.Chaining.{Same, ResolvesTo-same, step_back, step_onward}
use Rattle.proof_checker.proofs.chains.is_lawful_chain.Goals as goal

pub loop-step-init : goal.loop-step-init
loop-step-init c =
    let known = known_clauses c.args.clauses.now.clauses c.args.earlier.now in
    let first = literals_of (clause_at known c.args.chain.now.start) in
    let m = marked c.mark-count.new.marks in
    let outcome = literals_of c.args.chain.now.result in
    let steps = c.as_slice-steps.result.now in
    let none = count_from_clear c.args.marks.now c.requires.clear in
    let same : Same m first = λ code. c.mark-count.ensures.marks code ∙ (ap (λ b. b || literals_of c.in-Some.start.now code) (c.requires.clear code) ∙ ap (λ x. literals_of x code) c.in-Some.ensures.1) in
    record {
      count = omega (arith, c.mark-count.ensures.count);
      onward = ResolvesTo-same known m first same steps outcome;
      back = ResolvesTo-same known first m (λ code. sym (same code)) steps outcome;
    }

pub loop-step-preserved : goal.loop-step-preserved
loop-step-preserved c =
    let o : Step = record { clause = 0; pivot = 0 } in
    let known = known_clauses c.args.clauses.now.clauses c.args.earlier.now in
    let m = marked c.loop-step.marks in
    let n = marked c.resolve.new.marks in
    let outcome = literals_of c.args.chain.now.result in
    let steps = c.as_slice-steps.result.now in
    let i = c.loop-step.step-index in
    let within = c.loop-step-test.true in
    let named = c.in-Some-clause_named.ensures in
    let clash = rw named.1 at (c.in-Some-resolve.ensures.clash.0 refl) in
    let marks = rw named.1 at (c.in-Some-resolve.ensures.marks refl) in
    record {
      count = c.in-Some-resolve.ensures.count;
      onward = λ h. c.loop-step.invariant.onward (step_onward known m n steps i o outcome within marks named.0 clash h);
      back = λ h. step_back known m n steps i o outcome within marks (c.loop-step.invariant.back h);
    }
