use Rattle.std.proofs.Common.{◌≡◌, ◌-◌, ◌++◌, [], ◌∷◌, length, get_or, arith, ◌∙◌, ap, subst}
use Rattle.clause_store.specs.declared.derivation.Chain.{Chain}
use Rattle.cdcl_search.specs.Literals.{flip}
use Rattle.cdcl_search.specs.Learnings.{IsAsserting}
use Rattle.cdcl_search.specs.Derivations.{IsClauseOf, IsTraced}
use Rattle.cdcl_search.proofs.Learn_steps.{taught, taught_new, taught_no_tautology, taught_some, taught_traced}
use Rattle.cdcl_search.proofs.teaching.teach.Goals as goal

pub returns-in-Ok-clause-taught : goal.returns-in-Ok-clause-taught
returns-in-Ok-clause-taught c =
    let t = c.args.trail.now in
    let place = c.in_ok-place.place in
    let lower = c.in_ok-kept.kept.items in
    let codes = taught t place lower in
    let chain : Chain = record { start = c.args.analysis.now.start; steps = c.in_ok-steps.steps; result = c.in_ok-result.result } in
    let cl : c.in_ok-place.clause.items ≡ codes = c.in_ok-place.ensures.clause ∙ ap (λ x. x ++ flip (get_or t.literals.items place 0) ∷ []) c.deref.ensures.value in
    let st : c.learn.new.arena ≡ c.args.arena.now ++ codes ∷ [] = c.in-Ok.ensures.store ∙ ap (λ x. c.args.arena.now ++ x ∷ []) (c.deref-4.ensures.value ∙ cl) in
    let a : IsAsserting t c.args.base place lower = subst (IsAsserting t c.args.base place) c.deref.ensures.value c.in_ok-place.ensures.asserting in
    let traced : IsTraced c.args.arena.now c.args.analysis.now.start c.in_ok-steps.steps codes = rw (c.in_ok-steps.ensures, c.deref-3.ensures.value) (taught_traced c.args.arena.now t c.args.base place c.args.analysis.now lower c.requires.state c.requires.explained c.requires.counter a c.in_ok-place.ensures.mark c.in_ok-kept.ensures) in
    let result : IsClauseOf codes c.in_ok-result.result = rw (c.deref-2.ensures.value, cl) at c.in_ok-result.ensures in
    record {
      chain = chain;
      codes = codes;
      adds = record {
        chain_added = c.in_ok-push.ensures.items;
        clause_added = st;
        result_is = result;
        traced = traced;
      };
      new = taught_new c.args.arena.now t c.args.base place (length t.limits.items - 1) lower c.requires.state (omega (arith, c.requires.some)) c.requires.base a;
      no_tautology = taught_no_tautology t c.args.base place lower c.requires.state.search.trail a;
      some = taught_some t place lower;
    }
