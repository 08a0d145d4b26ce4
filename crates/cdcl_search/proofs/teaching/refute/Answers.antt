use Rattle.std.proofs.Common.{◌≡◌, [], ◌∙◌, subst}
use Rattle.clause_store.specs.declared.derivation.Chain.{Chain}
use Rattle.cdcl_search.proofs.Learn_steps.{refuted_traced}
use Rattle.cdcl_search.specs.Derivations.{IsTraced}
use Rattle.cdcl_search.proofs.Resolution.{clause_of_codes}
use Rattle.cdcl_search.proofs.Jump_steps.{refuted_state}
use Rattle.cdcl_search.specs.Changes.{Keeps, IsAddedShort}
use Rattle.cdcl_search.proofs.Add_steps.{watching_kept, refuted_watching}
use Rattle.cdcl_search.proofs.teaching.refute.Goals as goal

pub returns-in-Ok-clause-state : goal.returns-in-Ok-clause-state
returns-in-Ok-clause-state c = refuted_state c.args.arena.now c.push-2.new.self c.args.trail.now c.requires.state c.requires.none c.requires.few c.in-Ok.ensures

pub returns-in-Ok-clause-refuted : goal.returns-in-Ok-clause-refuted
returns-in-Ok-clause-refuted c =
    let chain : Chain = record { start = c.explain.new.self.start; steps = c.in_ok-steps.steps; result = c.new-result.result } in
    let empty : c.new-result.result ≡ [] = c.new-result.ensures ∙ c.new.ensures in
    let traced : IsTraced c.args.arena.now c.explain.new.self.start c.in_ok-steps.steps [] = rw (c.in_ok-steps.ensures, c.deref.ensures.value) (refuted_traced c.args.arena.now c.args.trail.now c.explain.new.self c.in_ok-explain.ensures.explained c.in_ok-explain.ensures.counter) in
    record {
      chain = chain;
      adds = record {
        chain_added = c.in_ok-push.ensures.items;
        clause_added = c.in-Ok.ensures;
        result_is = rw empty (clause_of_codes []);
        traced = traced;
      };
      empty = empty;
    }

pub returns-in-Ok-clause-watching : goal.returns-in-Ok-clause-watching
returns-in-Ok-clause-watching c = refuted_watching c.args.arena.now c.push-2.new.self c.args.trail.now c.args.watches.now c.add_short.new.self c.requires.watching
    (subst (λ n. Keeps c.args.watches.now c.add_short.new.self n) c.len.ensures c.add_short.ensures.keeps)
    (subst (λ n. IsAddedShort c.add_short.new.self n) c.len.ensures c.in_ok-add_short.ensures.added) c.in-Ok.ensures

pub returns-in_err-add_short-clause-watching : goal.returns-in_err-add_short-clause-watching
returns-in_err-add_short-clause-watching c = watching_kept c.args.arena.now c.args.trail.now c.args.watches.now c.add_short.new.self c.requires.watching (subst (λ n. Keeps c.args.watches.now c.add_short.new.self n) c.len.ensures c.add_short.ensures.keeps)

pub returns-in_err-push-clause-watching : goal.returns-in_err-push-clause-watching
returns-in_err-push-clause-watching c = watching_kept c.args.arena.now c.args.trail.now c.args.watches.now c.add_short.new.self c.requires.watching (subst (λ n. Keeps c.args.watches.now c.add_short.new.self n) c.len.ensures c.add_short.ensures.keeps)

pub returns-in-Err-clause-watching : goal.returns-in-Err-clause-watching
returns-in-Err-clause-watching c = rw c.in-Err.ensures (watching_kept c.args.arena.now c.args.trail.now c.args.watches.now c.add_short.new.self c.requires.watching (subst (λ n. Keeps c.args.watches.now c.add_short.new.self n) c.len.ensures c.add_short.ensures.keeps))

pub returns-in_err-steps-clause-watching : goal.returns-in_err-steps-clause-watching
returns-in_err-steps-clause-watching c = watching_kept c.args.arena.now c.args.trail.now c.args.watches.now c.add_short.new.self c.requires.watching (subst (λ n. Keeps c.args.watches.now c.add_short.new.self n) c.len.ensures c.add_short.ensures.keeps)
