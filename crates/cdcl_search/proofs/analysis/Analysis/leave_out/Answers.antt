use Rattle.std.proofs.Common.{ℕ, ◌≡◌, ◌≢◌, [], ◌/◌, get_or, arith, ap, ◌∙◌}
use Rattle.std.proofs.lemmas.Grind.{common_steps}
use Rattle.clause_store.specs.declared.derivation.Step.{Step}
use Rattle.cdcl_search.specs.Literals.{Has}
use Rattle.cdcl_search.specs.Searches.{Forces}
use Rattle.cdcl_search.proofs.Members.{Has-at}
use Rattle.cdcl_search.proofs.Mark_steps.{others_false, thinned}
use Rattle.cdcl_search.proofs.Trail_steps.{literal_within}
use Rattle.cdcl_search.proofs.Explain_steps.{reason_at, left_out}
use Rattle.cdcl_search.proofs.analysis.Analysis.leave_out.Goals as goal

pub index-reason-requires : goal.index-reason-requires
index-reason-requires c =
    let s = c.requires.state.search in
    let n = s.trail.open_count in
    let w = literal_within _ _ _ _ c.args.at s.trail c.requires.within in
    let l : c.index-forced.result.now ≡ get_or c.args.trail.now.literals.items c.args.at 0 = grind (arith, common_steps) in
    omega (arith, l, w, s.reasons_len, c.args.trail.now.reasons.ok)

pub clause-requires : goal.clause-requires
clause-requires c =
    let s = c.requires.state.search in
    let n = s.trail.open_count in
    let w = literal_within _ _ _ _ c.args.at s.trail c.requires.within in
    let l : c.index-forced.result.now ≡ get_or c.args.trail.now.literals.items c.args.at 0 = grind (arith, common_steps) in
    let k = s.reasons_len in
    let r : c.index-reason.result.now ≡ reason_at c.args.trail.now c.args.at = rw (← l) (grind (arith, common_steps)) in
    rw r (s.reason_below c.args.at c.requires.within (λ e. c.if-reason.false (r ∙ e)))

pub are_marked-requires-clause-are_false : goal.are_marked-requires-clause-are_false
are_marked-requires-clause-are_false c = λ j h n.
    let s = c.requires.state.search in
    let o = s.trail.open_count in
    let w = literal_within _ _ _ _ c.args.at s.trail c.requires.within in
    let l : c.index-forced.result.now ≡ get_or c.args.trail.now.literals.items c.args.at 0 = grind (arith, common_steps) in
    let k = s.reasons_len in
    let r : c.index-reason.result.now ≡ reason_at c.args.trail.now c.args.at = rw (← l) (grind (arith, common_steps)) in
    let f : Forces c.args.trail.now.values.items c.args.trail.now.places.items c.clause.result.now c.index-forced.result.now c.args.at = rw (c.clause.ensures, l, r) (s.forces c.args.at c.requires.within (λ e. c.if-reason.false (r ∙ e))) in
    (others_false _ _ _ _ _ _ f (Has-at _ _ h) n).value

pub returns-clause-explained : goal.returns-clause-explained
returns-clause-explained c =
    let s = c.requires.state.search in
    let o = s.trail.open_count in
    let w = literal_within _ _ _ _ c.args.at s.trail c.requires.within in
    let l : c.index-forced.result.now ≡ get_or c.args.trail.now.literals.items c.args.at 0 = grind (arith, common_steps) in
    let k = s.reasons_len in
    let r : c.index-reason.result.now ≡ reason_at c.args.trail.now c.args.at = rw (← l) (grind (arith, common_steps)) in
    let z = c.requires.explained.marked.len in
    let m : c.index.result.now ≡ get_or c.args.self.now.marks.items c.args.at 0 = grind (arith, common_steps) in
    let step : Step = record { clause = c.index-reason.result.now; pivot = c.index-forced.result.now / 2 } in
    let q : c.index-forced.result.now / 2 ≡ get_or c.args.trail.now.literals.items c.args.at 0 / 2 = ap (λ x. x / 2) l in
    let i : (y : ℕ) → Has (get_or c.args.arena.now c.index-reason.result.now []) y → y ≢ get_or c.args.trail.now.literals.items c.args.at 0 → get_or c.args.self.now.marks.items (get_or c.args.trail.now.places.items (y / 2) 0) 0 ≢ 0
    = λ y h n. c.are_marked.ensures c.if-not-are_marked.false y (rw c.clause.ensures h) (λ e. n (e ∙ l)) in
    let g = left_out c.args.arena.now c.args.trail.now c.args.base c.args.at c.args.self.now step c.requires.state c.requires.explained c.requires.within c.requires.before (λ e. c.if-index-eq0.false (m ∙ e)) (λ e. c.if-reason.false (r ∙ e)) r q i in
    record {
      start = c.requires.explained.start;
      marked = thinned _ _ _ _ _ _ _ c.args.at c.requires.explained.marked c.requires.before;
      lawful = rw c.in_ok-push.ensures.items g.0;
      covers = rw c.in_ok-push.ensures.items g.1;
    }
