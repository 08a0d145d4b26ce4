use Rattle.std.proofs.Common.{◌≡◌, ◌+◌, ◌-◌, ◌/◌, [], length, get_or, arith, ◌∙◌, ap}
use Rattle.std.proofs.lemmas.Grind.{common_steps}
use Rattle.std.proofs.Common.{◌∷◌, ◌++◌}
use Rattle.clause_store.specs.declared.derivation.Step.{Step}
use Rattle.cdcl_search.specs.Searches.{Forces}
use Rattle.cdcl_search.specs.Marks.{IsMarked, Grown}
use Rattle.cdcl_search.proofs.Members.{Has-at}
use Rattle.cdcl_search.proofs.Mark_steps.{others_false, unmarked}
use Rattle.cdcl_search.proofs.Explain_steps.{reason_at, at_least_one, explained_lawful, explained_covers, grown_top}
use Rattle.cdcl_search.proofs.analysis.Analysis.resolve.Goals as goal

pub mark_clause-requires-clause-are_false : goal.mark_clause-requires-clause-are_false
mark_clause-requires-clause-are_false c = λ j h n.
    let l : c.index-literal.result.now ≡ get_or c.args.trail.now.literals.items c.args.at 0 = grind (arith, common_steps) in
    let r : c.index-reason.result.now ≡ reason_at c.args.trail.now c.args.at = rw (← l) (grind (arith, common_steps)) in
    let f : Forces c.args.trail.now.values.items c.args.trail.now.places.items c.clause.result.now c.index-literal.result.now c.args.at = rw (c.clause.ensures, l, r) (c.requires.state.search.forces c.args.at c.requires.within c.requires.reasoned) in
    (others_false _ _ _ _ _ _ f (Has-at _ _ h) n).value

pub overflow_sub-self : goal.overflow_sub-self
overflow_sub-self c =
    at_least_one _ _ _ _ _ _ _ _ c.in_ok-mark_clause.ensures.marked c.requires.last (c.in_ok-mark_clause.ensures.grown.keeps c.args.at c.requires.here)

pub returns-clause-explained : goal.returns-clause-explained
returns-clause-explained c =
    let l : c.index-literal.result.now ≡ get_or c.args.trail.now.literals.items c.args.at 0 = grind (arith, common_steps) in
    let r : c.index-reason.result.now ≡ reason_at c.args.trail.now c.args.at = rw (← l) (grind (arith, common_steps)) in
    let g : Grown c.args.trail.now.places.items c.args.self.now.marks.items c.mark_clause.new.self.marks.items (get_or c.args.arena.now c.index-reason.result.now []) (get_or c.args.trail.now.literals.items c.args.at 0) = rw (← c.clause.ensures, ← l) c.in_ok-mark_clause.ensures.grown in
    let one = at_least_one _ _ _ _ _ _ _ _ c.in_ok-mark_clause.ensures.marked c.requires.last (c.in_ok-mark_clause.ensures.grown.keeps c.args.at c.requires.here) in
    let e : c.mark_clause.new.self.counter ≡ c.mark_clause.new.self.counter - 1 + 1 = omega arith in
    let m : IsMarked c.args.trail.now.values.items c.args.trail.now.places.items c.args.base (length c.args.trail.now.literals.items) c.mark_clause.new.self.marks.items c.mark_clause.new.self.lower.items (c.mark_clause.new.self.counter - 1 + 1) = rw (← e) c.in_ok-mark_clause.ensures.marked in
    let s : Step = record { clause = c.index-reason.result.now; pivot = c.index-literal.result.now / 2 } in
    let q : c.index-literal.result.now / 2 ≡ get_or c.args.trail.now.literals.items c.args.at 0 / 2 = ap (λ x. x / 2) l in
    let v : c.push.new.self.items ≡ c.args.self.now.steps.items ++ s ∷ [] = c.in_ok-push.ensures.items ∙ ap (λ x. x.items ++ s ∷ []) c.in_ok-mark_clause.ensures.steps in
    record {
      start = rw c.in_ok-mark_clause.ensures.start c.requires.explained.start;
      marked = unmarked _ _ _ _ _ _ _ _ m c.requires.last (c.in_ok-mark_clause.ensures.grown.keeps c.args.at c.requires.here);
      lawful = rw (c.in_ok-mark_clause.ensures.start, v) (explained_lawful _ c.args.trail.now c.args.base c.args.at c.args.self.now s c.requires.state c.requires.explained c.requires.within c.requires.here c.requires.reasoned r q);
      covers = rw (c.in_ok-mark_clause.ensures.start, v) (explained_covers _ c.args.trail.now c.args.base c.args.at c.args.self.now s _ c.requires.state c.requires.explained c.requires.within c.requires.reasoned r q g c.in_ok-mark_clause.ensures.marked.len);
    }

pub returns-clause-top : goal.returns-clause-top
returns-clause-top c =
    let l : c.index-literal.result.now ≡ get_or c.args.trail.now.literals.items c.args.at 0 = grind (arith, common_steps) in
    let r : c.index-reason.result.now ≡ reason_at c.args.trail.now c.args.at = rw (← l) (grind (arith, common_steps)) in
    let g : Grown c.args.trail.now.places.items c.args.self.now.marks.items c.mark_clause.new.self.marks.items (get_or c.args.arena.now c.index-reason.result.now []) (get_or c.args.trail.now.literals.items c.args.at 0) = rw (← c.clause.ensures, ← l) c.in_ok-mark_clause.ensures.grown in
    let f : Forces c.args.trail.now.values.items c.args.trail.now.places.items (get_or c.args.arena.now c.index-reason.result.now []) (get_or c.args.trail.now.literals.items c.args.at 0) c.args.at = rw r (c.requires.state.search.forces c.args.at c.requires.within c.requires.reasoned) in
    grown_top c.args.arena.now c.args.trail.now c.args.at c.index-reason.result.now _ _ f g c.requires.top (omega (arith, c.in_ok-mark_clause.ensures.marked.len, c.requires.state.search.trail.open_count))
