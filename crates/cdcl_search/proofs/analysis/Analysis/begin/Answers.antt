use Rattle.std.proofs.Common.{◌≡◌, [], get_or, arith, ◌∙◌, ap}
use Rattle.cdcl_search.specs.Marks.{Grown}
use Rattle.cdcl_search.proofs.Members.{Has-index}
use Rattle.cdcl_search.proofs.Explain_steps.{fresh, begun_covers, begun_top}
use Rattle.cdcl_search.proofs.analysis.Analysis.begin.Goals as goal

pub mark_clause-requires-clause-marked : goal.mark_clause-requires-clause-marked
mark_clause-requires-clause-marked c = rw c.clear.ensures.items (fresh _ _ _ _ _ c.ready.ensures.zero (c.ready.ensures.len ∙ c.requires.size))

pub returns-clause-explained : goal.returns-clause-explained
returns-clause-explained c =
    let g : Grown c.args.trail.now.places.items c.ready.new.marks.items c.mark_clause.new.self.marks.items (get_or c.args.arena.now c.args.conflict []) 4294967295 = rw (← c.clause.ensures) c.in_ok-mark_clause.ensures.grown in
    let s : c.mark_clause.new.self.steps.items ≡ [] = ap (λ x. x.items) c.in_ok-mark_clause.ensures.steps ∙ c.clear-2.ensures.items in
    record {
      start = rw c.in_ok-mark_clause.ensures.start c.requires.conflict;
      marked = c.in_ok-mark_clause.ensures.marked;
      lawful = rw s tt;
      covers = rw (c.in_ok-mark_clause.ensures.start, s) (begun_covers c.args.arena.now c.args.trail.now _ _ _ c.requires.state c.requires.is_false (λ j h e. omega (arith, e, c.requires.state.within c.args.conflict c.requires.conflict j h, c.requires.state.few)) c.ready.ensures.zero g);
    }

pub returns-clause-top : goal.returns-clause-top
returns-clause-top c =
    let g : Grown c.args.trail.now.places.items c.ready.new.marks.items c.mark_clause.new.self.marks.items (get_or c.args.arena.now c.args.conflict []) 4294967295 = rw (← c.clause.ensures) c.in_ok-mark_clause.ensures.grown in
    begun_top c.args.trail.now _ _ _ c.requires.is_false c.ready.ensures.zero g

pub returns-clause-all : goal.returns-clause-all
returns-clause-all c = λ l h.
    let g : Grown c.args.trail.now.places.items c.ready.new.marks.items c.mark_clause.new.self.marks.items (get_or c.args.arena.now c.args.conflict []) 4294967295 = rw (← c.clause.ensures) c.in_ok-mark_clause.ensures.grown in
    let r = Has-index _ _ h in
    g.adds l h (λ e. omega (arith, e, r.2, c.requires.state.within c.args.conflict c.requires.conflict r.0 r.1, c.requires.state.few))
