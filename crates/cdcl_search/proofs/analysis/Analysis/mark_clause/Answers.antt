use Rattle.std.proofs.Common.{◌≡◌, length, arith, ◌∙◌, subst}
use Rattle.cdcl_search.specs.Marks.{GrownTo}
use Rattle.cdcl_search.proofs.Mark_steps.{grown_skip, grown_more, grown_all}
use Rattle.cdcl_search.proofs.analysis.Analysis.mark_clause.Goals as goal
use Rattle.cdcl_search.proofs.analysis.Analysis.mark_clause.Goals.{then-literal-skip+in_ok-mark, else-literal-skip}

pub loop-literal-preserved : goal.loop-literal-preserved
loop-literal-preserved c = elim c.if-literal-skip.branch [
  | then-literal-skip+in_ok-mark w ↦ rw w.self-is (record {
    marked = w.in_ok-mark.ensures.marked;
    grown = grown_more _ _ _ _ _ _ _ c.loop-literal.invariant.grown (omega arith) w.if-literal-skip.true w.in_ok-mark.ensures.one;
    start = w.in_ok-mark.ensures.start ∙ c.loop-literal.invariant.start;
    steps = w.in_ok-mark.ensures.steps ∙ c.loop-literal.invariant.steps;
    counter = omega (arith, w.in_ok-mark.ensures.counter, c.loop-literal.invariant.counter);
    size = w.in_ok-mark.ensures.size ∙ c.loop-literal.invariant.size;
  })
  | else-literal-skip w ↦ rw w.self-is (record {
    marked = c.loop-literal.invariant.marked;
    grown = grown_skip _ _ _ _ _ _ c.loop-literal.invariant.grown w.if-literal-skip.false;
    start = c.loop-literal.invariant.start;
    steps = c.loop-literal.invariant.steps;
    counter = c.loop-literal.invariant.counter;
    size = c.loop-literal.invariant.size;
  })
]

pub returns-clause-grown : goal.returns-clause-grown
returns-clause-grown c =
    let e : c.loop-literal.literal-index ≡ length c.args.clause.now = omega arith in
    grown_all _ _ _ _ _ (subst (λ i. GrownTo c.args.trail.now.places.items c.args.self.now.marks.items c.loop-literal.self.marks.items c.args.clause.now c.args.skip i) e c.loop-literal.invariant.grown)
