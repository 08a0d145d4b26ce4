use Rattle.std.proofs.Common.{◌≢◌, ◌+◌, ◌-◌, get_or, arith}
use Rattle.std.proofs.lemmas.Grind.{common_steps}
use Rattle.cdcl_search.specs.Explanations.{AreMarksBelow}
use Rattle.cdcl_search.proofs.Explain_steps.{enough, top_above, has_reason}
use Rattle.cdcl_search.proofs.analysis.Analysis.explain.Goals as goal

pub loop-self-init : goal.loop-self-init
loop-self-init c = record {
  explained = c.in_ok-begin.ensures.explained;
  top = c.in_ok-begin.ensures.top;
  within = omega arith;
  enough = enough c.args.arena.now c.args.trail.now c.args.base c.args.floor c.args.conflict _ _ _ c.requires.state c.requires.base c.requires.conflict c.requires.is_false c.in_ok-begin.ensures.explained.marked c.in_ok-begin.ensures.all;
  start = c.in_ok-begin.ensures.start;
  size = c.in_ok-begin.ensures.size;
}

pub overflow_sub-top : goal.overflow_sub-top
overflow_sub-top c =
    let b = top_above _ _ _ _ _ _ _ _ c.loop-self.invariant.explained.marked c.loop-self.invariant.top (omega arith) in
    omega (arith, b)

pub resolve-requires-clause-last : goal.resolve-requires-clause-last
resolve-requires-clause-last c =
    let b = top_above _ _ _ _ _ _ _ _ c.loop-self.invariant.explained.marked c.loop-self.invariant.top (omega arith) in
    omega (arith, b)

pub resolve-requires-clause-reasoned : goal.resolve-requires-clause-reasoned
resolve-requires-clause-reasoned c =
    let b = top_above _ _ _ _ _ _ _ _ c.loop-self.invariant.explained.marked c.loop-self.invariant.top (omega arith) in
    let m : get_or c.loop-self.self.marks.items (c.loop-self.top - 1) 0 ≢ 0 = λ e. c.if-index-ne0.true (grind (arith, common_steps)) in
    let t : AreMarksBelow c.loop-self.self.marks.items (c.loop-self.top - 1 + 1) = λ p x. omega (arith, c.loop-self.invariant.top p x) in
    has_reason c.args.arena.now c.args.trail.now c.args.base c.args.floor (c.loop-self.top - 1) _ _ _ c.requires.state c.requires.base c.loop-self.invariant.explained.marked (omega (arith, b, c.loop-self.invariant.within)) (omega (arith, b)) m t (omega arith)

pub loop-self-smaller : goal.loop-self-smaller
loop-self-smaller c =
    let b = top_above _ _ _ _ _ _ _ _ c.loop-self.invariant.explained.marked c.loop-self.invariant.top (omega arith) in
    omega (arith, b)
