use Rattle.std.proofs.Common.{◌≡◌, ◌+◌, [], length, get_or, arith, ◌∙◌}
use Rattle.cdcl_search.specs.Watchings.{IsVisiting}
use Rattle.cdcl_search.proofs.propagation.visit_all.Goals as goal

pub loop-index-preserved-in-Passed : goal.loop-index-preserved-in-Passed
loop-index-preserved-in-Passed c =
    let v : IsVisiting c.args.arena.now c.visit_one.new.trail c.visit_one.new.watches c.args.literal (c.loop-index.index + 1) × (length (get_or c.visit_one.new.watches.lists c.args.literal []) ≡ length (get_or c.loop-index.watches.lists c.args.literal []))
    = rw c.in-Passed.is at c.in_ok-visit_one.ensures.visited in
    record {
      state = c.in_ok-visit_one.ensures.state;
      visiting = v.0;
      within = omega (arith, v.1, c.loop-index-test.true, c.len.ensures);
      levels = c.in_ok-visit_one.ensures.levels ∙ c.loop-index.invariant.levels;
      size = c.in_ok-visit_one.ensures.size ∙ c.loop-index.invariant.size;
      further = omega (arith, c.in_ok-visit_one.ensures.further, c.loop-index.invariant.further);
      done = c.in_ok-visit_one.ensures.done ∙ c.loop-index.invariant.done;
      short = c.in_ok-visit_one.ensures.short ∙ c.loop-index.invariant.short;
      keeps = λ l t. c.in_ok-visit_one.ensures.keeps l (c.loop-index.invariant.keeps l t);
    }

pub loop-index-preserved : goal.loop-index-preserved
loop-index-preserved c =
    let v : IsVisiting c.args.arena.now c.visit_one.new.trail c.visit_one.new.watches c.args.literal c.loop-index.index × (length (get_or c.visit_one.new.watches.lists c.args.literal []) + 1 ≡ length (get_or c.loop-index.watches.lists c.args.literal []))
    = rw c.in-Moved.is at c.in_ok-visit_one.ensures.visited in
    record {
      state = c.in_ok-visit_one.ensures.state;
      visiting = v.0;
      within = omega (arith, v.1, c.loop-index-test.true, c.len.ensures);
      levels = c.in_ok-visit_one.ensures.levels ∙ c.loop-index.invariant.levels;
      size = c.in_ok-visit_one.ensures.size ∙ c.loop-index.invariant.size;
      further = omega (arith, c.in_ok-visit_one.ensures.further, c.loop-index.invariant.further);
      done = c.in_ok-visit_one.ensures.done ∙ c.loop-index.invariant.done;
      short = c.in_ok-visit_one.ensures.short ∙ c.loop-index.invariant.short;
      keeps = λ l t. c.in_ok-visit_one.ensures.keeps l (c.loop-index.invariant.keeps l t);
    }

pub returns-in-Conflict-clause-keeps : goal.returns-in-Conflict-clause-keeps
returns-in-Conflict-clause-keeps c = λ l t. c.in_ok-visit_one.ensures.keeps l (c.loop-index.invariant.keeps l t)
