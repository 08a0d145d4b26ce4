use Rattle.std.proofs.Common.{◌≡◌, ◌<◌, [], length, get_or, arith, refl, ◌∙◌}
use Rattle.std.proofs.lemmas.Grind.{common_steps}
use Rattle.cdcl_search.specs.Watchings.{IsVisiting}
use Rattle.cdcl_search.proofs.Watch_steps.{visiting_begun, watching_next, watched_quiet, settled_grown}
use Rattle.cdcl_search.proofs.Trail_steps.{literal_within}
use Rattle.cdcl_search.proofs.propagation.drain.Goals as goal

pub flipped-literal-requires : goal.flipped-literal-requires
flipped-literal-requires c =
    let s = c.loop-watches.invariant.state in
    let b : c.loop-watches.watches.done < length c.loop-watches.trail.literals.items = omega (arith, c.loop-watches-test.true, s.search.trail.open_count) in
    let l : c.index.result.now ≡ get_or c.loop-watches.trail.literals.items c.loop-watches.watches.done 0 = grind (arith, common_steps) in
    let w = literal_within _ _ _ _ c.loop-watches.watches.done s.search.trail c.loop-watches-test.true in
    omega (arith, l, w, s.few)

pub visit_all-requires-clause-visiting : goal.visit_all-requires-clause-visiting
visit_all-requires-clause-visiting c =
    let s = c.loop-watches.invariant.state in
    let b : c.loop-watches.watches.done < length c.loop-watches.trail.literals.items = omega (arith, c.loop-watches-test.true, s.search.trail.open_count) in
    let l : c.index.result.now ≡ get_or c.loop-watches.trail.literals.items c.loop-watches.watches.done 0 = grind (arith, common_steps) in
    visiting_begun c.args.arena.now c.loop-watches.trail c.loop-watches.watches c.flipped-literal.result s c.loop-watches.invariant.watching c.loop-watches-test.true (rw (← l) c.flipped-literal.ensures)

pub returns-clause-outcome : goal.returns-clause-outcome
returns-clause-outcome c = watched_quiet c.args.arena.now c.loop-watches.trail c.loop-watches.watches c.loop-watches.invariant.state c.loop-watches.invariant.watching c.loop-watches.invariant.settled (omega (arith, c.loop-watches-test.false))

pub loop-watches-preserved : goal.loop-watches-preserved
loop-watches-preserved c =
    let v : IsVisiting c.args.arena.now c.visit_all.new.trail c.visit_all.new.watches c.flipped-literal.result (length (get_or c.visit_all.new.watches.lists c.flipped-literal.result [])) = rw c.in-None.is at c.in_ok-clause.ensures.outcome in
    record {
      state = c.in_ok-clause.ensures.state;
      watching = watching_next c.args.arena.now c.visit_all.new.trail c.visit_all.new.watches _ c.flipped-literal.result (length (get_or c.visit_all.new.watches.lists c.flipped-literal.result [])) c.in_ok-clause.ensures.state v (omega arith) refl refl refl refl refl;
      settled = settled_grown c.args.arena.now c.loop-watches.trail c.visit_all.new.trail c.loop-watches.watches c.visit_all.new.watches c.in_ok-clause.ensures.keeps c.in_ok-clause.ensures.short c.loop-watches.invariant.settled;
      levels = c.in_ok-clause.ensures.levels ∙ c.loop-watches.invariant.levels;
      size = c.in_ok-clause.ensures.size ∙ c.loop-watches.invariant.size;
      further = omega (arith, c.in_ok-clause.ensures.further, c.loop-watches.invariant.further);
    }
