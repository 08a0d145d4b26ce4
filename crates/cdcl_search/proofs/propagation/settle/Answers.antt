use Rattle.std.proofs.Common.{◌≡◌, ◌+◌, ◌<◌, [], length, get_or, arith, ◌∙◌}
use Rattle.std.proofs.lemmas.Grind.{common_steps}
use Rattle.cdcl_search.specs.Literals.{Has}
use Rattle.cdcl_search.specs.Trails.{zeros}
use Rattle.cdcl_search.specs.Searches.{Forces, Quiet}
use Rattle.cdcl_search.proofs.State_steps.{has_below, forced_state, size_stays, zeros_fall}
use Rattle.cdcl_search.proofs.Watch_steps.{now_true, watching_assigned, short_true, settled_more, settled_assigned}
use Rattle.cdcl_search.proofs.propagation.settle.Goals as goal
use Rattle.cdcl_search.proofs.propagation.settle.Goals.{then-clause-len+in-Unit, then-clause-len+in-Other, else-clause-len}

pub assign-requires-clause-within : goal.assign-requires-clause-within
assign-requires-clause-within c =
    let h : Has (get_or c.args.arena.now c.index-clause.result.now []) c.in-Unit.literal = rw c.clause.ensures at c.in-Unit.ensures.1.has in
    has_below c.args.arena.now _ c.index-clause.result.now _ c.loop-at.invariant.state.within (omega (arith, c.if-clause-len.true, c.len.ensures)) h

pub loop-at-preserved : goal.loop-at-preserved
loop-at-preserved c =
    let n : c.index-clause.result.now ≡ get_or c.args.watches.now.short.items c.loop-at.at 0 = grind (arith, common_steps) in
    elim c.if-clause-len.branch [
      | then-clause-len+in-Unit w ↦
          let f : Forces c.loop-at.trail.values.items c.loop-at.trail.places.items (get_or c.args.arena.now c.index-clause.result.now []) w.in-Unit.literal c.loop-at.trail.count = rw w.clause.ensures at w.in-Unit.ensures.1 in
          let i : c.index-clause.result.now < length c.args.arena.now = omega (arith, w.if-clause-len.true, c.len.ensures) in
          let b = has_below c.args.arena.now _ c.index-clause.result.now _ c.loop-at.invariant.state.within i f.has in
          let z : zeros w.assign.new.self.values.items + 2 ≡ zeros c.loop-at.trail.values.items = zeros_fall c.args.arena.now _ _ _ _ c.loop-at.invariant.state w.assign.ensures w.in-Unit.ensures.0 b in
          rw w.trail-is (record {
            state = forced_state c.args.arena.now _ _ _ _ c.loop-at.invariant.state w.assign.ensures w.in-Unit.ensures.0 i f;
            watching = watching_assigned c.args.arena.now _ _ c.args.watches.now _ _ c.loop-at.invariant.state w.assign.ensures w.in-Unit.ensures.0 b c.loop-at.invariant.watching;
            settled = settled_more c.args.arena.now w.assign.new.self c.args.watches.now c.loop-at.at c.index-clause.result.now
                (settled_assigned c.args.arena.now _ _ c.args.watches.now _ _ _ c.loop-at.invariant.state w.assign.ensures w.in-Unit.ensures.0 b c.loop-at.invariant.settled) n
                (λ i s. (w.in-Unit.literal, f.has, now_true c.args.arena.now _ _ _ _ c.loop-at.invariant.state w.assign.ensures b));
            levels = w.assign.ensures.limits ∙ c.loop-at.invariant.levels;
            size = size_stays _ _ _ _ w.assign.ensures ∙ c.loop-at.invariant.size;
            further = omega (arith, z, c.loop-at.invariant.further);
          })
      | then-clause-len+in-Other w ↦
          let q : Quiet c.loop-at.trail.values.items c.loop-at.trail.places.items (get_or c.args.arena.now c.index-clause.result.now []) c.loop-at.trail.count = rw w.clause.ensures at w.in-Other.ensures in
          rw w.trail-is (record {
            state = c.loop-at.invariant.state;
            watching = c.loop-at.invariant.watching;
            settled = settled_more c.args.arena.now c.loop-at.trail c.args.watches.now c.loop-at.at c.index-clause.result.now c.loop-at.invariant.settled n
                (λ i s. short_true c.loop-at.trail.values.items c.loop-at.trail.places.items _ c.loop-at.trail.count s q);
            levels = c.loop-at.invariant.levels;
            size = c.loop-at.invariant.size;
            further = c.loop-at.invariant.further;
          })
      | else-clause-len w ↦
          rw w.trail-is (record {
            state = c.loop-at.invariant.state;
            watching = c.loop-at.invariant.watching;
            settled = settled_more c.args.arena.now c.loop-at.trail c.args.watches.now c.loop-at.at c.index-clause.result.now c.loop-at.invariant.settled n
                (λ i s. absurd (omega (arith, i, w.if-clause-len.false, c.len.ensures)));
            levels = c.loop-at.invariant.levels;
            size = c.loop-at.invariant.size;
            further = c.loop-at.invariant.further;
          })
    ]
