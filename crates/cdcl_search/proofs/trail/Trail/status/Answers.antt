use Rattle.std.proofs.Common.{get_or, arith, Some, None}
use Rattle.std.proofs.lemmas.Grind.{common_steps}
use Rattle.cdcl_search.proofs.Statuses.{Seen, quiet_true, quiet_two, seen_false, seen_open, seen_again}
use Rattle.cdcl_search.proofs.trail.Trail.status.Goals as goal
use Rattle.cdcl_search.proofs.trail.Trail.status.Goals.{then-value-eq-OPEN+in-None, then-value-eq-OPEN+in-Some+else-first-literal, else-value-eq-OPEN}

pub returns-then-value-eq-TRUE : goal.returns-then-value-eq-TRUE
returns-then-value-eq-TRUE c = quiet_true _ _ _ _ _ c.loop-literal.literal-index c.requires.trail (omega arith) (grind (arith, common_steps))

pub returns-then-first-literal : goal.returns-then-first-literal
returns-then-first-literal c =
    let s : Seen c.args.self.now.values.items c.args.self.now.places.items c.args.clause.now c.args.self.now.count c.loop-literal.literal-index (Some c.in-Some.first) = rw c.in-Some.is at c.loop-literal.invariant in
    quiet_two _ _ _ _ c.in-Some.first c.loop-literal.literal-index s.1 (omega arith) s.0 (grind (arith, common_steps)) c.if-first-literal.true

pub loop-literal-preserved : goal.loop-literal-preserved
loop-literal-preserved c = elim c.if-value-eq-OPEN.branch [
  | then-value-eq-OPEN+in-None w ↦
      let s : Seen c.args.self.now.values.items c.args.self.now.places.items c.args.clause.now c.args.self.now.count c.loop-literal.literal-index None = rw w.in-None.is at c.loop-literal.invariant in
      rw w.only-is (seen_open _ _ _ _ _ s (omega arith) (grind (arith, common_steps)))
  | then-value-eq-OPEN+in-Some+else-first-literal w ↦
      let s : Seen c.args.self.now.values.items c.args.self.now.places.items c.args.clause.now c.args.self.now.count c.loop-literal.literal-index (Some w.in-Some.first) = rw w.in-Some.is at c.loop-literal.invariant in
      rw w.only-is (seen_again _ _ _ _ _ w.in-Some.first s (grind (arith, common_steps)))
  | else-value-eq-OPEN w ↦ rw w.only-is (seen_false _ _ _ _ _ _ _ c.requires.trail c.loop-literal.invariant (grind (arith, common_steps, c.requires.trail.at_most_two (get_or c.args.clause.now c.loop-literal.literal-index 0))))
]
