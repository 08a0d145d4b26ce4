use Rattle.cdcl_search.proofs.Statuses.{Seen}
use Rattle.cdcl_search.proofs.trail.Trail.status.Given as goal

abbrev pub invariant-loop-literal : goal.invariant-loop-literal
invariant-loop-literal l = Seen l.self.values.items l.self.places.items l.clause l.self.count l.literal-index l.only
