use Rattle.std.proofs.Common.{◌≡◌, ◌≤◌}
use Rattle.cdcl_search.specs.Trails.{IsTrail, Agree}
use Rattle.cdcl_search.proofs.trail.Trail.undo_to.Given as goal

abbrev pub invariant-loop-self : goal.invariant-loop-self
invariant-loop-self l = record {
  trail : IsTrail l.self.values.items l.self.places.items l.self.literals.items l.self.count;
  agree : Agree l.fn.self.values.items l.fn.self.places.items l.self.values.items l.self.places.items l.place;
  within : l.place ≤ l.self.count;
  places : l.self.places ≡ l.fn.self.places;
  reasons : l.self.reasons ≡ l.fn.self.reasons;
  literals : l.self.literals ≡ l.fn.self.literals;
  limits : l.self.limits ≡ l.fn.self.limits;
}

abbrev pub decreases-loop-self : goal.decreases-loop-self
decreases-loop-self l = l.self.count
