use Rattle.std.proofs.Common.{◌≡◌, length, take}
use Rattle.clause_store.proofs.kept.Kept.in_place.Given as goal

-- the literals so far are in their places
abbrev pub invariant-loop-at : goal.invariant-loop-at
invariant-loop-at l = record {
  sized : length l.places ≡ 5;
  same : take l.at l.places ≡ take l.at l.literals;
}
