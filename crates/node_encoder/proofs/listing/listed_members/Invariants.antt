use Rattle.std.proofs.Common.{◌≡◌, take}
use Rattle.std.specs.List.{filter}
use Rattle.told_constraints.specs.Told.{is_listed}
use Rattle.node_encoder.proofs.listing.listed_members.Given as goal

abbrev pub invariant-loop-at : goal.invariant-loop-at
invariant-loop-at l = l.found ≡ filter (λ m. is_listed l.layout l.ks m.slot) (take l.at l.set)
