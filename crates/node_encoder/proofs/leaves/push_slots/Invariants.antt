use Rattle.std.proofs.Common.{◌≡◌, ◌++◌, take}
use Rattle.std.specs.List.{flat_map}
use Rattle.node_encoder.specs.Leaves.{own_members}
use Rattle.node_encoder.proofs.leaves.push_slots.Given as goal

abbrev pub invariant-loop-at : goal.invariant-loop-at
invariant-loop-at l = l.set ≡ l.fn.set ++ flat_map (own_members l.layout) (take l.at l.slots)
