use Rattle.std.proofs.Common.{◌≡◌, take}
use Rattle.std.specs.List.{flat_map}
use Rattle.node_encoder.specs.Leaves.{members_of}
use Rattle.node_encoder.proofs.leaves.members_of.Given as goal

abbrev pub invariant-loop-at : goal.invariant-loop-at
invariant-loop-at l = l.set ≡ flat_map (members_of l.ground.layout.now) (take l.at l.ks)
