use Rattle.std.proofs.Common.{◌≡◌, take}
use Rattle.std.specs.List.{flat_map}
use Rattle.number_encoder.specs.Values.{summand_for}
use Rattle.number_encoder.proofs.parts.summands_of.Given as goal

abbrev pub invariant-loop-at : goal.invariant-loop-at
invariant-loop-at l = l.parts ≡ flat_map (summand_for l.ground.layout.now) (take l.at l.set)
