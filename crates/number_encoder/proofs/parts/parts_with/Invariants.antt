use Rattle.std.proofs.Common.{◌≡◌, map, take}
use Rattle.number_encoder.specs.Values.{part_for}
use Rattle.number_encoder.proofs.parts.parts_with.Given as goal

abbrev pub invariant-loop-at : goal.invariant-loop-at
invariant-loop-at l = l.parts ≡ map (part_for l.ground.layout.now l.none) (take l.at l.set)
