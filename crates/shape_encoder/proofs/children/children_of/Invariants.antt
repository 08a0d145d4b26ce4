use Rattle.std.proofs.Common.{take}
use Rattle.shape_encoder.specs.Counting.{AreChildren}
use Rattle.shape_encoder.proofs.children.children_of.Given as goal

abbrev pub invariant-loop-at : goal.invariant-loop-at
invariant-loop-at l = AreChildren l.layout.slots (take l.at l.layout.parents) l.by_slot.items
