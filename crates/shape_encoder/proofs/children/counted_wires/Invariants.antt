use Rattle.std.proofs.Common.{◌≡◌, take}
use Rattle.shape_encoder.specs.Counting.{is_marked, counted_wires}
use Rattle.shape_encoder.proofs.children.counted_wires.Given as goal

abbrev pub invariant-loop-at : goal.invariant-loop-at
invariant-loop-at l = l.wires ≡ counted_wires (is_marked l.marks.items) (take l.at l.children)
