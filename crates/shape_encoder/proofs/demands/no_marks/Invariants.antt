use Rattle.std.proofs.Common.{◌≡◌, replicate, false}
use Rattle.shape_encoder.proofs.demands.no_marks.Given as goal

abbrev pub invariant-loop-made : goal.invariant-loop-made
invariant-loop-made l = l.marks.items ≡ replicate l._made false
