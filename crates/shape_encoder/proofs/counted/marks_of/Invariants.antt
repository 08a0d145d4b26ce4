use Rattle.std.proofs.Common.{◌≡◌, map}
use Rattle.clf_tree.specs.Lists.{numbers_below}
use Rattle.shape_encoder.specs.Counting.{counts}
use Rattle.shape_encoder.proofs.counted.marks_of.Given as goal

abbrev pub invariant-loop-clafer : goal.invariant-loop-clafer
invariant-loop-clafer l = l.marks.items ≡ map (counts l.counted l.clafers) (numbers_below l.clafer)
