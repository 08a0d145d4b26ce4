use Rattle.std.proofs.Common.{◌≡◌, drop}
use Rattle.clf_tree.specs.Lists.{each_two}
use Rattle.clf_tree.specs.Shape.{differ}
use Rattle.instance_shape.proofs.references.are_different.Given as goal

abbrev pub invariant-loop-at : goal.invariant-loop-at
invariant-loop-at l = each_two (differ l.clafers l.entries) (drop l.at l.entries) ≡ each_two (differ l.clafers l.entries) l.entries
