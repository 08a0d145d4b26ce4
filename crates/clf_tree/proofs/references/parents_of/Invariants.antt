use Rattle.std.proofs.Common.{◌≡◌}
use Rattle.std.specs.List.{filter}
use Rattle.clf_tree.specs.Lists.{numbers_below}
use Rattle.clf_tree.specs.Kinds.{has_child_in}
use Rattle.clf_tree.proofs.references.parents_of.Given as goal

abbrev pub invariant-loop-p : goal.invariant-loop-p
invariant-loop-p l = l.parents ≡ filter (has_child_in l.clafers l.ks) (numbers_below l.p)
