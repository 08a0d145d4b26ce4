use Rattle.std.proofs.Common.{◌≡◌, take}
use Rattle.std.specs.Prelude.{count_by}
use Rattle.clf_tree.specs.Hierarchy.{is_a}
use Rattle.instance_shape.proofs.multiplicities.count_all.Given as goal

abbrev pub invariant-loop-entry : goal.invariant-loop-entry
invariant-loop-entry l = l.count ≡ count_by (λ e. is_a l.clafers e.node.clafer l.clafer) (take l.entry-index l.entries)
