use Rattle.std.proofs.Common.{◌≡◌, take}
use Rattle.std.specs.Prelude.{count_by}
use Rattle.clf_tree.specs.Hierarchy.{is_a}
use Rattle.instance_shape.proofs.multiplicities.count_instances.Given as goal

abbrev pub invariant-loop-node : goal.invariant-loop-node
invariant-loop-node l = l.count ≡ count_by (λ n. is_a l.clafers n.clafer l.clafer) (take l.node-index l.nodes)
