use Rattle.std.proofs.Common.{◌≡◌, take}
use Rattle.std.specs.Prelude.{count_by}
use Rattle.clf_tree.specs.Kinds.{is_child}
use Rattle.instance_shape.proofs.multiplicities.count_declared.Given as goal

abbrev pub invariant-loop-node : goal.invariant-loop-node
invariant-loop-node l = l.count ≡ count_by (λ n. is_child l.clafers l.clafer n.clafer) (take l.node-index l.nodes)
