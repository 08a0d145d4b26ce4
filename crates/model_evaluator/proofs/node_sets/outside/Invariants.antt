use Rattle.std.proofs.Common.{◌≡◌, not, take}
use Rattle.std.specs.List.{filter}
use Rattle.clf_tree.specs.Nodes.{has_node}
use Rattle.model_evaluator.proofs.node_sets.outside.Given as goal

abbrev pub invariant-loop-node : goal.invariant-loop-node
invariant-loop-node l = l.found ≡ filter (λ n. not (has_node l.set.nodes n)) (take l.node-index l.nodes)
