use Rattle.std.proofs.Common.{◌≡◌, take}
use Rattle.std.specs.List.{filter}
use Rattle.clf_tree.specs.Nodes.{has_node}
use Rattle.model_evaluator.proofs.node_sets.inside.Given as goal

abbrev pub invariant-loop-node : goal.invariant-loop-node
invariant-loop-node l = l.found ≡ filter (has_node l.set.nodes) (take l.node-index l.nodes)
