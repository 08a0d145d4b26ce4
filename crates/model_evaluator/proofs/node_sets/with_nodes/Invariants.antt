use Rattle.std.proofs.Common.{◌≡◌, take}
use Rattle.std.specs.List.{filter}
use Rattle.clf_tree.specs.Nodes.{nodes_of, has_node}
use Rattle.model_evaluator.proofs.node_sets.with_nodes.Given as goal

abbrev pub invariant-loop-entry : goal.invariant-loop-entry
invariant-loop-entry l = l.found ≡ nodes_of (filter (λ x. has_node l.set.nodes x.node) (take l.entry-index l.entries))
