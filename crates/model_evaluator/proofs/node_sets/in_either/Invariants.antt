use Rattle.std.proofs.Common.{◌≡◌, ◌||◌, take}
use Rattle.std.specs.List.{filter}
use Rattle.clf_tree.specs.Nodes.{nodes_of, has_node}
use Rattle.model_evaluator.proofs.node_sets.in_either.Given as goal

abbrev pub invariant-loop-entry : goal.invariant-loop-entry
invariant-loop-entry l = l.found ≡ nodes_of (filter (λ x. has_node l.left.nodes x.node || has_node l.right.nodes x.node) (take l.entry-index l.entries))
