use Rattle.std.proofs.Common.{◌≡◌, not, drop}
use Rattle.clf_tree.specs.Lists.{each_two}
use Rattle.clf_tree.specs.Nodes.{same_node}
use Rattle.model_evaluator.proofs.binding.are_apart.Given as goal

abbrev pub invariant-loop-at : goal.invariant-loop-at
invariant-loop-at l = each_two (λ a b. not (same_node a b)) (drop l.at l.nodes) ≡ each_two (λ a b. not (same_node a b)) l.nodes
