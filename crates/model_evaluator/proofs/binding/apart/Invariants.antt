use Rattle.std.proofs.Common.{◌≡◌, not, take}
use Rattle.std.specs.List.{filter}
use Rattle.clf_tree.specs.Lists.{each_two}
use Rattle.clf_tree.specs.Nodes.{same_node}
use Rattle.model_evaluator.proofs.binding.apart.Given as goal

abbrev pub invariant-loop-nodes : goal.invariant-loop-nodes
invariant-loop-nodes l = l.found ≡ filter (each_two (λ a b. not (same_node a b))) (take l.nodes-index l.all)
