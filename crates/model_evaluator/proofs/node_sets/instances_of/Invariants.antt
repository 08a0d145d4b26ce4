use Rattle.std.proofs.Common.{◌≡◌, take}
use Rattle.std.specs.List.{filter}
use Rattle.clf_tree.specs.Hierarchy.{is_a}
use Rattle.clf_tree.specs.Nodes.{nodes_of}
use Rattle.model_evaluator.proofs.node_sets.instances_of.Given as goal

abbrev pub invariant-loop-entry : goal.invariant-loop-entry
invariant-loop-entry l = l.found ≡ nodes_of (filter (λ x. is_a l.clafers x.node.clafer l.clafer) (take l.entry-index l.entries))
