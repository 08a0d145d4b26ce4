use Rattle.std.proofs.Common.{◌≡◌, ◌&&◌, take}
use Rattle.std.specs.List.{filter}
use Rattle.clf_tree.specs.Hierarchy.{is_one_of}
use Rattle.clf_tree.specs.Nodes.{nodes_of, has_some}
use Rattle.model_evaluator.proofs.node_sets.children_of_all.Given as goal

abbrev pub invariant-loop-entry : goal.invariant-loop-entry
invariant-loop-entry l = l.found ≡ nodes_of (filter (λ x. is_one_of l.clafers l.into x.node.clafer && has_some l.set.nodes x.parent) (take l.entry-index l.entries))
