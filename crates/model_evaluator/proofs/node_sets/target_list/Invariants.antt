use Rattle.std.proofs.Common.{◌≡◌, take}
use Rattle.clf_tree.specs.Nodes.{target_node}
use Rattle.model_evaluator.specs.Sources.{reached}
use Rattle.model_evaluator.proofs.node_sets.target_list.Given as goal

abbrev pub invariant-loop-entry : goal.invariant-loop-entry
invariant-loop-entry l = l.found ≡ reached target_node l.set.nodes (take l.entry-index l.entries)
