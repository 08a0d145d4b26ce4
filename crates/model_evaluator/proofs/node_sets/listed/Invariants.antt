use Rattle.std.proofs.Common.{◌≡◌, take}
use Rattle.std.specs.List.{filter}
use Rattle.clf_tree.specs.Hierarchy.{is_one_of}
use Rattle.model_evaluator.proofs.node_sets.listed.Given as goal

abbrev pub invariant-loop-node : goal.invariant-loop-node
invariant-loop-node l = l.found ≡ filter (λ n. is_one_of l.clafers l.into n.clafer) (take l.node-index l.nodes)
