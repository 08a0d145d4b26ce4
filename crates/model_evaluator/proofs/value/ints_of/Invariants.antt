use Rattle.std.proofs.Common.{◌≡◌, [], map, take}
use Rattle.clf_tree.specs.Meaning.{int_of}
use Rattle.model_evaluator.proofs.value.ints_of.Given as goal

abbrev pub invariant-loop-node : goal.invariant-loop-node
invariant-loop-node l = l.ints ≡ map (int_of [] l.tables.entries) (take l.node-index l.nodes)
