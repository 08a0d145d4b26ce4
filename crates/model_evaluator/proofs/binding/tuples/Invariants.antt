use Rattle.std.proofs.Common.{◌≡◌}
use Rattle.clf_tree.specs.Lists.{tuples}
use Rattle.model_evaluator.proofs.binding.tuples.Given as goal

abbrev pub invariant-loop-name : goal.invariant-loop-name
invariant-loop-name l = l.all ≡ tuples l._name l.nodes
