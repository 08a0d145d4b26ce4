use Rattle.std.proofs.Common.{◌≡◌, [], map, take}
use Rattle.clf_tree.specs.Meaning.{number}
use Rattle.clf_tree.specs.Satisfies.{outside}
use Rattle.clf_tree.specs.Tree.{tree}
use Rattle.model_evaluator.specs.Computed.{computed}
use Rattle.model_evaluator.proofs.evaluator.goal_values.Given as goal

abbrev pub invariant-loop-goal : goal.invariant-loop-goal
invariant-loop-goal l =
    l.values ≡ map (λ g. number [] l.tables.entries (computed l.model.clafers l.tables.entries (tree g.body) outside)) (take l.goal-index l.goals)
