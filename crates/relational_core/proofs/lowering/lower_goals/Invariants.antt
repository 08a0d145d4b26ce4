use Rattle.std.proofs.Common.{◌≡◌, take, map}
use Rattle.clf_tree.specs.Tree.{tree}
use Rattle.clf_tree.specs.Core.{core}
use Rattle.relational_core.specs.Lowered.{lowered_goal}
use Rattle.relational_core.proofs.lowering.lower_goals.Given as goal

abbrev pub invariant-loop-goal : goal.invariant-loop-goal
invariant-loop-goal l = map core l.goals ≡ map (λ g. lowered_goal l.model.clafers l.scopes (tree g.body)) (take l.goal-index l.model.goals)
