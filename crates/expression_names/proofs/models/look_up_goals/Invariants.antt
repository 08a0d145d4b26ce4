use Rattle.std.proofs.Common.{◌≡◌, map, take, drop}
use Rattle.std.specs.List.{filter_map}
use Rattle.refusal_order.specs.Order.{with_refusals}
use Rattle.expression_names.specs.Models.{goal_tree, looked_goal, goal_refusal}
use Rattle.expression_names.proofs.models.look_up_goals.Given as goal

-- those so far, and what is left leads on to the first refusal of all
abbrev pub invariant-loop-goal : goal.invariant-loop-goal
invariant-loop-goal l = record {
  looked : map goal_tree l.all ≡ map (looked_goal l.model.clafers) (take l.goal-index l.goals);
  first : with_refusals l.fn.found (filter_map (goal_refusal l.model.clafers) l.goals) ≡ with_refusals l.refused (filter_map (goal_refusal l.model.clafers) (drop l.goal-index l.goals));
}
