use Rattle.std.proofs.Common.{◌≡◌, drop}
use Rattle.model_weight.specs.Capped.{total}
use Rattle.model_weight.specs.Clafers.{light_goal, goals_wide}
use Rattle.model_weight.proofs.model.goals_known.Given as goal

-- what is left leads on to the weight of all, and to the first of all
abbrev pub invariant-loop-goal : goal.invariant-loop-goal
invariant-loop-goal l =
    (total (light_goal l.rooms.clafers.now l.rooms.scopes.now) 0 l.goals ≡ total (light_goal l.rooms.clafers.now l.rooms.scopes.now) l.weight (drop l.goal-index l.goals))
    × (goals_wide l.rooms.clafers.now l.rooms.scopes.now l.fn.found l.goals ≡ goals_wide l.rooms.clafers.now l.rooms.scopes.now l.wide (drop l.goal-index l.goals))
