use Rattle.std.proofs.Common.{◌≡◌, drop}
use Rattle.type_checker.specs.Refusals.{goals_refusal}
use Rattle.type_checker.proofs.checking.goals_refusal.Given as goal

-- what is left leads on to the first of all
abbrev pub invariant-loop-goal : goal.invariant-loop-goal
invariant-loop-goal l = goals_refusal l.clafers l.fn.found l.goals ≡ goals_refusal l.clafers l.first (drop l.goal-index l.goals)
