use Rattle.std.proofs.Common.{◌≡◌, drop}
use Rattle.refusal_order.specs.Order.{with_refusals}
use Rattle.clafer_desugar.specs.Refusals.{goals_refusals}
use Rattle.clafer_desugar.proofs.expressions.in_goals.Given as goal

-- what is left leads to the same
abbrev pub invariant-loop-goal : goal.invariant-loop-goal
invariant-loop-goal l = with_refusals l.first (goals_refusals (drop l.goal-index l.goals)) ≡ with_refusals l.fn.first (goals_refusals l.goals)
