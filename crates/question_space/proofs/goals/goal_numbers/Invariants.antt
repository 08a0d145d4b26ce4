use Rattle.std.proofs.Common.{◌≡◌, []}
use Rattle.question_space.proofs.goals.goal_numbers.Given as goal
use Rattle.question_space.specs.Amounts.{AreGoals}

abbrev pub invariant-loop-expr : goal.invariant-loop-expr
invariant-loop-expr l =
    AreGoals l.ground.core.now.clafers l.ground.scopes.now l.ground.layout.now l.fn.circuit l.goals l.expr-index l.circuit l.numbers
    × (l.bound ≡ [])
