use Rattle.std.proofs.Common.{◌≡◌, []}
use Rattle.question_space.proofs.rules.rule_wires.Given as goal
use Rattle.question_space.specs.Wiring.{AreRulesSoFar}

abbrev pub invariant-loop-expr : goal.invariant-loop-expr
invariant-loop-expr l =
    AreRulesSoFar l.ground.core.now.clafers l.ground.scopes.now l.ground.layout.now l.fn.circuit l.truths l.expr-index l.circuit l.rules
    × (l.bound ≡ [])
