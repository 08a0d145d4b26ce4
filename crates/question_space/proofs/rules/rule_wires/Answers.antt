use Rattle.std.proofs.Common.{◌∙◌}
use Rattle.question_space.proofs.rules.rule_wires.Goals as goal
use Rattle.question_space.proofs.Ruling.{rules_step}

pub loop-expr-preserved : goal.loop-expr-preserved
loop-expr-preserved c =
    let ground = c.args.ground.now in (
      rules_step ground.core.now.clafers ground.scopes.now ground.layout.now c.args.circuit.now c.args.truths.now c.loop-expr.expr-index
          c.loop-expr.circuit c.loop-expr.rules c.loop-expr.bound c.expr-item.result c.truth.new.circuit c.in_ok-wire.wire c.push.new.self
          c.loop-expr.invariant.0 c.loop-expr.invariant.1 c.loop-expr-test.true c.expr-item.is c.in_ok-wire.ensures.extends
          c.in_ok-wire.ensures.wire c.in_ok-wire.ensures.value c.in_ok-push.ensures.ok,
      c.in_ok-wire.ensures.bound ∙ c.loop-expr.invariant.1,
    )
