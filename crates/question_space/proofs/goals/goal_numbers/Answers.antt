use Rattle.std.proofs.Common.{◌∙◌}
use Rattle.question_space.proofs.goals.goal_numbers.Goals as goal
use Rattle.question_space.proofs.Numbering.{goals_step}

pub loop-expr-preserved : goal.loop-expr-preserved
loop-expr-preserved c =
    let ground = c.args.ground.now in (
      goals_step ground.core.now.clafers ground.scopes.now ground.layout.now c.args.circuit.now c.args.goals.now c.loop-expr.expr-index
          c.loop-expr.circuit c.loop-expr.numbers c.loop-expr.bound c.expr-item.result c.number.new.circuit c.in_ok-wires.wires
          c.push.new.self
          c.loop-expr.invariant.0 c.loop-expr.invariant.1 c.loop-expr-test.true c.expr-item.is c.requires.sound
          c.in_ok-wires.ensures.extends c.in_ok-wires.ensures.wires c.in_ok-wires.ensures.some c.in_ok-wires.ensures.few
          c.in_ok-wires.ensures.value c.in_ok-push.ensures.ok,
      c.in_ok-wires.ensures.bound ∙ c.loop-expr.invariant.1,
    )
