use Rattle.std.proofs.Common.{◌∙◌, rules}
use Rattle.std.proofs.lemmas.Int.{to_z-of_z}
use mir.Syntax.{w128}
use mir.Val.{SFits}
use Rattle.question_space.proofs.Differing.{beats_above, beats_below}
use Rattle.question_space.proofs.comparing.beats.Goals as goal

pub returns-then-least-clause-value : goal.returns-then-least-clause-value
returns-then-least-clause-value c =
    let fits : SFits w128 c.args.value = search rules in
    beats_below c.args.circuit.now c.constant.new.circuit c.less.new.circuit c.args.number.now c.in_ok-bound.bound c.args.value
    c.args.least c.in_ok-below.below
    c.if-least.true c.requires.number c.in_ok-bound.ensures.extends (λ bits. c.in_ok-bound.ensures.value bits
    ∙ to_z-of_z w128 c.args.value fits) c.in_ok-below.ensures.value

pub returns-clause-value : goal.returns-clause-value
returns-clause-value c =
    let fits : SFits w128 c.args.value = search rules in
    beats_above c.args.circuit.now c.constant.new.circuit c.less-2.new.circuit c.args.number.now c.in_ok-bound.bound c.args.value
    c.args.least c.in_ok-above.above
    c.if-least.false c.requires.number c.in_ok-bound.ensures.extends (λ bits. c.in_ok-bound.ensures.value bits
    ∙ to_z-of_z w128 c.args.value fits) c.in_ok-above.ensures.value
