use Rattle.question_space.proofs.encoded.wires_of.Goals as goal
use Rattle.std.proofs.Common.{arith}
use Rattle.question_space.specs.Wiring.{wires_cost}
use Rattle.question_space.proofs.Growing.{wired_within}
use Rattle.question_space.proofs.Known.{range_is_right}
use Rattle.question_space.proofs.Weighing.{within_same}

pub returns : goal.returns
returns c =
    let read = c.args.read.now in
    let layout = c.in_ok-start.start.layout in
    wired_within read.model read.scopes (wires_cost read.model read.scopes layout c.args.core.now.truths) read.weight layout
    c.with_rules.new.circuit c.in_ok-ruled.ruled.structure c.in_ok-ruled.ruled.rules c.in_ok-ruled.ruled.whole c.in_ok-ruled.ensures
    (within_same _ _ _ (c.questions_are_within_the_weight.ensures read.model read.scopes layout c.args.core.now.truths
    c.in_ok-start.ensures.placed.fits c.in_ok-start.ensures.placed.empty
    c.model-plan.ensures.known.inherits_abstract (range_is_right read.scopes read.range) c.requires.light
    (omega (arith, read.weighs, read.light))) read.weighs)
