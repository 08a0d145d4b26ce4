use Rattle.std.proofs.Common.{arith}
use Rattle.family_checks.proofs.Parting.{nest_more, nest_all}
use Rattle.family_checks.proofs.repeating.all_nest.Goals as goal

pub loop-number-preserved : goal.loop-number-preserved
loop-number-preserved c =
    nest_more c.args.clafers.now c.args.enter.now c.args.leave.now c.loop-number.number c.loop-number.invariant (c.nests_at.ensures c.if-not-nests_at.false)

pub returns : goal.returns
returns c = λ _.
    nest_all c.args.clafers.now c.args.enter.now c.args.leave.now c.loop-number.number
    (omega (arith, c.len-number-end.ensures, c.loop-number-test.false)) (omega (arith, c.len-number-end.ensures, c.loop-number-test.false, c.requires.sized)) c.loop-number.invariant
