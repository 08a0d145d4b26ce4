use Rattle.std.proofs.Common.{arith}
use Rattle.family_checks.proofs.Parting.{met_more, met_all}
use Rattle.family_checks.proofs.repeating.all_met.Goals as goal

pub loop-number-preserved : goal.loop-number-preserved
loop-number-preserved c = met_more c.args.clafers.now c.args.order.now c.loop-number.number c.loop-number.invariant (c.is_met.ensures c.if-not-is_met.false)

pub returns : goal.returns
returns c = λ _. met_all c.args.clafers.now c.args.order.now c.loop-number.number (omega (arith, c.len-number-end.ensures, c.loop-number-test.false)) c.loop-number.invariant
