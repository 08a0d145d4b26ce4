use Rattle.std.proofs.Common.{arith}
use Rattle.family_checks.proofs.Rising.{rise_more, rise_all}
use Rattle.family_checks.proofs.certificate.all_rise.Goals as goal

pub loop-number-preserved : goal.loop-number-preserved
loop-number-preserved c =
    rise_more c.args.clafers.now c.args.own.now c.args.heirs.now c.loop-number.number c.loop-number.invariant (c.rise_at.ensures c.if-not-rise_at.false)

pub returns : goal.returns
returns c = λ _.
    rise_all c.args.clafers.now c.args.own.now c.args.heirs.now c.loop-number.number (omega (arith, c.len-number-end.ensures, c.loop-number-test.false)) c.loop-number.invariant
