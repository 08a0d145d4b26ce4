use Rattle.std.proofs.Common.{arith}
use Rattle.family_checks.proofs.Marking.{down_more, down_all}
use Rattle.family_checks.proofs.referring.all_go_down.Goals as goal

pub loop-number-preserved : goal.loop-number-preserved
loop-number-preserved c = down_more c.args.clafers.now c.args.marks.now c.loop-number.number c.loop-number.invariant (c.go_down_at.ensures c.if-not-go_down_at.false)

pub returns : goal.returns
returns c = λ _. down_all c.args.clafers.now c.args.marks.now c.loop-number.number (omega (arith, c.len-number-end.ensures, c.loop-number-test.false)) c.loop-number.invariant
