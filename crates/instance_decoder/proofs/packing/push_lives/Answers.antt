use Rattle.std.proofs.Common.{arith}
use Rattle.std.specs.Prelude.{is_some}
use Rattle.instance_decoder.proofs.Filling.{mapped_more, mapped_all}
use Rattle.instance_decoder.proofs.packing.push_lives.Goals as goal

pub loop-at-preserved : goal.loop-at-preserved
loop-at-preserved c = mapped_more is_some c.args.table.now c.loop-at.at c.get.result.now c.args.bits.now c.loop-at.bits c.push.new.self c.is_some.result c.get.ensures c.is_some.ensures c.loop-at.invariant c.in_ok-push.ensures.ok

pub returns : goal.returns
returns c = mapped_all is_some c.args.table.now c.loop-at.at c.args.bits.now c.loop-at.bits (omega (arith, c.len-at-end.ensures)) c.loop-at.invariant
