use Rattle.std.proofs.Common.{arith}
use Rattle.set_bits.proofs.Following.{tabled_more}
use Rattle.set_bits.proofs.images.table_of.Goals as goal

pub loop-at-preserved : goal.loop-at-preserved
loop-at-preserved c = tabled_more c.args.set.now c.loop-at.at c.get-member.result.now c.loop-at.table.items _ c.requires c.loop-at.invariant c.get-member.ensures (omega (arith, c.len-at-end.ensures)) c.in_ok-put.ensures.ok
