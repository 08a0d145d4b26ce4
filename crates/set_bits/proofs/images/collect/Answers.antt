use Rattle.set_bits.proofs.Following.{collected_more}
use Rattle.set_bits.proofs.images.collect.Goals as goal

pub loop-slot-preserved : goal.loop-slot-preserved
loop-slot-preserved c = collected_more c.args.table.now.items c.loop-slot.slot c.loop-slot.set _ _ c.loop-slot.invariant c.wire_of-here.ensures c.in_ok-push_at.ensures.ok
