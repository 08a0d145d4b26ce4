use Rattle.std.proofs.Common.{false, arith}
use Rattle.std.proofs.lemmas.List.{get_or_read}
use Rattle.shape_encoder.proofs.Demanded.{met_more}
use Rattle.shape_encoder.proofs.demands.all_dead.Goals as goal

pub loop-slot-preserved : goal.loop-slot-preserved
loop-slot-preserved c =
    met_more c.args.circuit.now c.loop-slot.circuit c.and_dead.new.circuit c.args.layout.now c.args.demands.now c.loop-slot.slot c.get-live.result.now c.loop-slot.all c.in_ok-all.all c.index-is_dead.result.now c.requires.live_bits c.get-live.ensures
    (get_or_read c.args.demands.now.dead.items c.loop-slot.slot c.index-is_dead.result.now (omega (arith, c.loop-slot-test.true, c.len-slot-end.ensures, c.requires.demands.slots)) c.index-is_dead.ensures false)
    c.loop-slot.invariant c.in_ok-all.ensures.extends c.in_ok-all.ensures.wire c.in_ok-all.ensures.value
