use Rattle.std.proofs.Common.{◌≡◌, ◌||◌, not, subst}
use Rattle.bool_circuit.specs.Circuit.{wire_value}
use Rattle.set_bits.specs.Sets.{is_here}
use Rattle.shape_encoder.proofs.Led.{led_more}
use Rattle.shape_encoder.proofs.consistency.lead_from_live.Goals as goal

pub loop-slot-preserved : goal.loop-slot-preserved
loop-slot-preserved c =
    led_more c.args.circuit.now c.loop-slot.circuit c.leads_from_live.new.circuit c.and.new.self c.args.taken.now.items c.args.live.now c.loop-slot.slot c.get-here.result.now c.loop-slot.all c.in_ok-right.right c.in_ok-all-2.all
    c.requires.live_bits c.requires.table c.get-here.ensures c.loop-slot.invariant c.in_ok-right.ensures.extends c.in_ok-all-2.ensures.extends c.in_ok-all-2.ensures.wire
    (λ bits. subst (λ o. wire_value c.leads_from_live.new.circuit c.in_ok-right.right bits ≡ (not (is_here c.loop-slot.circuit o bits) || wire_value c.loop-slot.circuit c.get-here.result.now bits)) c.wire_of.ensures (c.in_ok-right.ensures.value bits))
    c.in_ok-all-2.ensures.value
