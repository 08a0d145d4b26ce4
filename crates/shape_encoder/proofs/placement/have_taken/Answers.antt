use Rattle.std.proofs.Common.{◌≡◌, ◌||◌, ◌&&◌, not, subst, ap, ◌∙◌}
use Rattle.bool_circuit.specs.Circuit.{wire_value}
use Rattle.set_bits.specs.Sets.{is_here}
use Rattle.shape_encoder.specs.Placing.{asks}
use Rattle.shape_encoder.proofs.Placed.{one_more}
use Rattle.shape_encoder.proofs.placement.have_taken.Goals as goal

pub loop-slot-preserved : goal.loop-slot-preserved
loop-slot-preserved c =
    one_more c.args.circuit.now c.loop-slot.circuit c.has_one.new.circuit c.and.new.self (asks c.args.tie c.args.clafers.now) c.args.layout.now c.args.taken.now.items c.loop-slot.slot c.get.result.now c.get-live.result.now c.loop-slot.all c.in_ok-right.right c.in_ok-all-2.all
    c.requires.live_bits c.requires.table c.get.ensures c.get-live.ensures c.loop-slot.invariant c.in_ok-right.ensures.extends c.in_ok-all-2.ensures.extends c.in_ok-all-2.ensures.wire
    (λ bits. c.in_ok-right.ensures.value bits ∙ ap (λ b. not (wire_value c.loop-slot.circuit c.get-live.result.now bits && b) || is_here c.loop-slot.circuit c.wire_of.result bits) c.asks-is_asked.ensures
    ∙ ap (λ o. not (wire_value c.loop-slot.circuit c.get-live.result.now bits && asks c.args.tie c.args.clafers.now c.get.result.now.clafer) || is_here c.loop-slot.circuit o bits) c.wire_of.ensures)
    c.in_ok-all-2.ensures.value
