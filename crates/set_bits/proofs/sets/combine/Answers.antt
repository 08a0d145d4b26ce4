use Rattle.set_bits.specs.Sets.{combined, may_combine}
use Rattle.set_bits.proofs.Combining.{combined_more, merged_set, taken_stays}
use Rattle.std.proofs.Common.{sym, ◌∙◌}
use Rattle.set_bits.proofs.sets.combine.Goals as goal

pub combine_wires-requires-clause-left_in : goal.combine_wires-requires-clause-left_in
combine_wires-requires-clause-left_in c =
    taken_stays (λ bits. combined c.args.operation) (may_combine c.args.operation) c.args.circuit.now c.loop-slot.circuit c.args.a.now c.args.b.now c.loop-slot.set c.loop-slot.rest_a.now c.loop-slot.rest_b.now c.loop-slot.rest_a.now c.in-Some.slot c.take_at-left.result.0 c.loop-slot.invariant
    c.loop-slot.invariant.wires_a c.take_at-left.ensures.wire

pub combine_wires-requires-clause-right_in : goal.combine_wires-requires-clause-right_in
combine_wires-requires-clause-right_in c =
    taken_stays (λ bits. combined c.args.operation) (may_combine c.args.operation) c.args.circuit.now c.loop-slot.circuit c.args.a.now c.args.b.now c.loop-slot.set c.loop-slot.rest_a.now c.loop-slot.rest_b.now c.loop-slot.rest_b.now c.in-Some.slot c.take_at-right.result.0 c.loop-slot.invariant
    c.loop-slot.invariant.wires_b c.take_at-right.ensures.wire

pub loop-slot-preserved : goal.loop-slot-preserved
loop-slot-preserved c =
    combined_more c.args.operation c.args.circuit.now c.loop-slot.circuit c.combine_wires.new.circuit c.args.a.now c.args.b.now c.loop-slot.set c.push_at.new.set c.loop-slot.rest_a.now c.loop-slot.rest_b.now c.take_at-left.result.1.now c.take_at-right.result.1.now c.in-Some.slot
    c.take_at-left.result.0 c.take_at-right.result.0 c.in_ok-here.here c.loop-slot.invariant (sym c.lowest.ensures ∙ c.in-Some.is) c.take_at-left.ensures.wire c.take_at-left.ensures.rest c.take_at-right.ensures.wire c.take_at-right.ensures.rest
    c.in_ok-here.ensures.extends c.in_ok-here.ensures.wire c.in_ok-here.ensures.value c.in_ok-here.ensures.some c.in_ok-push_at.ensures.ok

pub returns-clause-set : goal.returns-clause-set
returns-clause-set c =
    merged_set (λ bits. combined c.args.operation) (may_combine c.args.operation) c.args.circuit.now c.loop-slot.circuit c.args.a.now c.args.b.now c.loop-slot.set c.loop-slot.rest_a.now c.loop-slot.rest_b.now c.loop-slot.invariant
