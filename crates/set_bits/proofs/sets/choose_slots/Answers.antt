use Rattle.std.proofs.Common.{◌+◌, ◌*◌, ◌||◌, not, length, sym, ap, ◌∙◌, arith}
use Rattle.bool_circuit.proofs.Extending.{extends_trans, extends_within}
use Rattle.set_bits.specs.Merging.{chosen_by}
use Rattle.set_bits.specs.Reaching.{present}
use Rattle.set_bits.proofs.Combining.{merged_set, taken_stays}
use Rattle.set_bits.proofs.Picking.{picked_more, slot_room}
use Rattle.set_bits.proofs.sets.choose_slots.Goals as goal

pub choose_wires-requires-clause-negated : goal.choose_wires-requires-clause-negated
choose_wires-requires-clause-negated c = λ bits. c.loop-slot.invariant.extends.keeps c.args.other c.requires.other_in bits ∙ c.requires.negated bits ∙ ap not (sym (c.loop-slot.invariant.extends.keeps c.args.pick c.requires.pick_in bits))

pub choose_wires-requires-clause-left_in : goal.choose_wires-requires-clause-left_in
choose_wires-requires-clause-left_in c =
    taken_stays (chosen_by c.args.circuit.now c.args.pick) (λ a b. a || b) c.args.circuit.now c.loop-slot.circuit c.args.a.now c.args.b.now c.loop-slot.set c.loop-slot.rest_a.now c.loop-slot.rest_b.now c.loop-slot.rest_a.now c.in-Some.slot c.take_at-left.result.0 c.loop-slot.invariant
    c.loop-slot.invariant.wires_a c.take_at-left.ensures.wire

pub choose_wires-requires-clause-right_in : goal.choose_wires-requires-clause-right_in
choose_wires-requires-clause-right_in c =
    taken_stays (chosen_by c.args.circuit.now c.args.pick) (λ a b. a || b) c.args.circuit.now c.loop-slot.circuit c.args.a.now c.args.b.now c.loop-slot.set c.loop-slot.rest_a.now c.loop-slot.rest_b.now c.loop-slot.rest_b.now c.in-Some.slot c.take_at-right.result.0 c.loop-slot.invariant
    c.loop-slot.invariant.wires_b c.take_at-right.ensures.wire

pub choose_wires-requires-clause-room : goal.choose_wires-requires-clause-room
choose_wires-requires-clause-room c =
    let r = slot_room c.in-Some.slot c.loop-slot.rest_a.now c.loop-slot.rest_b.now c.take_at-left.result.0 c.take_at-right.result.0 (sym c.lowest.ensures ∙ c.in-Some.is) c.take_at-left.ensures.wire c.take_at-right.ensures.wire in
    let p = r.0 in
    let q = r.1 in
    omega (arith, c.requires.room, c.loop-slot.invariant.extends.at_most, c.loop-slot.invariant.spent)

pub returns-in_err-here-clause-extends : goal.returns-in_err-here-clause-extends
returns-in_err-here-clause-extends c =
    let r = slot_room c.in-Some.slot c.loop-slot.rest_a.now c.loop-slot.rest_b.now c.take_at-left.result.0 c.take_at-right.result.0 (sym c.lowest.ensures ∙ c.in-Some.is) c.take_at-left.ensures.wire c.take_at-right.ensures.wire in
    let p = r.0 in
    let q = r.1 in
    extends_within c.args.circuit.now c.choose_wires.new.circuit (2 * c.loop-slot.invariant.steps + (present c.take_at-left.result.0 + present c.take_at-right.result.0 + 1)) (2 * (length c.args.a.now + length c.args.b.now))
    (omega (arith, c.loop-slot.invariant.spent))
    (extends_trans c.args.circuit.now c.loop-slot.circuit c.choose_wires.new.circuit (2 * c.loop-slot.invariant.steps) (present c.take_at-left.result.0 + present c.take_at-right.result.0 + 1) c.loop-slot.invariant.extends c.in_err-here.ensures.extends)

pub loop-slot-preserved : goal.loop-slot-preserved
loop-slot-preserved c =
    picked_more c.args.pick c.args.circuit.now c.loop-slot.circuit c.choose_wires.new.circuit c.args.a.now c.args.b.now c.loop-slot.set c.push_at.new.set c.loop-slot.rest_a.now c.loop-slot.rest_b.now c.take_at-left.result.1.now c.take_at-right.result.1.now c.in-Some.slot
    c.take_at-left.result.0 c.take_at-right.result.0 c.in_ok-here.here c.requires.pick_in c.loop-slot.invariant (sym c.lowest.ensures ∙ c.in-Some.is) c.take_at-left.ensures.wire c.take_at-left.ensures.rest c.take_at-right.ensures.wire c.take_at-right.ensures.rest
    c.in_ok-here.ensures.extends c.in_ok-here.ensures.wire c.in_ok-here.ensures.value c.in_ok-here.ensures.some c.in_ok-push_at.ensures.ok

pub returns-clause-set : goal.returns-clause-set
returns-clause-set c =
    merged_set (chosen_by c.args.circuit.now c.args.pick) (λ a b. a || b) c.args.circuit.now c.loop-slot.circuit c.args.a.now c.args.b.now c.loop-slot.set c.loop-slot.rest_a.now c.loop-slot.rest_b.now c.loop-slot.invariant
