use Rattle.std.proofs.Common.{◌+◌, ◌&&◌, ap, ◌∙◌, arith}
use Rattle.bool_circuit.specs.Circuit.{wire_value}
use Rattle.bool_circuit.proofs.Extending.{extends_within}
use Rattle.canonical_encoder.specs.Slots.{canonical_cost}
use Rattle.canonical_encoder.specs.Comparing.{walk_cost}
use Rattle.canonical_encoder.proofs.Walking.{walk_more, walk_within, walked_more, walked_within, all_walked}
use Rattle.canonical_encoder.proofs.slots.canonical.Goals as goal

pub and_follows-requires-clause-room : goal.and_follows-requires-clause-room
and_follows-requires-clause-room c =
    let more = walk_more c.args.ground.now.layout.now c.loop-slot.slot in
    let within = walk_within c.args.ground.now.layout.now (c.loop-slot.slot + 1)
    (omega (arith, c.loop-slot-test.true, c.saturating_sub-slot-end.ensures, c.len.ensures)) in
    omega (arith, c.requires.room, c.loop-slot.invariant.extends.at_most, more, within)

pub returns-in_err-all-clause-extends : goal.returns-in_err-all-clause-extends
returns-in_err-all-clause-extends c =
    walked_within c.args.circuit.now c.loop-slot.circuit c.and_follows.new.circuit c.args.ground.now.core.now.clafers
    c.args.ground.now.layout.now c.args.structure c.loop-slot.all c.loop-slot.slot
    (omega (arith, c.loop-slot-test.true, c.saturating_sub-slot-end.ensures, c.len.ensures))
    c.loop-slot.invariant c.in_err-all.ensures.extends

pub loop-slot-preserved : goal.loop-slot-preserved
loop-slot-preserved c =
    walked_more c.args.circuit.now c.loop-slot.circuit c.and_follows.new.circuit c.args.ground.now.core.now.clafers
    c.args.ground.now.layout.now c.args.structure c.loop-slot.all c.in_ok-all.all c.loop-slot.slot
    c.loop-slot.invariant c.in_ok-all.ensures.extends c.in_ok-all.ensures.wire c.in_ok-all.ensures.value

pub returns-clause-value : goal.returns-clause-value
returns-clause-value c =
    all_walked c.args.circuit.now c.loop-slot.circuit c.args.ground.now.core.now.clafers c.args.ground.now.layout.now c.args.structure
    c.loop-slot.all c.loop-slot.slot
    (omega (arith, c.loop-slot-test.false, c.loop-slot.auto.slot-end, c.saturating_sub-slot-end.ensures, c.len.ensures))
    c.loop-slot.invariant

pub returns-clause-canonical : goal.returns-clause-canonical
returns-clause-canonical c = λ bits entries shows tree shape.
    all_walked c.args.circuit.now c.loop-slot.circuit c.args.ground.now.core.now.clafers c.args.ground.now.layout.now c.args.structure
    c.loop-slot.all c.loop-slot.slot
    (omega (arith, c.loop-slot-test.false, c.loop-slot.auto.slot-end, c.saturating_sub-slot-end.ensures, c.len.ensures))
    c.loop-slot.invariant bits
    ∙ ap (λ b. wire_value c.args.circuit.now c.args.structure bits && b)
    (c.canonical_slots_show_canonical_instances.ensures.shown c.args.ground.now.core.now.clafers c.args.ground.now.scopes.now
    c.args.ground.now.layout.now bits entries c.args.ground.now.fits shows tree shape)

pub returns-clause-extends : goal.returns-clause-extends
returns-clause-extends c =
    extends_within c.args.circuit.now c.loop-slot.circuit (walk_cost c.args.ground.now.layout.now c.loop-slot.slot)
    (canonical_cost c.args.ground.now.layout.now)
    (walk_within c.args.ground.now.layout.now c.loop-slot.slot
    (omega (arith, c.loop-slot.auto.slot-end, c.saturating_sub-slot-end.ensures, c.len.ensures)))
    c.loop-slot.invariant.extends
