use Rattle.std.proofs.Common.{arith, ap, length, ◌≡◌, subst, sym, Option, ℕ}
use Rattle.std.specs.Prelude.{IfSome}
use Rattle.instance_encoder.specs.Wiring.{near_slots}
use Rattle.instance_encoder.proofs.Wiring.{near_few, slot_done, slot_room}
use Rattle.instance_encoder.proofs.edges.edges.Goals as goal

pub push_edges-requires : goal.push_edges-requires
push_edges-requires c =
    let few = near_few c.args.tie c.args.clafers.now c.args.slots.now c.get.result.now.clafer in
    let room = slot_room (length c.args.circuit.now) c.loop-from.from (length c.args.slots.now) (length c.turn_to.new.near.slots) (length c.loop-from.edges) (omega (arith, c.len-from-end.ensures)) c.loop-from.invariant.wired.few
    (omega (arith, few, ap length c.in_ok-turn_to.ensures.slots)) in
    record { room = omega (arith, room, c.loop-from.invariant.wired.size, c.requires.room) }

pub loop-from-preserved : goal.loop-from-preserved
loop-from-preserved c = record {
  wired = slot_done c.args.tie c.args.clafers.now c.args.slots.now (length c.args.circuit.now) c.loop-from.from c.get.result.now c.loop-from.circuit c.push_edges.new.circuit c.loop-from.edges c.push_edges.new.edges c.turn_to.new.near.slots
      c.get.ensures c.in_ok-turn_to.ensures.slots c.loop-from.invariant.wired c.in_ok-push_edges.ensures.more;
  kept = subst (λ (o : Option ℕ). IfSome o (λ k. c.turn_to.new.near.slots ≡ near_slots c.args.tie c.args.clafers.now c.args.slots.now k)) (sym c.in_ok-turn_to.ensures.clafer) c.in_ok-turn_to.ensures.slots;
}

pub returns-in_err-push_edges-clause-few : goal.returns-in_err-push_edges-clause-few
returns-in_err-push_edges-clause-few c =
    let few = near_few c.args.tie c.args.clafers.now c.args.slots.now c.get.result.now.clafer in
    let room = slot_room (length c.args.circuit.now) c.loop-from.from (length c.args.slots.now) (length c.turn_to.new.near.slots) (length c.loop-from.edges) (omega (arith, c.len-from-end.ensures)) c.loop-from.invariant.wired.few
    (omega (arith, few, ap length c.in_ok-turn_to.ensures.slots)) in
    omega (arith, room, c.loop-from.invariant.wired.size, c.push_edges.ensures.few)
