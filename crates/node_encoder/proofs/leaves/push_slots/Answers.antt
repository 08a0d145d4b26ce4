use Rattle.node_encoder.specs.Leaves.{own_members}
use Rattle.node_encoder.proofs.Loops.{flat_step}
use Rattle.node_encoder.proofs.leaves.push_slots.Goals as goal

pub loop-at-preserved : goal.loop-at-preserved
loop-at-preserved c =
    flat_step (own_members c.args.layout.now) c.args.set.now c.args.slots.now c.loop-at.at c.get-slot.result.now c.loop-at.set c.push_slot.new.set c.get-slot.ensures c.loop-at.invariant c.in_ok-push_slot.ensures
