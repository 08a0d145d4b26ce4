use Rattle.std.proofs.Common.{length}
use Rattle.node_encoder.proofs.Filling.{no_slots, slot_more, wire_there, wire_of_slot}
use Rattle.node_encoder.proofs.tables.slots_of_clafers.Goals as goal

pub loop-at-init : goal.loop-at-init
loop-at-init c = no_slots c.args.layout.now.slots c.new-table.result.items c.new-table.ensures.items

pub get-wire-requires : goal.get-wire-requires
get-wire-requires c = wire_there c.args.layout.now.slots c.args.layout.now.live c.loop-at.at c.get-node.result.now c.requires c.get-node.ensures

pub loop-at-preserved : goal.loop-at-preserved
loop-at-preserved c =
    slot_more c.args.layout.now.slots c.loop-at.at c.get-node.result.now c.get-wire.result.now.number c.loop-at.table.items c.add_slot.new.table.items c.get-node.ensures
    (wire_of_slot c.args.layout.now.live (length c.args.layout.now.slots) c.loop-at.at c.get-wire.result.now c.requires c.get-wire.ensures) c.loop-at.invariant c.in_ok-add_slot.ensures
