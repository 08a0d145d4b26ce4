use Rattle.shape_encoder.proofs.Compared.{clafer_at}
use Rattle.shape_encoder.proofs.Grouped.{none_held, held_more}
use Rattle.shape_encoder.proofs.kin.slots_of_clafers.Goals as goal

pub loop-slot-init : goal.loop-slot-init
loop-slot-init c = none_held c.args.layout.now c.args.count c.in_ok-table.table.items c.in_ok-table.ensures

pub loop-slot-preserved : goal.loop-slot-preserved
loop-slot-preserved c =
    held_more c.args.layout.now c.loop-slot.slot c.args.count c.get.result.now.clafer c.loop-slot.table.items c.add_slot.new.table.items (clafer_at c.args.layout.now c.loop-slot.slot c.get.result.now c.get.ensures)
    c.in_ok-add_slot.ensures.len c.in_ok-add_slot.ensures.at c.loop-slot.invariant
