use Rattle.std.proofs.Common.{take}
use Rattle.shape_encoder.proofs.Tabling.{children_step}
use Rattle.shape_encoder.proofs.children.children_of.Goals as goal

pub loop-at-preserved : goal.loop-at-preserved
loop-at-preserved c =
    children_step c.args.layout.now.slots c.args.layout.now.parents c.loop-at.at c.get-edge.result.now c.add_child.new.by_slot.items c.get-edge.ensures
    (c.in_ok-add_child.ensures.added (take c.loop-at.at c.args.layout.now.parents) c.loop-at.invariant)
