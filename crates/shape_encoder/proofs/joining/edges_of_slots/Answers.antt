use Rattle.std.proofs.Common.{take, refl}
use Rattle.shape_encoder.proofs.Turning.{none_held, held_more}
use Rattle.shape_encoder.proofs.joining.edges_of_slots.Goals as goal

pub loop-at-init : goal.loop-at-init
loop-at-init c = none_held (λ e. e.from) c.args.count c.in_ok-table.table.items c.in_ok-table.ensures

pub loop-at-preserved : goal.loop-at-preserved
loop-at-preserved c = held_more (λ e. e.from) c.args.edges.now c.loop-at.at c.args.count c.get-edge.result.now c.add_edge.new.table.items c.get-edge.ensures (c.in_ok-add_edge.ensures (λ e. e.from) (take c.loop-at.at c.args.edges.now) c.args.count refl c.loop-at.invariant)
