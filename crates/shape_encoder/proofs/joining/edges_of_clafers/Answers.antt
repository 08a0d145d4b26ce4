use Rattle.std.proofs.Common.{◌<◌, take, length}
use Rattle.shape_encoder.specs.Comparing.{clafer_from}
use Rattle.shape_encoder.proofs.Steps.{all_item}
use Rattle.shape_encoder.proofs.Turning.{none_held, held_more}
use Rattle.shape_encoder.proofs.Compared.{clafer_at}
use Rattle.shape_encoder.proofs.joining.edges_of_clafers.Goals as goal

pub loop-at-init : goal.loop-at-init
loop-at-init c = none_held (clafer_from c.args.layout.now) c.args.count c.in_ok-table.table.items c.in_ok-table.ensures

pub get-requires : goal.get-requires
get-requires c = all_item (λ e. e.from < length c.args.layout.now.slots) c.args.layout.now.targets c.loop-at.at c.get-edge.result.now c.requires.from c.get-edge.ensures

pub loop-at-preserved : goal.loop-at-preserved
loop-at-preserved c =
    held_more (clafer_from c.args.layout.now) c.args.layout.now.targets c.loop-at.at c.args.count c.get-edge.result.now c.add_edge.new.table.items c.get-edge.ensures
    (c.in_ok-add_edge.ensures (clafer_from c.args.layout.now) (take c.loop-at.at c.args.layout.now.targets) c.args.count (clafer_at c.args.layout.now c.get-edge.result.now.from c.get.result.now c.get.ensures) c.loop-at.invariant)
