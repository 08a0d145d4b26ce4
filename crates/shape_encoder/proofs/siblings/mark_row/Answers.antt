use Rattle.shape_encoder.proofs.Compared.{nothing_more}
use Rattle.shape_encoder.proofs.Seen.{none_marked, marked_more}
use Rattle.shape_encoder.proofs.siblings.mark_row.Goals as goal

pub loop-at-init : goal.loop-at-init
loop-at-init c = none_marked c.args.circuit.now c.args.here c.args.targets.now c.args.row.now.items (nothing_more c.args.circuit.now) c.requires.row_in

pub loop-at-preserved : goal.loop-at-preserved
loop-at-preserved c =
    marked_more c.args.circuit.now c.loop-at.circuit c.mark_target.new.circuit c.args.here c.args.targets.now c.args.row.now.items c.loop-at.row.items c.mark_target.new.row.items c.loop-at.at c.get-target.result.now
    c.requires.here_in c.requires.target_bits c.get-target.ensures c.loop-at.invariant c.in_ok-mark_target.ensures.extends c.in_ok-mark_target.ensures.row c.in_ok-mark_target.ensures.value
