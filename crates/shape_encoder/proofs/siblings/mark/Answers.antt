use Rattle.shape_encoder.proofs.Compared.{nothing_more}
use Rattle.shape_encoder.proofs.Seen.{no_marks, marks_more}
use Rattle.shape_encoder.proofs.siblings.mark.Goals as goal

pub loop-at-init : goal.loop-at-init
loop-at-init c = no_marks c.args.circuit.now c.args.parents.now c.args.targets.now c.args.rows.now.items (nothing_more c.args.circuit.now) c.requires.rows_in

pub loop-at-preserved : goal.loop-at-preserved
loop-at-preserved c =
    marks_more c.args.circuit.now c.loop-at.circuit c.mark_parent.new.circuit c.args.parents.now c.args.targets.now c.args.rows.now.items c.loop-at.rows.items c.mark_parent.new.rows.items c.loop-at.at c.get-edge.result.now
    c.requires.parent_bits c.get-edge.ensures c.loop-at.invariant c.in_ok-mark_parent.ensures.extends c.in_ok-mark_parent.ensures.rows c.in_ok-mark_parent.ensures.value
