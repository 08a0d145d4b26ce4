use Rattle.shape_encoder.proofs.Seen.{met_more}
use Rattle.shape_encoder.proofs.siblings.have_met.Goals as goal

pub loop-at-preserved : goal.loop-at-preserved
loop-at-preserved c =
    met_more c.args.circuit.now c.loop-at.circuit c.or_met.new.circuit c.args.rows.now.items c.args.parents.now c.args.targets.now c.loop-at.at c.get-edge.result.now c.loop-at.some c.in_ok-some-2.some
    c.requires.rows_in c.get-edge.ensures c.loop-at.invariant c.in_ok-some-2.ensures.extends c.in_ok-some-2.ensures.wire c.in_ok-some-2.ensures.value
