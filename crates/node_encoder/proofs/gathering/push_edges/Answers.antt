use Rattle.set_bits.specs.declared.layout.Edge.{Edge}
use Rattle.told_constraints.specs.Told.{is_listed}
use Rattle.node_encoder.proofs.Loops.{filter_step}
use Rattle.node_encoder.proofs.gathering.push_edges.Goals as goal

pub loop-at-preserved : goal.loop-at-preserved
loop-at-preserved c =
    filter_step (λ (e : Edge). is_listed c.args.layout.now c.args.ks.now e.to) c.args.found.now c.args.edges.now c.loop-at.at c.get-edge.result.now c.loop-at.found c.push_edge.new.found c.get-edge.ensures c.loop-at.invariant c.in_ok-push_edge.ensures
