use Rattle.node_encoder.proofs.Filling.{no_edges, from_more}
use Rattle.node_encoder.proofs.tables.edges_from.Goals as goal

pub loop-at-init : goal.loop-at-init
loop-at-init c = no_edges c.new-table.result.items c.new-table.ensures.items

pub loop-at-preserved : goal.loop-at-preserved
loop-at-preserved c = from_more c.args.edges.now c.loop-at.at c.get-edge.result.now c.loop-at.table.items c.add_edge.new.table.items c.get-edge.ensures c.loop-at.invariant c.in_ok-add_edge.ensures
