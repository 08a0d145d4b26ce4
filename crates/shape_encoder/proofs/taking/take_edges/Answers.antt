use Rattle.shape_encoder.proofs.Taken.{taken_more, edge_wire}
use Rattle.std.proofs.Common.{◌+◌, ◌*◌}
use Rattle.shape_encoder.proofs.taking.take_edges.Goals as goal

pub loop-at-preserved : goal.loop-at-preserved
loop-at-preserved c =
    taken_more c.args.circuit.now c.loop-at.circuit c.take_edge.new.circuit c.args.edges.now c.loop-at.at c.get-edge.result.now c.loop-at.wires.items c.take_edge.new.wires.items c.loop-at.single c.in_ok-single-2.single
    c.requires.bits c.get-edge.ensures c.loop-at.invariant c.in_ok-single-2.ensures.extends c.in_ok-single-2.ensures.wire c.in_ok-single-2.ensures.table c.in_ok-single-2.ensures.single c.in_ok-single-2.ensures.taken

pub take_edge-requires-clause-edge_in : goal.take_edge-requires-clause-edge_in
take_edge-requires-clause-edge_in c = edge_wire c.args.circuit.now c.loop-at.circuit (4 * c.loop-at.at + 1) c.args.edges.now c.loop-at.at c.get-edge.result.now c.requires.bits c.get-edge.ensures c.loop-at.invariant.extends
