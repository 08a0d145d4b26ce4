use Rattle.shape_encoder.proofs.Taken.{edge_wire}
use Rattle.shape_encoder.proofs.Compared.{nothing_more, none_made, made_more}
use Rattle.shape_encoder.proofs.joining.ends_of.Goals as goal

pub loop-at-init : goal.loop-at-init
loop-at-init c = none_made c.args.circuit.now c.args.edges.now c.new-wires.result.items c.new-wires.ensures.items (nothing_more c.args.circuit.now)

pub add_end-requires-clause-edge_in : goal.add_end-requires-clause-edge_in
add_end-requires-clause-edge_in c = edge_wire c.args.circuit.now c.loop-at.circuit c.loop-at.at c.args.edges.now c.loop-at.at c.get-edge.result.now c.requires.bits c.get-edge.ensures c.loop-at.invariant.extends

pub loop-at-preserved : goal.loop-at-preserved
loop-at-preserved c =
    made_more c.args.circuit.now c.loop-at.circuit c.add_end.new.circuit c.args.edges.now c.loop-at.at c.get-edge.result.now c.loop-at.wires.items c.add_end.new.wires.items
    c.requires.bits c.get-edge.ensures c.loop-at.invariant c.in_ok-add_end.ensures.extends c.in_ok-add_end.ensures.table c.in_ok-add_end.ensures.value
