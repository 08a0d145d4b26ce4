use Rattle.std.proofs.Common.{arith, ◌+◌, ◌*◌, take}
use Rattle.bool_circuit.proofs.Extending.{extends_trans, extends_within}
use Rattle.set_bits.specs.Sets.{leading}
use Rattle.set_bits.specs.Reaching.{present}
use Rattle.set_bits.proofs.Following.{followed_more, image_set, edge_more, leading_within, start_wire, edge_wire}
use Rattle.set_bits.proofs.Reached.{image_few}
use Rattle.set_bits.proofs.images.image.Goals as goal

pub reach-requires-clause-here_in : goal.reach-requires-clause-here_in
reach-requires-clause-here_in c =
    start_wire _ c.args.circuit.now c.loop-at.circuit c.args.from.now c.in_ok-starts.starts.items c.wire_of-here.result c.get-edge.result.now.from c.wire_of-here.ensures c.in_ok-starts.ensures c.requires.from_set.wires c.loop-at.invariant.followed.extends

pub reach-requires-clause-edge_in : goal.reach-requires-clause-edge_in
reach-requires-clause-edge_in c =
    omega (arith, edge_wire c.args.circuit.now c.args.edges.now c.loop-at.at c.get-edge.result.now c.requires.edges_in c.get-edge.ensures (omega (arith, c.len-at-end.ensures)), c.loop-at.invariant.followed.extends.at_least)

pub reach-requires-clause-room : goal.reach-requires-clause-room
reach-requires-clause-room c =
    omega (arith, c.loop-at.invariant.followed.extends.at_most, edge_more c.args.from.now c.args.edges.now c.loop-at.at c.get-edge.result.now c.in_ok-starts.starts.items c.wire_of-here.result c.wire_of-here.ensures c.in_ok-starts.ensures c.get-edge.ensures (omega (arith, c.len-at-end.ensures)))

pub returns-in_err-reach-clause-extends : goal.returns-in_err-reach-clause-extends
returns-in_err-reach-clause-extends c =
    extends_within c.args.circuit.now c.reach.new.circuit (2 * leading c.args.from.now (take c.loop-at.at c.args.edges.now) + 2 * present c.wire_of-here.result) (2 * leading c.args.from.now c.args.edges.now)
    (omega (arith, edge_more c.args.from.now c.args.edges.now c.loop-at.at c.get-edge.result.now c.in_ok-starts.starts.items c.wire_of-here.result c.wire_of-here.ensures c.in_ok-starts.ensures c.get-edge.ensures (omega (arith, c.len-at-end.ensures))))
    (extends_trans c.args.circuit.now c.loop-at.circuit c.reach.new.circuit (2 * leading c.args.from.now (take c.loop-at.at c.args.edges.now)) (2 * present c.wire_of-here.result) c.loop-at.invariant.followed.extends c.in_err-reach.ensures.extends)

pub loop-at-preserved : goal.loop-at-preserved
loop-at-preserved c = record {
  followed = followed_more c.args.circuit.now c.loop-at.circuit c.reach.new.circuit c.args.from.now c.args.edges.now c.loop-at.at c.get-edge.result.now c.in_ok-starts.starts.items c.loop-at.reached.items _ c.wire_of-here.result
      c.loop-at.invariant.followed c.requires.from_set.wires c.in_ok-starts.ensures c.wire_of-here.ensures
      (edge_wire c.args.circuit.now c.args.edges.now c.loop-at.at c.get-edge.result.now c.requires.edges_in c.get-edge.ensures (omega (arith, c.len-at-end.ensures)))
      c.get-edge.ensures (omega (arith, c.len-at-end.ensures)) c.in_ok-reach.ensures.extends c.in_ok-reach.ensures.wires c.in_ok-reach.ensures.value c.in_ok-reach.ensures.some;
  few = c.in_ok-reach.ensures.few c.loop-at.invariant.few;
}

pub returns-clause-set : goal.returns-clause-set
returns-clause-set c =
    image_set c.args.circuit.now c.loop-at.circuit c.args.from.now _ c.loop-at.reached.items c.in_ok-set.set c.loop-at.invariant.followed c.in_ok-set.ensures

pub returns-clause-few : goal.returns-clause-few
returns-clause-few c =
    omega (arith, image_few c.args.circuit.now c.loop-at.circuit c.args.from.now (take c.loop-at.at c.args.edges.now) c.loop-at.reached.items c.in_ok-set.set c.loop-at.invariant.followed c.in_ok-set.ensures, leading_within c.args.from.now c.args.edges.now c.loop-at.at)
