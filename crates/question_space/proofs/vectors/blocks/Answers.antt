use Rattle.question_space.proofs.vectors.blocks.Goals as goal
use Rattle.question_space.proofs.Blocking.{blocks_more}

pub loop-vector-preserved : goal.loop-vector-preserved
loop-vector-preserved c =
    blocks_more c.args.circuit.now c.args.goals.now c.args.numbers.now c.args.found.now c.loop-vector.vector-index c.loop-vector.circuit
    c.loop-vector.wires c.vector-item.result c.as_slice.result.now c.compared.new.circuit c.in_ok-wire.wire c.push.new.self
    c.loop-vector.invariant c.requires.numbers c.loop-vector-test.true c.vector-item.is c.as_slice.ensures c.in_ok-wire.ensures
    c.in_ok-push.ensures.ok
