use Rattle.shape_encoder.proofs.Ranged.{some_more}
use Rattle.shape_encoder.proofs.ranges.are_false.Goals as goal

pub loop-at-preserved : goal.loop-at-preserved
loop-at-preserved c =
    some_more c.args.circuit.now c.loop-at.circuit c.or.new.self c.args.wires.now c.loop-at.at c.get-wire.result.now c.loop-at.some c.in_ok-some-2.some
    c.requires.wires_in c.get-wire.ensures c.loop-at.invariant c.in_ok-some-2.ensures.extends c.in_ok-some-2.ensures.wire c.in_ok-some-2.ensures.value
