use Rattle.std.proofs.Common.{arith}
use Rattle.quantifier_encoder.proofs.Steps.{longer_more}
use Rattle.quantifier_encoder.proofs.tuples.push_longer.Goals as goal

pub loop-at-preserved : goal.loop-at-preserved
loop-at-preserved c =
    longer_more c.args.circuit.now c.loop-at.circuit c.push_with.new.circuit c.args.set.now c.args.disj c.args.tuple.now c.args.longer.now c.loop-at.longer c.push_with.new.longer c.loop-at.at
    c.loop-at.invariant (omega (arith, c.len-at-end.ensures)) c.in_ok-push_with.ensures.extends c.in_ok-push_with.ensures.guarded c.in_ok-push_with.ensures.slots
