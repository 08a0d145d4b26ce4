use Rattle.quantifier_encoder.proofs.Steps.{extended_more}
use Rattle.quantifier_encoder.proofs.tuples.longer_by_one.Goals as goal

pub loop-at-preserved : goal.loop-at-preserved
loop-at-preserved c =
    extended_more c.args.circuit.now c.loop-at.circuit c.push_longer.new.circuit c.args.set.now c.args.disj c.args.tuples.now c.loop-at.longer c.push_longer.new.longer c.loop-at.at c.get.result.now
    c.loop-at.invariant c.get.ensures c.in_ok-push_longer.ensures.extends c.in_ok-push_longer.ensures.guarded c.in_ok-push_longer.ensures.slots
