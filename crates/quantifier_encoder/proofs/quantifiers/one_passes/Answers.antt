use Rattle.quantifier_encoder.proofs.Steps.{one_found}
use Rattle.quantifier_encoder.proofs.quantifiers.one_passes.Goals as goal

pub loop-at-preserved : goal.loop-at-preserved
loop-at-preserved c =
    one_found c.args.circuit.now c.loop-at.circuit c.or_there.new.circuit c.args.tuples.now c.args.tests.now c.loop-at.at c.get.result.now c.get-test.result.now c.loop-at.some c.in_ok-more.more
    c.loop-at.invariant c.get.ensures c.get-test.ensures c.requires.tuples_in c.requires.tests_in c.in_ok-more.ensures.extends c.in_ok-more.ensures.wire c.in_ok-more.ensures.value
