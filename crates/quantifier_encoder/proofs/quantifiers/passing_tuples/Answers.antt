use Rattle.quantifier_encoder.proofs.Steps.{passing_more}
use Rattle.quantifier_encoder.proofs.quantifiers.passing_tuples.Goals as goal

pub loop-at-preserved : goal.loop-at-preserved
loop-at-preserved c =
    passing_more c.args.circuit.now c.loop-at.circuit c.and.new.self c.args.tuples.now c.args.tests.now c.loop-at.at c.get.result.now c.get-test.result.now c.in_ok-passes.passes c.loop-at.passing c.push.new.self
    c.loop-at.invariant c.get.ensures c.get-test.ensures c.requires.tuples_in c.requires.tests_in c.in_ok-passes.ensures.extends c.in_ok-passes.ensures.wire c.in_ok-passes.ensures.value c.in_ok-push.ensures.ok
