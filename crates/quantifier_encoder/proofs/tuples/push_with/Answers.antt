use Rattle.quantifier_encoder.proofs.Steps.{guarded_pushed}
use Rattle.quantifier_encoder.proofs.tuples.push_with.Goals as goal

pub returns-clause-guarded : goal.returns-clause-guarded
returns-clause-guarded c =
    guarded_pushed c.args.circuit.now c.with_member.new.circuit c.args.set.now c.args.at c.get-member.result.now c.args.tuple.now c.in_ok-next.next c.args.longer.now c.push.new.self
    c.requires.set c.get-member.ensures c.requires.tuple_in c.requires.longer_in c.in_ok-next.ensures.extends c.in_ok-next.ensures.slots c.in_ok-next.ensures.wire c.in_ok-next.ensures.value c.in_ok-push.ensures.ok
