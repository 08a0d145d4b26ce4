use Rattle.question_space.proofs.comparing.improves.Goals as goal
use Rattle.question_space.proofs.Differing.{improved}

pub returns-clause-value : goal.returns-clause-value
returns-clause-value c =
    improved c.args.circuit.now c.args.goals.now c.args.numbers.now c.args.vector.now c.compared.new.circuit c.compared-2.new.circuit
    c.not.new.self c.and.new.self
    c.in_ok-worse.worse c.in_ok-better.better c.in_ok-no_worse.no_worse c.in_ok-both.both
    c.requires.numbers c.in_ok-worse.ensures c.in_ok-better.ensures c.in_ok-no_worse.ensures.extends c.in_ok-no_worse.ensures.wire
    c.in_ok-no_worse.ensures.value c.in_ok-both.ensures.value
