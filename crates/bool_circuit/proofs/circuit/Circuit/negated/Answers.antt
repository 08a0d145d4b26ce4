use Rattle.bool_circuit.proofs.Folding.{negated_value, negated_within}
use Rattle.bool_circuit.proofs.circuit.Circuit.negated.Goals as goal

pub returns-in-Not-clause-wire : goal.returns-in-Not-clause-wire
returns-in-Not-clause-wire c = negated_within _ _ _ c.driver.ensures.circuit c.in-Not.ensures.gate

pub returns-in-Not-clause-value : goal.returns-in-Not-clause-value
returns-in-Not-clause-value c = negated_value _ _ _ c.driver.ensures.circuit c.in-Not.ensures.gate
