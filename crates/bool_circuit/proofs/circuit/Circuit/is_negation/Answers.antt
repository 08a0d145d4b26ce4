use Rattle.bool_circuit.proofs.Folding.{negation_value_at}
use Rattle.bool_circuit.proofs.circuit.Circuit.is_negation.Goals as goal

pub returns-in-Not-clause-value : goal.returns-in-Not-clause-value
returns-in-Not-clause-value c = negation_value_at _ _ c.args.b _ _ c.driver.ensures.circuit c.in-Not.ensures.gate c.eq.ensures
