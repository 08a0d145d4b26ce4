use Rattle.bool_circuit.proofs.Folding.{constant_value}
use Rattle.bool_circuit.proofs.circuit.Circuit.fixed_value.Goals as goal

pub returns-in-Constant-clause-value : goal.returns-in-Constant-clause-value
returns-in-Constant-clause-value c = constant_value _ _ _ c.driver.ensures.circuit c.in-Constant.ensures.gate
