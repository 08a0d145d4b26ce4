use Rattle.bool_circuit.proofs.Folding.{or_above_left, or_above_right}
use Rattle.bool_circuit.proofs.circuit.Circuit.is_or_of.Goals as goal

pub returns-in-Or : goal.returns-in-Or
returns-in-Or c = λ _. or_above_left _ c.args.a c.args.b c.in-Or.x c.in-Or.field-1 c.driver.ensures.circuit c.in-Or.ensures.gate c.if-x-b.true

pub returns-in-Or-2 : goal.returns-in-Or-2
returns-in-Or-2 c = λ _. or_above_right _ c.args.a c.args.b c.in-Or.x c.in-Or.field-1 c.driver.ensures.circuit c.in-Or.ensures.gate c.if-y-b.true
