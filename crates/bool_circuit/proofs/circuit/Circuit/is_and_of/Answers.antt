use Rattle.bool_circuit.proofs.Folding.{and_below_left, and_below_right}
use Rattle.bool_circuit.proofs.circuit.Circuit.is_and_of.Goals as goal

pub returns-in-And : goal.returns-in-And
returns-in-And c = λ _. and_below_left _ c.args.a c.args.b c.in-And.x c.in-And.field-1 c.driver.ensures.circuit c.in-And.ensures.gate c.if-x-b.true

pub returns-in-And-2 : goal.returns-in-And-2
returns-in-And-2 c = λ _. and_below_right _ c.args.a c.args.b c.in-And.x c.in-And.field-1 c.driver.ensures.circuit c.in-And.ensures.gate c.if-y-b.true
