use Rattle.std.proofs.Common.{arith, ◌∙◌}
use Rattle.set_bits.proofs.Marks.{enough}
use Rattle.set_bits.proofs.counts.at_most.Goals as goal

pub returns-then-most-len-clause-value : goal.returns-then-most-len-clause-value
returns-then-most-len-clause-value c = λ bits. c.in_ok-wire.ensures.value bits ∙ enough c.args.circuit.now c.args.wires.now c.args.n bits (omega (arith, c.len.ensures))
