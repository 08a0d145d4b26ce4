use Rattle.std.proofs.Common.{arith, ◌∙◌}
use Rattle.set_bits.proofs.Marks.{too_many}
use Rattle.set_bits.proofs.counts.at_least.Goals as goal

pub returns-then-least-len-clause-value : goal.returns-then-least-len-clause-value
returns-then-least-len-clause-value c = λ bits. c.in_ok-wire-2.ensures.value bits ∙ too_many c.args.circuit.now c.args.wires.now c.args.n bits (omega (arith, c.len.ensures))
