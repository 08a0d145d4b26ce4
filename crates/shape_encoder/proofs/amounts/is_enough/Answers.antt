use Rattle.std.proofs.Common.{length, arith}
use Rattle.bool_circuit.specs.Circuit.{wire_values}
use Rattle.integer_bits.specs.Totals.{count_true}
use Rattle.shape_encoder.proofs.Allowing.{too_many, wires_within}
use Rattle.shape_encoder.proofs.amounts.is_enough.Goals as goal

pub returns-then-low-len-clause-value : goal.returns-then-low-len-clause-value
returns-then-low-len-clause-value c = λ bits.
    too_many c.args.low (length c.args.wires.now) (count_true (wire_values c.args.circuit.now c.args.wires.now bits)) (omega (arith, c.len.ensures, c.if-low-len.true)) (wires_within c.args.circuit.now c.args.wires.now bits)
