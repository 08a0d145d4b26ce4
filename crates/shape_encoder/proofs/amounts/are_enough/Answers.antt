use Rattle.std.proofs.Common.{arith, ◌∙◌}
use Rattle.bool_circuit.specs.Circuit.{wire_values}
use Rattle.integer_bits.specs.Totals.{count_true}
use Rattle.shape_encoder.proofs.Allowing.{wires_within, low_of_sum}
use Rattle.shape_encoder.proofs.amounts.are_enough.Goals as goal

pub returns-then-is_large-clause-value : goal.returns-then-is_large-clause-value
returns-then-is_large-clause-value c = λ bits.
    c.in_ok-right.ensures.value bits
    ∙ low_of_sum c.args.low c.len-most.result (count_true (wire_values c.args.circuit.now c.args.wires.now bits)) (let i = wires_within c.args.circuit.now c.args.wires.now bits in omega (arith, i, c.len-most.ensures))
