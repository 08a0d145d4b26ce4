use Rattle.std.proofs.Common.{length, sym, ap, ◌∙◌}
use Rattle.bool_circuit.specs.Circuit.{wire_values}
use Rattle.integer_bits.specs.Totals.{count_true}
use Rattle.shape_encoder.specs.Counting.{clipped}
use Rattle.shape_encoder.proofs.Allowing.{low_alone, wires_within}
use Rattle.shape_encoder.proofs.amounts.is_allowed.Goals as goal

pub returns-in_ok-enough-in-None-clause-value : goal.returns-in_ok-enough-in-None-clause-value
returns-in_ok-enough-in-None-clause-value c = λ bits.
    c.in_ok-enough-in-None.ensures.value bits
    ∙ low_alone c.args.interval (length c.args.wires.now) (count_true (wire_values c.args.circuit.now c.args.wires.now bits)) (ap (clipped c.args.interval.high) (sym c.len.ensures) ∙ sym c.clipped.ensures ∙ c.in-None.is) (wires_within c.args.circuit.now c.args.wires.now bits)
