use Rattle.std.proofs.Common.{ap, ◌∙◌}
use Rattle.std.specs.Prelude.{◌==◌, nat_le}
use Rattle.bool_circuit.specs.Circuit.{wire_values}
use Rattle.integer_bits.specs.Totals.{count_true}
use Rattle.quantifier_encoder.specs.Tuples.{guards}
use Rattle.quantifier_encoder.proofs.Steps.{for_all, for_some, for_one, for_lone}
use Rattle.quantifier_encoder.proofs.quantifiers.as_many.Goals as goal

pub returns-in_ok-wire-in-All-clause-value : goal.returns-in_ok-wire-in-All-clause-value
returns-in_ok-wire-in-All-clause-value c = λ bits.
    c.in_ok-wire-in-All.ensures.value bits ∙ for_all c.args.word (guards c.args.circuit.now c.args.tuples.now bits) (wire_values c.args.circuit.now c.args.tests.now bits) c.in-All.is

pub returns-in_ok-wire-in-Some-clause-value : goal.returns-in_ok-wire-in-Some-clause-value
returns-in_ok-wire-in-Some-clause-value c = λ bits.
    c.in_ok-wire-in-Some.ensures.value bits ∙ for_some c.args.word (guards c.args.circuit.now c.args.tuples.now bits) (wire_values c.args.circuit.now c.args.tests.now bits) c.in-Some.is

pub returns-in_ok-wire-in-One-clause-value : goal.returns-in_ok-wire-in-One-clause-value
returns-in_ok-wire-in-One-clause-value c = λ bits.
    c.in_ok-wire-in-One.ensures.value bits ∙ ap (λ vs. count_true vs == 1) (c.in_ok-passing-in-One.ensures.values bits)
    ∙ for_one c.args.word (guards c.args.circuit.now c.args.tuples.now bits) (wire_values c.args.circuit.now c.args.tests.now bits) c.in-One.is

pub returns-in_ok-wire-in-Lone-clause-value : goal.returns-in_ok-wire-in-Lone-clause-value
returns-in_ok-wire-in-Lone-clause-value c = λ bits.
    c.in_ok-wire-in-Lone.ensures.value bits ∙ ap (λ vs. nat_le (count_true vs) 1) (c.in_ok-passing-in-Lone.ensures.values bits)
    ∙ for_lone c.args.word (guards c.args.circuit.now c.args.tuples.now bits) (wire_values c.args.circuit.now c.args.tests.now bits) c.in-Lone.is
