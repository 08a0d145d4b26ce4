use Rattle.std.proofs.Common.{◌≡◌, Bool, ◌&&◌, ap, ◌∙◌}
use Rattle.std.specs.Prelude.{nat_le}
use Rattle.bool_circuit.specs.Circuit.{wire_values}
use Rattle.bool_circuit.proofs.Extending.{wire_values_stay}
use Rattle.integer_bits.specs.Totals.{count_true}
use Rattle.quantifier_encoder.proofs.Steps.{one_is}
use Rattle.quantifier_encoder.proofs.quantifiers.exactly_one.Goals as goal

both : {a b d e : Bool} → a ≡ d → b ≡ e → (a && b) ≡ (d && e)
both p q = cc

pub returns-clause-value : goal.returns-clause-value
returns-clause-value c = λ bits.
    c.in_ok-both.ensures.value bits
    ∙ both (c.in_ok-few.ensures.extends.keeps c.in_ok-some.some c.in_ok-some.ensures.wire bits ∙ c.in_ok-some.ensures.value bits)
    (c.in_ok-few.ensures.value bits ∙ ap (λ vs. nat_le (count_true vs) 1) (wire_values_stay c.args.circuit.now c.at_least.new.circuit _ c.args.wires.now bits c.in_ok-some.ensures.extends c.requires.wires_in))
    ∙ one_is (count_true (wire_values c.args.circuit.now c.args.wires.now bits))
