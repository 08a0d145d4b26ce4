use Rattle.std.proofs.Common.{ap, ◌∙◌, length, ℕ}
use Rattle.std.specs.Prelude.{nat_le}
use Rattle.std.specs.List.{filter}
use Rattle.clf_tree.specs.Lists.{numbers_below}
use Rattle.bool_circuit.specs.Circuit.{wire_value}
use Rattle.set_bits.specs.Sets.{is_in}
use Rattle.set_bits.proofs.Staying.{set_stays, set_value_stays}
use Rattle.node_encoder.proofs.Emptiness.{both_counts, same-count}
use Rattle.node_encoder.proofs.amounts.exactly.Goals as goal

pub at_most-requires-clause-set : goal.at_most-requires-clause-set
at_most-requires-clause-set c = set_stays c.args.circuit.now c.at_least.new.circuit _ c.args.set.now c.in_ok-enough.ensures.extends c.requires.set

pub returns-clause-value : goal.returns-clause-value
returns-clause-value c = λ bits n h.
    c.in_ok-wire.ensures.value bits
    ∙ both_counts c.args.k (length (filter (λ s. is_in c.args.circuit.now c.args.set.now s bits) (numbers_below n)))
    (wire_value c.at_most.new.circuit c.in_ok-enough.enough bits) (wire_value c.at_most.new.circuit c.in_ok-few.few bits)
    (c.in_ok-few.ensures.extends.keeps c.in_ok-enough.enough c.in_ok-enough.ensures.wire bits ∙ c.in_ok-enough.ensures.value bits n h)
    (c.in_ok-few.ensures.value bits n h
    ∙ ap (λ (m : ℕ). nat_le m c.args.k) (same-count (λ s. is_in c.at_least.new.circuit c.args.set.now s bits) (λ s. is_in c.args.circuit.now c.args.set.now s bits) (numbers_below n)
    (λ s. set_value_stays c.args.circuit.now c.at_least.new.circuit _ c.args.set.now s bits c.in_ok-enough.ensures.extends c.requires.set)))
