use Rattle.std.proofs.Common.{◌∙◌}
use Rattle.std.specs.Prelude.{nat_lt}
use Rattle.clf_tree.specs.Lists.{numbers_below}
use Rattle.bool_circuit.specs.Circuit.{bool_xor}
use Rattle.set_bits.specs.Sets.{is_in}
use Rattle.node_encoder.proofs.Cutting.{either_passes}
use Rattle.node_encoder.proofs.Emptiness.{same-all}
use Rattle.node_encoder.proofs.comparing.same_nodes.Goals as goal

pub returns-clause-value : goal.returns-clause-value
returns-clause-value c = λ bits n ha hb.
    c.in_ok-wire.ensures.value bits n (either_passes (λ s. nat_lt s n) c.args.a.now c.args.b.now c.in_ok-other.other ha hb c.in_ok-other.ensures.slots)
    ∙ same-all (λ s. is_in c.differ.new.circuit c.in_ok-other.other s bits) (λ s. bool_xor (is_in c.args.circuit.now c.args.a.now s bits) (is_in c.args.circuit.now c.args.b.now s bits)) (numbers_below n) (λ s. c.in_ok-other.ensures.value bits s)
