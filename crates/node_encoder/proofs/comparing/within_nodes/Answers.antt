use Rattle.std.proofs.Common.{◌∙◌, ◌&&◌}
use Rattle.std.specs.Prelude.{nat_lt, not}
use Rattle.clf_tree.specs.Lists.{numbers_below}
use Rattle.set_bits.specs.Sets.{is_in}
use Rattle.node_encoder.proofs.Cutting.{each_passes, slot_passes}
use Rattle.node_encoder.proofs.Emptiness.{same-all}
use Rattle.node_encoder.proofs.comparing.within_nodes.Goals as goal

pub returns-clause-value : goal.returns-clause-value
returns-clause-value c = λ bits n ha hb.
    c.in_ok-wire.ensures.value bits n (each_passes (λ s. nat_lt s n) c.in_ok-other.other (λ s h. slot_passes (λ s. nat_lt s n) c.args.a.now s ha (c.in_ok-other.ensures.slots s h)))
    ∙ same-all (λ s. is_in c.minus.new.circuit c.in_ok-other.other s bits) (λ s. is_in c.args.circuit.now c.args.a.now s bits && not (is_in c.args.circuit.now c.args.b.now s bits)) (numbers_below n) (λ s. c.in_ok-other.ensures.value bits s)
