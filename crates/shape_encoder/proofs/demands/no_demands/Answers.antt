use Rattle.std.proofs.Common.{length, true, ◌&&◌, ap, ◌∙◌}
use Rattle.shape_encoder.specs.Demanding.{are_dead}
use Rattle.shape_encoder.proofs.Demanded.{none_dead}
use Rattle.shape_encoder.proofs.demands.no_demands.Goals as goal

pub returns-clause-value : goal.returns-clause-value
returns-clause-value c = λ bits.
    ap (λ b. (b && true) && are_dead c.args.layout.now c.in_ok-dead.dead.items bits (length c.args.layout.now.slots)) (c.in_ok-all.ensures.value bits)
    ∙ none_dead c.args.layout.now c.in_ok-dead.dead.items bits c.len.result (length c.args.layout.now.slots) c.in_ok-dead.ensures
