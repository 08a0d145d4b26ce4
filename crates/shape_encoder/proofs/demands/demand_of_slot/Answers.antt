use Rattle.std.proofs.Common.{true, not, ◌||◌, refl, sym, ap, ◌∙◌}
use Rattle.std.specs.Vec.{with_item}
use Rattle.shown_instance.specs.Shown.{is_live}
use Rattle.shape_encoder.specs.Demanding.{tells}
use Rattle.shape_encoder.proofs.Demanded.{dead_demanded, demanded_same, or_false}
use Rattle.shape_encoder.proofs.demands.demand_of_slot.Goals as goal

pub returns-in-Never-clause-demanded : goal.returns-in-Never-clause-demanded
returns-in-Never-clause-demanded c =
    demanded_same c.args.circuit.now c.args.circuit.now c.args.layout.now c.args.demands.now (record { all = c.args.demands.now.all; dead = with_item c.args.demands.now.dead c.args.slot true; is_possible = c.args.demands.now.is_possible })
    (λ bits. not (is_live c.args.layout.now bits c.args.slot)) (λ bits. not (is_live c.args.layout.now bits c.args.slot) || tells c.args.circuit.now c.args.allowed bits)
    (λ bits. sym (ap (λ a. not (is_live c.args.layout.now bits c.args.slot) || tells c.args.circuit.now a bits) c.in-Never.is ∙ or_false (not (is_live c.args.layout.now bits c.args.slot))))
    (dead_demanded c.args.circuit.now c.args.layout.now c.args.demands.now (record { all = c.args.demands.now.all; dead = with_item c.args.demands.now.dead c.args.slot true; is_possible = c.args.demands.now.is_possible }) c.args.slot c.requires.slot_in c.requires.demands refl refl refl)
