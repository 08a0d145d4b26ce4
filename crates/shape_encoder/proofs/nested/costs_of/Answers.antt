use Rattle.std.proofs.Common.{◌+◌, ◌*◌, ◌∙◌, length, ap}
use Rattle.shape_encoder.specs.Comparing.{told}
use Rattle.shape_encoder.proofs.Paired.{list_here, kin_place}
use Rattle.shape_encoder.proofs.Chosen.{no_costs, costs_more}
use Rattle.shape_encoder.proofs.nested.costs_of.Goals as goal

pub loop-place-init : goal.loop-place-init
loop-place-init c = no_costs c.args.ties.now.parents.items c.args.ties.now.targets.items c.args.kin.now

pub loop-place-preserved : goal.loop-place-preserved
loop-place-preserved c =
    costs_more c.args.ties.now.parents.items c.args.ties.now.targets.items c.args.kin.now c.loop-place.place c.get-slot.result.now c.loop-place.costs.counted c.loop-place.costs.paired c.loop-place.costs.beside c.with_slot-costs.result.counted c.with_slot-costs.result.paired c.with_slot-costs.result.beside
    c.index-parents.result.now c.index-targets.result.now c.get-slot.ensures
    (list_here c.args.ties.now.parents.items c.get-slot.result.now c.index-parents.result.now (kin_place (length c.args.ties.now.parents.items) c.args.kin.now c.loop-place.place c.get-slot.result.now c.requires.parents c.get-slot.ensures) c.index-parents.ensures)
    (list_here c.args.ties.now.targets.items c.get-slot.result.now c.index-targets.result.now (kin_place (length c.args.ties.now.targets.items) c.args.kin.now c.loop-place.place c.get-slot.result.now c.requires.targets c.get-slot.ensures) c.index-targets.ensures)
    c.loop-place.invariant
    (c.with_slot-costs.ensures.counted ∙ ap (λ n. told (c.loop-place.costs.counted + told (n * (4 * c.len-in-loop-place.result + 3) + 3))) c.len.ensures ∙ ap (λ n. told (c.loop-place.costs.counted + told (length c.index-parents.result.now * (4 * n + 3) + 3))) c.len-in-loop-place.ensures)
    (c.with_slot-costs.ensures.paired ∙ ap (λ n. told (c.loop-place.costs.paired + told (n + c.len-in-loop-place.result + c.loop-place.costs.beside))) c.len.ensures
    ∙ ap (λ n. told (c.loop-place.costs.paired + told (length c.index-parents.result.now + n + c.loop-place.costs.beside))) c.len-in-loop-place.ensures)
    (c.with_slot-costs.ensures.beside ∙ ap (λ n. told (c.loop-place.costs.beside + told (2 * n + 2 * c.len-in-loop-place.result + 5))) c.len.ensures ∙ ap (λ n. told (c.loop-place.costs.beside + told (2 * length c.index-parents.result.now + 2 * n + 5))) c.len-in-loop-place.ensures)
