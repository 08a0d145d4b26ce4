use Rattle.std.proofs.Common.{◌+◌, ◌*◌, length, take, arith}
use Rattle.shape_encoder.specs.Comparing.{siblings_cost}
use Rattle.shape_encoder.proofs.Compared.{nothing_more, costs_within}
use Rattle.shape_encoder.proofs.Paired.{ties_stay, list_here, here_bits, kin_place}
use Rattle.shape_encoder.proofs.Seen.{none_counted, counted_more, counted_within}
use Rattle.shape_encoder.proofs.siblings.and_no_siblings.Goals as goal

pub and_sibling-requires-clause-parent_bits : goal.and_sibling-requires-clause-parent_bits
and_sibling-requires-clause-parent_bits c =
    here_bits c.loop-place.circuit c.args.ties.now.parents.items c.get-slot.result.now c.index-parents.result.now (kin_place (length c.args.ties.now.parents.items) c.args.kin.now c.loop-place.place c.get-slot.result.now c.requires.ties.parents_known c.get-slot.ensures) c.index-parents.ensures
    (ties_stay c.args.circuit.now c.loop-place.circuit (siblings_cost c.args.ties.now.parents.items c.args.ties.now.targets.items (take c.loop-place.place c.args.kin.now)) c.args.kin.now c.args.ties.now.parents.items c.args.ties.now.targets.items c.loop-place.invariant.alone.extends c.requires.ties).parent_bits

pub and_sibling-requires-clause-target_bits : goal.and_sibling-requires-clause-target_bits
and_sibling-requires-clause-target_bits c =
    here_bits c.loop-place.circuit c.args.ties.now.targets.items c.get-slot.result.now c.index-targets.result.now (kin_place (length c.args.ties.now.targets.items) c.args.kin.now c.loop-place.place c.get-slot.result.now c.requires.ties.targets_known c.get-slot.ensures) c.index-targets.ensures
    (ties_stay c.args.circuit.now c.loop-place.circuit (siblings_cost c.args.ties.now.parents.items c.args.ties.now.targets.items (take c.loop-place.place c.args.kin.now)) c.args.kin.now c.args.ties.now.parents.items c.args.ties.now.targets.items c.loop-place.invariant.alone.extends c.requires.ties).target_bits

pub and_sibling-requires-clause-room : goal.and_sibling-requires-clause-room
and_sibling-requires-clause-room c =
    let fits = counted_within c.args.ties.now.parents.items c.args.ties.now.targets.items c.args.kin.now c.loop-place.place c.get-slot.result.now c.index-parents.result.now c.index-targets.result.now c.get-slot.ensures
    (list_here c.args.ties.now.parents.items c.get-slot.result.now c.index-parents.result.now (kin_place (length c.args.ties.now.parents.items) c.args.kin.now c.loop-place.place c.get-slot.result.now c.requires.ties.parents_known c.get-slot.ensures) c.index-parents.ensures)
    (list_here c.args.ties.now.targets.items c.get-slot.result.now c.index-targets.result.now (kin_place (length c.args.ties.now.targets.items) c.args.kin.now c.loop-place.place c.get-slot.result.now c.requires.ties.targets_known c.get-slot.ensures) c.index-targets.ensures) in
    omega (arith, c.requires.room, c.loop-place.invariant.alone.extends.at_most, fits)

pub returns-in_err-right-clause-extends : goal.returns-in_err-right-clause-extends
returns-in_err-right-clause-extends c =
    costs_within c.args.circuit.now c.loop-place.circuit c.and_sibling.new.circuit (siblings_cost c.args.ties.now.parents.items c.args.ties.now.targets.items (take c.loop-place.place c.args.kin.now)) (length c.index-parents.result.now * (4 * length c.index-targets.result.now + 3) + 3) (siblings_cost c.args.ties.now.parents.items c.args.ties.now.targets.items c.args.kin.now)
    (counted_within c.args.ties.now.parents.items c.args.ties.now.targets.items c.args.kin.now c.loop-place.place c.get-slot.result.now c.index-parents.result.now c.index-targets.result.now c.get-slot.ensures
    (list_here c.args.ties.now.parents.items c.get-slot.result.now c.index-parents.result.now (kin_place (length c.args.ties.now.parents.items) c.args.kin.now c.loop-place.place c.get-slot.result.now c.requires.ties.parents_known c.get-slot.ensures) c.index-parents.ensures)
    (list_here c.args.ties.now.targets.items c.get-slot.result.now c.index-targets.result.now (kin_place (length c.args.ties.now.targets.items) c.args.kin.now c.loop-place.place c.get-slot.result.now c.requires.ties.targets_known c.get-slot.ensures) c.index-targets.ensures))
    c.loop-place.invariant.alone.extends c.in_err-right.ensures.extends

pub loop-place-init : goal.loop-place-init
loop-place-init c = none_counted c.args.ties.now.parents.items c.args.ties.now.targets.items c.args.circuit.now c.args.kin.now c.args.all c.new-rows.result.items c.new-rows.ensures.items c.requires.all_in (nothing_more c.args.circuit.now)

pub loop-place-preserved : goal.loop-place-preserved
loop-place-preserved c =
    counted_more c.args.ties.now.parents.items c.args.ties.now.targets.items c.args.circuit.now c.loop-place.circuit c.and_sibling.new.circuit c.args.kin.now c.args.all c.loop-place.rows.items c.and_sibling.new.rows.items c.loop-place.place c.get-slot.result.now c.index-parents.result.now c.index-targets.result.now c.loop-place.right c.in_ok-right.right
    c.get-slot.ensures
    (list_here c.args.ties.now.parents.items c.get-slot.result.now c.index-parents.result.now (kin_place (length c.args.ties.now.parents.items) c.args.kin.now c.loop-place.place c.get-slot.result.now c.requires.ties.parents_known c.get-slot.ensures) c.index-parents.ensures)
    (list_here c.args.ties.now.targets.items c.get-slot.result.now c.index-targets.result.now (kin_place (length c.args.ties.now.targets.items) c.args.kin.now c.loop-place.place c.get-slot.result.now c.requires.ties.targets_known c.get-slot.ensures) c.index-targets.ensures)
    c.loop-place.invariant c.in_ok-right.ensures.extends c.in_ok-right.ensures.wire c.in_ok-right.ensures.value c.in_ok-right.ensures.rows c.in_ok-right.ensures.seen
