use Rattle.std.proofs.Common.{◌+◌, ◌*◌, length, take, arith}
use Rattle.std.specs.List.{sum_by}
use Rattle.shape_encoder.specs.Comparing.{twin_cost}
use Rattle.shape_encoder.proofs.Compared.{costs_within}
use Rattle.shape_encoder.proofs.Paired.{ties_stay, list_here, here_bits, kin_place, none_before, twins_more, twin_within}
use Rattle.shape_encoder.proofs.twins.and_no_twin.Goals as goal

pub and_apart-requires-clause-parent_bits : goal.and_apart-requires-clause-parent_bits
and_apart-requires-clause-parent_bits c =
    here_bits c.loop-at.circuit c.args.ties.now.parents.items c.get-earlier.result.now c.index-ups.result.now (kin_place (length c.args.ties.now.parents.items) c.args.kin.now c.loop-at.at c.get-earlier.result.now c.requires.ties.parents_known c.get-earlier.ensures) c.index-ups.ensures
    (ties_stay c.args.circuit.now c.loop-at.circuit (length c.args.parents.now + length c.args.targets.now + sum_by (twin_cost c.args.ties.now.parents.items c.args.ties.now.targets.items) (take c.loop-at.at c.args.kin.now)) c.args.kin.now c.args.ties.now.parents.items c.args.ties.now.targets.items c.loop-at.invariant.alone.extends c.requires.ties).parent_bits

pub and_apart-requires-clause-target_bits : goal.and_apart-requires-clause-target_bits
and_apart-requires-clause-target_bits c =
    here_bits c.loop-at.circuit c.args.ties.now.targets.items c.get-earlier.result.now c.index-ontos.result.now (kin_place (length c.args.ties.now.targets.items) c.args.kin.now c.loop-at.at c.get-earlier.result.now c.requires.ties.targets_known c.get-earlier.ensures) c.index-ontos.ensures
    (ties_stay c.args.circuit.now c.loop-at.circuit (length c.args.parents.now + length c.args.targets.now + sum_by (twin_cost c.args.ties.now.parents.items c.args.ties.now.targets.items) (take c.loop-at.at c.args.kin.now)) c.args.kin.now c.args.ties.now.parents.items c.args.ties.now.targets.items c.loop-at.invariant.alone.extends c.requires.ties).target_bits

pub and_apart-requires-clause-room : goal.and_apart-requires-clause-room
and_apart-requires-clause-room c =
    let fits = twin_within c.args.ties.now.parents.items c.args.ties.now.targets.items c.args.kin.now c.loop-at.at c.args.place c.get-earlier.result.now c.index-ups.result.now c.index-ontos.result.now c.get-earlier.ensures c.loop-at-test.true
    (list_here c.args.ties.now.parents.items c.get-earlier.result.now c.index-ups.result.now (kin_place (length c.args.ties.now.parents.items) c.args.kin.now c.loop-at.at c.get-earlier.result.now c.requires.ties.parents_known c.get-earlier.ensures) c.index-ups.ensures)
    (list_here c.args.ties.now.targets.items c.get-earlier.result.now c.index-ontos.result.now (kin_place (length c.args.ties.now.targets.items) c.args.kin.now c.loop-at.at c.get-earlier.result.now c.requires.ties.targets_known c.get-earlier.ensures) c.index-ontos.ensures) in
    omega (arith, c.requires.room, c.loop-at.invariant.alone.extends.at_most, fits)

pub returns-in_err-right-clause-extends : goal.returns-in_err-right-clause-extends
returns-in_err-right-clause-extends c =
    let fits = twin_within c.args.ties.now.parents.items c.args.ties.now.targets.items c.args.kin.now c.loop-at.at c.args.place c.get-earlier.result.now c.index-ups.result.now c.index-ontos.result.now c.get-earlier.ensures c.loop-at-test.true
    (list_here c.args.ties.now.parents.items c.get-earlier.result.now c.index-ups.result.now (kin_place (length c.args.ties.now.parents.items) c.args.kin.now c.loop-at.at c.get-earlier.result.now c.requires.ties.parents_known c.get-earlier.ensures) c.index-ups.ensures)
    (list_here c.args.ties.now.targets.items c.get-earlier.result.now c.index-ontos.result.now (kin_place (length c.args.ties.now.targets.items) c.args.kin.now c.loop-at.at c.get-earlier.result.now c.requires.ties.targets_known c.get-earlier.ensures) c.index-ontos.ensures) in
    costs_within c.args.circuit.now c.loop-at.circuit c.and_apart.new.circuit (length c.args.parents.now + length c.args.targets.now + sum_by (twin_cost c.args.ties.now.parents.items c.args.ties.now.targets.items) (take c.loop-at.at c.args.kin.now)) (2 * length c.index-ups.result.now + 2 * length c.index-ontos.result.now + 5) (length c.args.parents.now + length c.args.targets.now + sum_by (twin_cost c.args.ties.now.parents.items c.args.ties.now.targets.items) (take c.args.place c.args.kin.now)) (omega (arith, fits)) c.loop-at.invariant.alone.extends c.in_err-right.ensures.extends

pub loop-at-init : goal.loop-at-init
loop-at-init c =
    none_before c.args.ties.now.parents.items c.args.ties.now.targets.items c.args.circuit.now c.tie_slot.new.circuit c.args.kin.now c.args.parents.now c.args.targets.now c.in_ok-later.later.parents.items c.in_ok-later.later.targets.items c.args.all
    c.in_ok-later.ensures.extends c.in_ok-later.ensures.parents c.in_ok-later.ensures.targets c.requires.all_in

pub loop-at-preserved : goal.loop-at-preserved
loop-at-preserved c =
    twins_more c.args.ties.now.parents.items c.args.ties.now.targets.items c.args.circuit.now c.loop-at.circuit c.and_apart.new.circuit c.args.kin.now c.args.parents.now c.args.targets.now c.args.all c.loop-at.at c.get-earlier.result.now c.in_ok-later.later.parents.items c.in_ok-later.later.targets.items c.index-ups.result.now c.index-ontos.result.now c.loop-at.right c.in_ok-right.right
    c.get-earlier.ensures
    (list_here c.args.ties.now.parents.items c.get-earlier.result.now c.index-ups.result.now (kin_place (length c.args.ties.now.parents.items) c.args.kin.now c.loop-at.at c.get-earlier.result.now c.requires.ties.parents_known c.get-earlier.ensures) c.index-ups.ensures)
    (list_here c.args.ties.now.targets.items c.get-earlier.result.now c.index-ontos.result.now (kin_place (length c.args.ties.now.targets.items) c.args.kin.now c.loop-at.at c.get-earlier.result.now c.requires.ties.targets_known c.get-earlier.ensures) c.index-ontos.ensures)
    c.loop-at.invariant c.in_ok-right.ensures.extends c.in_ok-right.ensures.wire c.in_ok-right.ensures.value
