use Rattle.std.proofs.Common.{◌+◌, ◌<◌, length, arith}
use Rattle.shape_encoder.specs.Comparing.{place_cost, twins_cost}
use Rattle.shape_encoder.proofs.Compared.{nothing_more, costs_within}
use Rattle.shape_encoder.proofs.Paired.{none_alone, alone_more, twins_cost-push, twins_cost-room}
use Rattle.shape_encoder.proofs.twins.and_no_twins.Goals as goal

pub and_alone-requires-clause-room : goal.and_alone-requires-clause-room
and_alone-requires-clause-room c =
    let inside : c.loop-place.place < length c.args.kin.now = omega (arith, c.loop-place-test.true, c.len-place-end.ensures) in
    omega (arith, c.requires.room, c.loop-place.invariant.extends.at_most, twins_cost-room c.args.ties.now.parents.items c.args.ties.now.targets.items c.args.kin.now c.loop-place.place inside)

pub returns-in_err-right-clause-extends : goal.returns-in_err-right-clause-extends
returns-in_err-right-clause-extends c =
    let inside : c.loop-place.place < length c.args.kin.now = omega (arith, c.loop-place-test.true, c.len-place-end.ensures) in
    costs_within c.args.circuit.now c.loop-place.circuit c.and_alone.new.circuit (twins_cost c.args.ties.now.parents.items c.args.ties.now.targets.items c.args.kin.now c.loop-place.place) (place_cost c.args.ties.now.parents.items c.args.ties.now.targets.items c.args.kin.now c.loop-place.place) (twins_cost c.args.ties.now.parents.items c.args.ties.now.targets.items c.args.kin.now (length c.args.kin.now))
    (twins_cost-room c.args.ties.now.parents.items c.args.ties.now.targets.items c.args.kin.now c.loop-place.place inside) c.loop-place.invariant.extends c.in_err-right.ensures.extends

pub loop-place-init : goal.loop-place-init
loop-place-init c = none_alone c.args.ties.now.parents.items c.args.ties.now.targets.items c.args.circuit.now c.args.kin.now c.args.all c.requires.all_in (nothing_more c.args.circuit.now)

pub loop-place-preserved : goal.loop-place-preserved
loop-place-preserved c =
    let inside : c.loop-place.place < length c.args.kin.now = omega (arith, c.loop-place-test.true, c.len-place-end.ensures) in
    alone_more c.args.ties.now.parents.items c.args.ties.now.targets.items c.args.circuit.now c.loop-place.circuit c.and_alone.new.circuit c.args.kin.now c.args.all c.loop-place.place (twins_cost c.args.ties.now.parents.items c.args.ties.now.targets.items c.args.kin.now c.loop-place.place) (place_cost c.args.ties.now.parents.items c.args.ties.now.targets.items c.args.kin.now c.loop-place.place) (twins_cost c.args.ties.now.parents.items c.args.ties.now.targets.items c.args.kin.now (c.loop-place.place + 1)) c.loop-place.right c.in_ok-right.right
    inside (let e = twins_cost-push c.args.ties.now.parents.items c.args.ties.now.targets.items c.args.kin.now c.loop-place.place in omega (arith, e)) c.loop-place.invariant c.in_ok-right.ensures.extends c.in_ok-right.ensures.wire c.in_ok-right.ensures.value
