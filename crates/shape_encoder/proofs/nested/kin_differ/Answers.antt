use Rattle.std.proofs.Common.{◌<◌, length, arith}
use Rattle.shape_encoder.specs.Comparing.{kin_cost, kins_cost}
use Rattle.shape_encoder.proofs.Compared.{cost_step, sum_below-room}
use Rattle.shape_encoder.proofs.Chosen.{differ_more}
use Rattle.shape_encoder.proofs.nested.kin_differ.Goals as goal

pub and_kin-requires-clause-room : goal.and_kin-requires-clause-room
and_kin-requires-clause-room c =
    let inside : c.loop-clafer.clafer < length c.args.clafers.now = omega (arith, c.loop-clafer-test.true, c.len-clafer-end.ensures) in
    omega (arith, c.requires.room, c.loop-clafer.invariant.extends.at_most, sum_below-room (kin_cost c.args.clafers.now c.args.layout.now) c.loop-clafer.clafer (length c.args.clafers.now) inside)

pub returns-in_err-all-2-clause-extends : goal.returns-in_err-all-2-clause-extends
returns-in_err-all-2-clause-extends c =
    let inside : c.loop-clafer.clafer < length c.args.clafers.now = omega (arith, c.loop-clafer-test.true, c.len-clafer-end.ensures) in
    cost_step c.args.circuit.now c.loop-clafer.circuit c.and_kin.new.circuit (kins_cost c.args.clafers.now c.args.layout.now c.loop-clafer.clafer) (kin_cost c.args.clafers.now c.args.layout.now c.loop-clafer.clafer) (kins_cost c.args.clafers.now c.args.layout.now (length c.args.clafers.now))
    (sum_below-room (kin_cost c.args.clafers.now c.args.layout.now) c.loop-clafer.clafer (length c.args.clafers.now) inside) c.loop-clafer.invariant.extends c.in_err-all-2.ensures.extends

pub loop-clafer-preserved : goal.loop-clafer-preserved
loop-clafer-preserved c =
    differ_more c.args.circuit.now c.loop-clafer.circuit c.and_kin.new.circuit c.args.clafers.now c.args.layout.now c.loop-clafer.clafer c.loop-clafer.all c.in_ok-all-2.all
    c.loop-clafer.invariant c.in_ok-all-2.ensures.extends c.in_ok-all-2.ensures.wire c.in_ok-all-2.ensures.value
