use Rattle.std.proofs.Common.{◌<◌, length, arith}
use Rattle.shape_encoder.specs.Comparing.{clafer_from, single_cost, singles_cost}
use Rattle.shape_encoder.proofs.Compared.{cost_step, list_by, sum_below-room}
use Rattle.shape_encoder.proofs.Meeting.{singles_more}
use Rattle.shape_encoder.proofs.targets.are_single.Goals as goal

pub and_clafer-requires-clause-edges_are : goal.and_clafer-requires-clause-edges_are
and_clafer-requires-clause-edges_are c =
    let inside : c.loop-clafer.clafer < length c.args.clafers.now = omega (arith, c.loop-clafer-test.true, c.len-clafer-end.ensures) in
    list_by (clafer_from c.args.layout.now) c.args.layout.now.targets (length c.args.clafers.now) c.loop-clafer.clafer c.args.table.now.items c.index-edges.result.now c.requires.table inside c.index-edges.ensures

pub and_clafer-requires-clause-room : goal.and_clafer-requires-clause-room
and_clafer-requires-clause-room c =
    let inside : c.loop-clafer.clafer < length c.args.clafers.now = omega (arith, c.loop-clafer-test.true, c.len-clafer-end.ensures) in
    omega (arith, c.requires.room, c.loop-clafer.invariant.extends.at_most, sum_below-room (single_cost c.args.clafers.now c.args.layout.now) c.loop-clafer.clafer (length c.args.clafers.now) inside)

pub returns-in_err-all-2-clause-extends : goal.returns-in_err-all-2-clause-extends
returns-in_err-all-2-clause-extends c =
    let inside : c.loop-clafer.clafer < length c.args.clafers.now = omega (arith, c.loop-clafer-test.true, c.len-clafer-end.ensures) in
    cost_step c.args.circuit.now c.loop-clafer.circuit c.and_clafer.new.circuit (singles_cost c.args.clafers.now c.args.layout.now c.loop-clafer.clafer) (single_cost c.args.clafers.now c.args.layout.now c.loop-clafer.clafer) (singles_cost c.args.clafers.now c.args.layout.now (length c.args.clafers.now))
    (sum_below-room (single_cost c.args.clafers.now c.args.layout.now) c.loop-clafer.clafer (length c.args.clafers.now) inside) c.loop-clafer.invariant.extends c.in_err-all-2.ensures.extends

pub loop-clafer-preserved : goal.loop-clafer-preserved
loop-clafer-preserved c =
    singles_more c.args.circuit.now c.loop-clafer.circuit c.and_clafer.new.circuit c.args.clafers.now c.args.layout.now c.loop-clafer.clafer c.loop-clafer.all c.in_ok-all-2.all
    c.loop-clafer.invariant c.in_ok-all-2.ensures.extends c.in_ok-all-2.ensures.wire c.in_ok-all-2.ensures.value
