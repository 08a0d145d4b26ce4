use Rattle.std.proofs.Common.{arith}
use Rattle.shape_encoder.specs.Counting.{is_marked}
use Rattle.shape_encoder.proofs.Bounding.{each_fits, each_within, each_more}
use Rattle.shape_encoder.proofs.limits.demand_each.Goals as goal

pub demand_of_owner-requires-clause-room : goal.demand_of_owner-requires-clause-room
demand_of_owner-requires-clause-room c =
    let fits = each_fits c.args.circuit.now c.loop-slot.circuit c.args.layout.now c.args.demands.now c.loop-slot.demands (is_marked c.args.limit.now.owners.items) (is_marked c.args.limit.now.counted.items) c.args.limit.now.interval c.loop-slot.slot (omega (arith, c.loop-slot-test.true, c.len-slot-end.ensures)) c.loop-slot.invariant in
    omega (arith, c.requires.room, fits)

pub returns-in_err-demand_of_owner-clause-extends : goal.returns-in_err-demand_of_owner-clause-extends
returns-in_err-demand_of_owner-clause-extends c =
    each_within c.args.circuit.now c.loop-slot.circuit c.demand_of_owner.new.circuit c.args.layout.now c.args.demands.now c.loop-slot.demands (is_marked c.args.limit.now.owners.items) (is_marked c.args.limit.now.counted.items) c.args.limit.now.interval c.loop-slot.slot (omega (arith, c.loop-slot-test.true, c.len-slot-end.ensures)) c.loop-slot.invariant
    c.in_err-demand_of_owner.ensures.extends

pub loop-slot-preserved : goal.loop-slot-preserved
loop-slot-preserved c =
    each_more c.args.circuit.now c.loop-slot.circuit c.demand_of_owner.new.circuit c.args.layout.now c.args.demands.now c.loop-slot.demands c.demand_of_owner.new.demands (is_marked c.args.limit.now.owners.items) (is_marked c.args.limit.now.counted.items) c.args.limit.now.interval c.loop-slot.slot c.loop-slot.invariant
    c.in_ok-demand_of_owner.ensures.extends c.in_ok-demand_of_owner.ensures.demanded
