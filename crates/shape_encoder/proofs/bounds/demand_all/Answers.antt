use Rattle.std.proofs.Common.{arith}
use Rattle.shape_encoder.proofs.Bounding.{bounds_fit, bounds_within, bounds_more}
use Rattle.shape_encoder.proofs.bounds.demand_all.Goals as goal

pub demand_bounds-requires-clause-room : goal.demand_bounds-requires-clause-room
demand_bounds-requires-clause-room c =
    let fits = bounds_fit c.args.circuit.now c.loop-clafer.circuit c.args.clafers.now c.args.layout.now c.args.demands.now c.loop-clafer.demands c.loop-clafer.clafer c.get-here.result.now c.get-here.ensures c.loop-clafer.invariant in
    omega (arith, c.requires.room, fits)

pub returns-in_err-demand_bounds-clause-extends : goal.returns-in_err-demand_bounds-clause-extends
returns-in_err-demand_bounds-clause-extends c =
    bounds_within c.args.circuit.now c.loop-clafer.circuit c.demand_bounds.new.circuit c.args.clafers.now c.args.layout.now c.args.demands.now c.loop-clafer.demands c.loop-clafer.clafer c.get-here.result.now c.get-here.ensures c.loop-clafer.invariant c.in_err-demand_bounds.ensures.extends

pub loop-clafer-preserved : goal.loop-clafer-preserved
loop-clafer-preserved c =
    bounds_more c.args.circuit.now c.loop-clafer.circuit c.demand_bounds.new.circuit c.args.clafers.now c.args.layout.now c.args.demands.now c.loop-clafer.demands c.demand_bounds.new.demands c.loop-clafer.clafer c.get-here.result.now c.get-here.ensures c.loop-clafer.invariant
    c.in_ok-demand_bounds.ensures.extends c.in_ok-demand_bounds.ensures.demanded
