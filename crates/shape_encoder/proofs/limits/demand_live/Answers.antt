use Rattle.std.proofs.Common.{length}
use Rattle.clf_tree.specs.Shape.{allows}
use Rattle.shown_instance.specs.Bounds.{live_slots}
use Rattle.shape_encoder.specs.Counting.{is_marked, counted_cost, most_counted}
use Rattle.shape_encoder.specs.Demanding.{tells}
use Rattle.shape_encoder.proofs.Bounding.{whole_told}
use Rattle.shape_encoder.proofs.Demanded.{demands_stay, demanded_later}
use Rattle.shape_encoder.proofs.limits.demand_live.Goals as goal

pub returns-clause-demanded : goal.returns-clause-demanded
returns-clause-demanded c =
    demanded_later c.args.circuit.now c.is_allowed.new.circuit c.demand.new.circuit (counted_cost (length c.in_ok-wires.wires) (most_counted c.args.interval (length c.in_ok-wires.wires))) c.args.layout.now c.args.demands.now c.demand.new.demands
    (tells c.is_allowed.new.circuit c.in_ok-allowed.allowed) (λ bits. allows c.args.interval (live_slots c.args.layout.now bits (is_marked c.args.marks.now.items)))
    c.in_ok-allowed.ensures.extends c.requires.demands
    (whole_told c.args.circuit.now c.is_allowed.new.circuit c.args.layout.now (is_marked c.args.marks.now.items) c.args.interval c.in_ok-wires.wires c.in_ok-allowed.allowed c.requires.laid.live c.in_ok-wires.ensures c.in_ok-allowed.ensures.value)
    (c.in_ok-demand.ensures.demanded c.args.layout.now (demands_stay c.args.circuit.now c.is_allowed.new.circuit (counted_cost (length c.in_ok-wires.wires) (most_counted c.args.interval (length c.in_ok-wires.wires))) c.args.layout.now c.args.demands.now c.in_ok-allowed.ensures.extends c.requires.demands))
