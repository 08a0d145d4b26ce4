use Rattle.std.proofs.Common.{◌+◌, ◌≤◌, not, ◌||◌, length, sym, subst, arith}
use Rattle.bool_circuit.specs.Circuit.{Extends}
use Rattle.bool_circuit.specs.declared.circuit.TheConstants.{MOST_WIRES}
use Rattle.clf_tree.specs.Shape.{allows}
use Rattle.shown_instance.specs.Shown.{is_live}
use Rattle.shown_instance.specs.Bounds.{children_below}
use Rattle.shape_encoder.specs.Counting.{is_marked, counted_cost, most_counted, child_slots}
use Rattle.shape_encoder.specs.Demanding.{tells, demand_cost}
use Rattle.shape_encoder.proofs.Bounding.{table_read, children_sized, children_wires, children_allowed}
use Rattle.shape_encoder.proofs.Demanded.{answer_within, demanded_later}
use Rattle.shape_encoder.proofs.limits.demand_children.Goals as goal

pub is_allowed-requires-clause-wires_in : goal.is_allowed-requires-clause-wires_in
is_allowed-requires-clause-wires_in c = children_wires c.args.circuit.now c.args.layout.now (is_marked c.args.limit.now.counted.items) c.args.slot c.index-below.result.now c.in_ok-wires.wires c.requires.laid.parents (table_read c.args.layout.now.slots c.args.layout.now.parents c.args.children.now.by_slot.items c.args.slot c.index-below.result.now c.requires.table c.requires.slot_in c.index-below.ensures) c.in_ok-wires.ensures

pub is_allowed-requires-clause-room : goal.is_allowed-requires-clause-room
is_allowed-requires-clause-room c = subst (λ n. length c.args.circuit.now + counted_cost n (most_counted c.args.limit.now.interval n) ≤ MOST_WIRES) (sym (children_sized c.args.layout.now (is_marked c.args.limit.now.counted.items) c.args.slot c.index-below.result.now c.in_ok-wires.wires (table_read c.args.layout.now.slots c.args.layout.now.parents c.args.children.now.by_slot.items c.args.slot c.index-below.result.now c.requires.table c.requires.slot_in c.index-below.ensures) c.in_ok-wires.ensures)) c.requires.room

pub returns-in_err-allowed-clause-extends : goal.returns-in_err-allowed-clause-extends
returns-in_err-allowed-clause-extends c = subst (λ n. Extends c.args.circuit.now c.is_allowed.new.circuit (counted_cost n (most_counted c.args.limit.now.interval n))) (children_sized c.args.layout.now (is_marked c.args.limit.now.counted.items) c.args.slot c.index-below.result.now c.in_ok-wires.wires (table_read c.args.layout.now.slots c.args.layout.now.parents c.args.children.now.by_slot.items c.args.slot c.index-below.result.now c.requires.table c.requires.slot_in c.index-below.ensures) c.in_ok-wires.ensures) c.in_err-allowed.ensures.extends

pub demand_of_slot-requires-clause-room : goal.demand_of_slot-requires-clause-room
demand_of_slot-requires-clause-room c = let few = (subst (λ n. length c.is_allowed.new.circuit + demand_cost c.in_ok-allowed.allowed ≤ length c.args.circuit.now + counted_cost n (most_counted c.args.limit.now.interval n)) (children_sized c.args.layout.now (is_marked c.args.limit.now.counted.items) c.args.slot c.index-below.result.now c.in_ok-wires.wires (table_read c.args.layout.now.slots c.args.layout.now.parents c.args.children.now.by_slot.items c.args.slot c.index-below.result.now c.requires.table c.requires.slot_in c.index-below.ensures) c.in_ok-wires.ensures) c.in_ok-allowed.ensures.few) in omega (arith, few, c.requires.room)

pub returns-in_err-demand_of_slot-clause-extends : goal.returns-in_err-demand_of_slot-clause-extends
returns-in_err-demand_of_slot-clause-extends c =
    answer_within c.args.circuit.now c.is_allowed.new.circuit c.demand_of_slot.new.circuit (demand_cost c.in_ok-allowed.allowed) (counted_cost (child_slots c.args.layout.now (is_marked c.args.limit.now.counted.items) c.args.slot) (most_counted c.args.limit.now.interval (child_slots c.args.layout.now (is_marked c.args.limit.now.counted.items) c.args.slot))) (subst (λ n. Extends c.args.circuit.now c.is_allowed.new.circuit (counted_cost n (most_counted c.args.limit.now.interval n))) (children_sized c.args.layout.now (is_marked c.args.limit.now.counted.items) c.args.slot c.index-below.result.now c.in_ok-wires.wires (table_read c.args.layout.now.slots c.args.layout.now.parents c.args.children.now.by_slot.items c.args.slot c.index-below.result.now c.requires.table c.requires.slot_in c.index-below.ensures) c.in_ok-wires.ensures) c.in_ok-allowed.ensures.extends) (subst (λ n. length c.is_allowed.new.circuit + demand_cost c.in_ok-allowed.allowed ≤ length c.args.circuit.now + counted_cost n (most_counted c.args.limit.now.interval n)) (children_sized c.args.layout.now (is_marked c.args.limit.now.counted.items) c.args.slot c.index-below.result.now c.in_ok-wires.wires (table_read c.args.layout.now.slots c.args.layout.now.parents c.args.children.now.by_slot.items c.args.slot c.index-below.result.now c.requires.table c.requires.slot_in c.index-below.ensures) c.in_ok-wires.ensures) c.in_ok-allowed.ensures.few) c.in_err-demand_of_slot.ensures.extends

pub returns-clause-extends : goal.returns-clause-extends
returns-clause-extends c =
    answer_within c.args.circuit.now c.is_allowed.new.circuit c.demand_of_slot.new.circuit (demand_cost c.in_ok-allowed.allowed) (counted_cost (child_slots c.args.layout.now (is_marked c.args.limit.now.counted.items) c.args.slot) (most_counted c.args.limit.now.interval (child_slots c.args.layout.now (is_marked c.args.limit.now.counted.items) c.args.slot))) (subst (λ n. Extends c.args.circuit.now c.is_allowed.new.circuit (counted_cost n (most_counted c.args.limit.now.interval n))) (children_sized c.args.layout.now (is_marked c.args.limit.now.counted.items) c.args.slot c.index-below.result.now c.in_ok-wires.wires (table_read c.args.layout.now.slots c.args.layout.now.parents c.args.children.now.by_slot.items c.args.slot c.index-below.result.now c.requires.table c.requires.slot_in c.index-below.ensures) c.in_ok-wires.ensures) c.in_ok-allowed.ensures.extends) (subst (λ n. length c.is_allowed.new.circuit + demand_cost c.in_ok-allowed.allowed ≤ length c.args.circuit.now + counted_cost n (most_counted c.args.limit.now.interval n)) (children_sized c.args.layout.now (is_marked c.args.limit.now.counted.items) c.args.slot c.index-below.result.now c.in_ok-wires.wires (table_read c.args.layout.now.slots c.args.layout.now.parents c.args.children.now.by_slot.items c.args.slot c.index-below.result.now c.requires.table c.requires.slot_in c.index-below.ensures) c.in_ok-wires.ensures) c.in_ok-allowed.ensures.few) c.in_ok-demand_of_slot.ensures.extends

pub returns-clause-demanded : goal.returns-clause-demanded
returns-clause-demanded c =
    demanded_later c.args.circuit.now c.is_allowed.new.circuit c.demand_of_slot.new.circuit (counted_cost (child_slots c.args.layout.now (is_marked c.args.limit.now.counted.items) c.args.slot) (most_counted c.args.limit.now.interval (child_slots c.args.layout.now (is_marked c.args.limit.now.counted.items) c.args.slot))) c.args.layout.now c.args.demands.now c.demand_of_slot.new.demands
    (λ bits. not (is_live c.args.layout.now bits c.args.slot) || tells c.is_allowed.new.circuit c.in_ok-allowed.allowed bits) (λ bits. not (is_live c.args.layout.now bits c.args.slot) || allows c.args.limit.now.interval (children_below c.args.layout.now bits (is_marked c.args.limit.now.counted.items) c.args.slot))
    (subst (λ n. Extends c.args.circuit.now c.is_allowed.new.circuit (counted_cost n (most_counted c.args.limit.now.interval n))) (children_sized c.args.layout.now (is_marked c.args.limit.now.counted.items) c.args.slot c.index-below.result.now c.in_ok-wires.wires (table_read c.args.layout.now.slots c.args.layout.now.parents c.args.children.now.by_slot.items c.args.slot c.index-below.result.now c.requires.table c.requires.slot_in c.index-below.ensures) c.in_ok-wires.ensures) c.in_ok-allowed.ensures.extends) c.requires.demands
    (children_allowed c.args.circuit.now c.is_allowed.new.circuit c.args.layout.now (is_marked c.args.limit.now.counted.items) c.args.limit.now.interval c.args.slot c.index-below.result.now c.in_ok-wires.wires c.in_ok-allowed.allowed c.requires.laid.parents (table_read c.args.layout.now.slots c.args.layout.now.parents c.args.children.now.by_slot.items c.args.slot c.index-below.result.now c.requires.table c.requires.slot_in c.index-below.ensures) c.in_ok-wires.ensures c.in_ok-allowed.ensures.value)
    c.in_ok-demand_of_slot.ensures.demanded
