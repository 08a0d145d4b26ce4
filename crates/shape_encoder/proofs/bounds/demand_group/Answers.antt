use Rattle.std.proofs.Common.{◌+◌, ◌≤◌, length, sym, ◌∙◌, subst}
use Rattle.std.proofs.lemmas.Option.{slice_get_within}
use Rattle.bool_circuit.specs.Circuit.{Extends}
use Rattle.bool_circuit.specs.declared.circuit.TheConstants.{MOST_WIRES}
use Rattle.shown_instance.specs.Bounds.{have_group}
use Rattle.shape_encoder.specs.Counting.{is_marked}
use Rattle.shape_encoder.specs.Demanding.{slots_test}
use Rattle.shape_encoder.proofs.Bounding.{any_group, group_told, group_cost_same}
use Rattle.shape_encoder.proofs.Demanded.{demanded_nothing, demanded_same}
use Rattle.shape_encoder.proofs.Marking.{instances_marked, declared_marked}
use Rattle.shape_encoder.proofs.bounds.demand_group.Goals as goal

pub returns-then-is_any-clause-demanded : goal.returns-then-is_any-clause-demanded
returns-then-is_any-clause-demanded c =
    demanded_nothing c.args.circuit.now c.args.layout.now c.args.demands.now (λ bits. have_group c.args.clafers.now c.args.layout.now bits c.args.clafer c.args.here.now) c.requires.demands (λ bits. any_group c.args.clafers.now c.args.layout.now bits c.args.clafer c.args.here.now (sym c.is_any.ensures ∙ c.if-is_any.true))

pub demand_each-requires-clause-room : goal.demand_each-requires-clause-room
demand_each-requires-clause-room c = subst (λ n. length c.args.circuit.now + n ≤ MOST_WIRES) (sym (group_cost_same c.args.clafers.now c.args.layout.now c.args.clafer c.args.here.now (is_marked c.in_ok-owners.owners.items) (is_marked c.in_ok-counted.counted.items) (instances_marked c.args.clafers.now c.args.clafer c.in_ok-owners.owners.items (slice_get_within c.args.clafers.now c.args.clafer c.args.here.now c.requires.here) c.in_ok-owners.ensures) (declared_marked c.args.clafers.now c.args.clafer c.in_ok-counted.counted.items c.in_ok-counted.ensures))) c.requires.room

pub returns-in_err-demand_each-clause-extends : goal.returns-in_err-demand_each-clause-extends
returns-in_err-demand_each-clause-extends c = subst (Extends c.args.circuit.now c.demand_each.new.circuit) (group_cost_same c.args.clafers.now c.args.layout.now c.args.clafer c.args.here.now (is_marked c.in_ok-owners.owners.items) (is_marked c.in_ok-counted.counted.items) (instances_marked c.args.clafers.now c.args.clafer c.in_ok-owners.owners.items (slice_get_within c.args.clafers.now c.args.clafer c.args.here.now c.requires.here) c.in_ok-owners.ensures) (declared_marked c.args.clafers.now c.args.clafer c.in_ok-counted.counted.items c.in_ok-counted.ensures)) c.in_err-demand_each.ensures.extends

pub returns-clause-extends : goal.returns-clause-extends
returns-clause-extends c = subst (Extends c.args.circuit.now c.demand_each.new.circuit) (group_cost_same c.args.clafers.now c.args.layout.now c.args.clafer c.args.here.now (is_marked c.in_ok-owners.owners.items) (is_marked c.in_ok-counted.counted.items) (instances_marked c.args.clafers.now c.args.clafer c.in_ok-owners.owners.items (slice_get_within c.args.clafers.now c.args.clafer c.args.here.now c.requires.here) c.in_ok-owners.ensures) (declared_marked c.args.clafers.now c.args.clafer c.in_ok-counted.counted.items c.in_ok-counted.ensures)) c.in_ok-demand_each.ensures.extends

pub returns-clause-demanded : goal.returns-clause-demanded
returns-clause-demanded c =
    demanded_same c.args.circuit.now c.demand_each.new.circuit c.args.layout.now c.args.demands.now c.demand_each.new.demands (slots_test c.args.layout.now (is_marked c.in_ok-owners.owners.items) (is_marked c.in_ok-counted.counted.items) c.args.here.now.group (length c.args.layout.now.slots)) (λ bits. have_group c.args.clafers.now c.args.layout.now bits c.args.clafer c.args.here.now)
    (λ bits. group_told c.args.clafers.now c.args.layout.now c.args.clafer c.args.here.now (is_marked c.in_ok-owners.owners.items) (is_marked c.in_ok-counted.counted.items) bits (instances_marked c.args.clafers.now c.args.clafer c.in_ok-owners.owners.items (slice_get_within c.args.clafers.now c.args.clafer c.args.here.now c.requires.here) c.in_ok-owners.ensures) (declared_marked c.args.clafers.now c.args.clafer c.in_ok-counted.counted.items c.in_ok-counted.ensures)) c.in_ok-demand_each.ensures.demanded
