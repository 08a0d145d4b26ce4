use Rattle.std.proofs.Common.{◌+◌, ◌≤◌, length, sym, ◌∙◌, subst}
use Rattle.std.proofs.lemmas.Option.{slice_get_within}
use Rattle.bool_circuit.specs.Circuit.{Extends}
use Rattle.bool_circuit.specs.declared.circuit.TheConstants.{MOST_WIRES}
use Rattle.clf_tree.specs.Shape.{allows}
use Rattle.shown_instance.specs.Bounds.{have_times, live_slots}
use Rattle.shape_encoder.specs.Counting.{is_marked}
use Rattle.shape_encoder.specs.Demanding.{slots_test}
use Rattle.shape_encoder.proofs.Bounding.{any_times, nested_told, nested_cost, top_told, top_cost}
use Rattle.shape_encoder.proofs.Demanded.{demanded_nothing, demanded_same}
use Rattle.shape_encoder.proofs.Marking.{instances_marked, parent_known}
use Rattle.shape_encoder.proofs.bounds.demand_times.Goals as goal

pub returns-then-is_any-clause-demanded : goal.returns-then-is_any-clause-demanded
returns-then-is_any-clause-demanded c =
    demanded_nothing c.args.circuit.now c.args.layout.now c.args.demands.now (λ bits. have_times c.args.clafers.now c.args.layout.now bits c.args.clafer c.args.here.now) c.requires.demands (λ bits. any_times c.args.clafers.now c.args.layout.now bits c.args.clafer c.args.here.now (sym c.is_any.ensures ∙ c.if-is_any.true))

pub demand_each-requires-clause-room : goal.demand_each-requires-clause-room
demand_each-requires-clause-room c = subst (λ n. length c.args.circuit.now + n ≤ MOST_WIRES) (sym (nested_cost c.args.clafers.now c.args.layout.now c.args.clafer c.in-Some.parent c.args.here.now (is_marked c.in_ok-owners-in-Some.owners.items) (is_marked c.in_ok-counted.counted.items) c.in-Some.is (instances_marked c.args.clafers.now c.in-Some.parent c.in_ok-owners-in-Some.owners.items (parent_known c.args.clafers.now c.args.clafer c.in-Some.parent c.args.here.now c.requires.closed c.requires.here c.in-Some.is) c.in_ok-owners-in-Some.ensures) (instances_marked c.args.clafers.now c.args.clafer c.in_ok-counted.counted.items (slice_get_within c.args.clafers.now c.args.clafer c.args.here.now c.requires.here) c.in_ok-counted.ensures))) c.requires.room

pub returns-in_err-demand_each-in-Some-clause-extends : goal.returns-in_err-demand_each-in-Some-clause-extends
returns-in_err-demand_each-in-Some-clause-extends c = subst (Extends c.args.circuit.now c.demand_each.new.circuit) (nested_cost c.args.clafers.now c.args.layout.now c.args.clafer c.in-Some.parent c.args.here.now (is_marked c.in_ok-owners-in-Some.owners.items) (is_marked c.in_ok-counted.counted.items) c.in-Some.is (instances_marked c.args.clafers.now c.in-Some.parent c.in_ok-owners-in-Some.owners.items (parent_known c.args.clafers.now c.args.clafer c.in-Some.parent c.args.here.now c.requires.closed c.requires.here c.in-Some.is) c.in_ok-owners-in-Some.ensures) (instances_marked c.args.clafers.now c.args.clafer c.in_ok-counted.counted.items (slice_get_within c.args.clafers.now c.args.clafer c.args.here.now c.requires.here) c.in_ok-counted.ensures)) c.in_err-demand_each-in-Some.ensures.extends

pub returns-in_ok-demand_each-in-Some-clause-extends : goal.returns-in_ok-demand_each-in-Some-clause-extends
returns-in_ok-demand_each-in-Some-clause-extends c = subst (Extends c.args.circuit.now c.demand_each.new.circuit) (nested_cost c.args.clafers.now c.args.layout.now c.args.clafer c.in-Some.parent c.args.here.now (is_marked c.in_ok-owners-in-Some.owners.items) (is_marked c.in_ok-counted.counted.items) c.in-Some.is (instances_marked c.args.clafers.now c.in-Some.parent c.in_ok-owners-in-Some.owners.items (parent_known c.args.clafers.now c.args.clafer c.in-Some.parent c.args.here.now c.requires.closed c.requires.here c.in-Some.is) c.in_ok-owners-in-Some.ensures) (instances_marked c.args.clafers.now c.args.clafer c.in_ok-counted.counted.items (slice_get_within c.args.clafers.now c.args.clafer c.args.here.now c.requires.here) c.in_ok-counted.ensures)) c.in_ok-demand_each-in-Some.ensures.extends

pub returns-in_ok-demand_each-in-Some-clause-demanded : goal.returns-in_ok-demand_each-in-Some-clause-demanded
returns-in_ok-demand_each-in-Some-clause-demanded c =
    demanded_same c.args.circuit.now c.demand_each.new.circuit c.args.layout.now c.args.demands.now c.demand_each.new.demands (slots_test c.args.layout.now (is_marked c.in_ok-owners-in-Some.owners.items) (is_marked c.in_ok-counted.counted.items) c.args.here.now.times (length c.args.layout.now.slots)) (λ bits. have_times c.args.clafers.now c.args.layout.now bits c.args.clafer c.args.here.now)
    (λ bits. nested_told c.args.clafers.now c.args.layout.now c.args.clafer c.in-Some.parent c.args.here.now (is_marked c.in_ok-owners-in-Some.owners.items) (is_marked c.in_ok-counted.counted.items) bits c.in-Some.is (instances_marked c.args.clafers.now c.in-Some.parent c.in_ok-owners-in-Some.owners.items (parent_known c.args.clafers.now c.args.clafer c.in-Some.parent c.args.here.now c.requires.closed c.requires.here c.in-Some.is) c.in_ok-owners-in-Some.ensures) (instances_marked c.args.clafers.now c.args.clafer c.in_ok-counted.counted.items (slice_get_within c.args.clafers.now c.args.clafer c.args.here.now c.requires.here) c.in_ok-counted.ensures)) c.in_ok-demand_each-in-Some.ensures.demanded

pub demand_live-requires-clause-room : goal.demand_live-requires-clause-room
demand_live-requires-clause-room c = subst (λ n. length c.args.circuit.now + n ≤ MOST_WIRES) (sym (top_cost c.args.clafers.now c.args.layout.now c.args.clafer c.args.here.now (is_marked c.in_ok-counted.counted.items) (sym c.is_any.ensures ∙ c.if-is_any.false) c.in-None.is (instances_marked c.args.clafers.now c.args.clafer c.in_ok-counted.counted.items (slice_get_within c.args.clafers.now c.args.clafer c.args.here.now c.requires.here) c.in_ok-counted.ensures))) c.requires.room

pub returns-in_err-demand_live-in-None-clause-extends : goal.returns-in_err-demand_live-in-None-clause-extends
returns-in_err-demand_live-in-None-clause-extends c = subst (Extends c.args.circuit.now c.demand_live.new.circuit) (top_cost c.args.clafers.now c.args.layout.now c.args.clafer c.args.here.now (is_marked c.in_ok-counted.counted.items) (sym c.is_any.ensures ∙ c.if-is_any.false) c.in-None.is (instances_marked c.args.clafers.now c.args.clafer c.in_ok-counted.counted.items (slice_get_within c.args.clafers.now c.args.clafer c.args.here.now c.requires.here) c.in_ok-counted.ensures)) c.in_err-demand_live-in-None.ensures.extends

pub returns-in_ok-demand_live-in-None-clause-extends : goal.returns-in_ok-demand_live-in-None-clause-extends
returns-in_ok-demand_live-in-None-clause-extends c = subst (Extends c.args.circuit.now c.demand_live.new.circuit) (top_cost c.args.clafers.now c.args.layout.now c.args.clafer c.args.here.now (is_marked c.in_ok-counted.counted.items) (sym c.is_any.ensures ∙ c.if-is_any.false) c.in-None.is (instances_marked c.args.clafers.now c.args.clafer c.in_ok-counted.counted.items (slice_get_within c.args.clafers.now c.args.clafer c.args.here.now c.requires.here) c.in_ok-counted.ensures)) c.in_ok-demand_live-in-None.ensures.extends

pub returns-in_ok-demand_live-in-None-clause-demanded : goal.returns-in_ok-demand_live-in-None-clause-demanded
returns-in_ok-demand_live-in-None-clause-demanded c =
    demanded_same c.args.circuit.now c.demand_live.new.circuit c.args.layout.now c.args.demands.now c.demand_live.new.demands (λ bits. allows c.args.here.now.times (live_slots c.args.layout.now bits (is_marked c.in_ok-counted.counted.items))) (λ bits. have_times c.args.clafers.now c.args.layout.now bits c.args.clafer c.args.here.now)
    (λ bits. top_told c.args.clafers.now c.args.layout.now c.args.clafer c.args.here.now (is_marked c.in_ok-counted.counted.items) bits c.in-None.is (instances_marked c.args.clafers.now c.args.clafer c.in_ok-counted.counted.items (slice_get_within c.args.clafers.now c.args.clafer c.args.here.now c.requires.here) c.in_ok-counted.ensures)) c.in_ok-demand_live-in-None.ensures.demanded
