use Rattle.std.proofs.Common.{◌≡◌, ◌+◌, [], get_or, arith, refl, sym, ◌∙◌, None, subst}
use Rattle.std.proofs.lemmas.Grind.{common_steps}
use Rattle.cdcl_search.specs.Literals.{Has}
use Rattle.cdcl_search.specs.Trails.{zeros}
use Rattle.cdcl_search.specs.Changes.{IsSpare}
use Rattle.cdcl_search.proofs.Members.{Has-at}
use Rattle.cdcl_search.proofs.State_steps.{forced_state, zeros_fall}
use Rattle.cdcl_search.proofs.Watch_steps.{visiting_watching, visiting_passed, other_below, fresh_below, spare_forces, spare_false, visiting_moved, visiting_forced, keeps_assigned}
use Rattle.cdcl_search.proofs.propagation.renew.Goals as goal

pub index-requires : goal.index-requires
index-requires c =
    let o = other_below c.args.arena.now c.args.trail.now c.args.watches.now c.args.literal c.args.index c.args.clause c.args.other c.requires.state c.requires.visiting c.requires.given c.requires.pair in
    omega (arith, o, c.requires.state.search.trail.values_len, c.args.trail.now.values.ok)

pub returns-then-index-eq-TRUE-clause-visited : goal.returns-then-index-eq-TRUE-clause-visited
returns-then-index-eq-TRUE-clause-visited c =
    let o = other_below c.args.arena.now c.args.trail.now c.args.watches.now c.args.literal c.args.index c.args.clause c.args.other c.requires.state c.requires.visiting c.requires.given c.requires.pair in
    let n = c.requires.state.search.trail.values_len in
    let v : c.index.result.now ≡ get_or c.args.trail.now.values.items c.args.other 0 = grind (arith, common_steps) in
    let t : get_or c.args.trail.now.values.items c.args.other 0 ≡ 1 = sym v ∙ c.if-index-eq-TRUE.true in (
      visiting_passed c.args.arena.now c.args.trail.now c.args.watches.now c.args.literal c.args.index c.args.clause c.args.other c.requires.visiting c.requires.clause c.requires.pair
          (record { value = t; place = c.requires.state.search.trail.place_below c.args.other t }),
      refl,
    )

pub rewatch-requires-clause-row : goal.rewatch-requires-clause-row
rewatch-requires-clause-row c =
    let h : Has (get_or c.args.arena.now c.args.clause []) (get_or c.clause-literals.result.now c.in-Some.at 0) = subst (λ l. Has l (get_or c.clause-literals.result.now c.in-Some.at 0)) c.clause-literals.ensures (Has-at c.clause-literals.result.now c.in-Some.at c.in-Some.ensures.0) in
    omega (arith, fresh_below c.args.arena.now c.args.trail.now c.args.clause (get_or c.clause-literals.result.now c.in-Some.at 0) c.requires.state c.requires.given h, c.requires.visiting.room.lists)

pub index-requires-in-None : goal.index-requires-in-None
index-requires-in-None c =
    let o = other_below c.args.arena.now c.args.trail.now c.args.watches.now c.args.literal c.args.index c.args.clause c.args.other c.requires.state c.requires.visiting c.requires.given c.requires.pair in
    omega (arith, o, c.requires.state.search.trail.values_len, c.args.trail.now.values.ok)

pub returns-then-index-eq-FALSE-clause-visited : goal.returns-then-index-eq-FALSE-clause-visited
returns-then-index-eq-FALSE-clause-visited c =
    let o = other_below c.args.arena.now c.args.trail.now c.args.watches.now c.args.literal c.args.index c.args.clause c.args.other c.requires.state c.requires.visiting c.requires.given c.requires.pair in
    let n = c.requires.state.search.trail.values_len in
    let v : c.index-in-None.result.now ≡ get_or c.args.trail.now.values.items c.args.other 0 = grind (arith, common_steps) in
    let z : IsSpare c.args.trail.now.values.items (get_or c.args.arena.now c.args.clause []) c.args.other None = rw c.clause-literals.ensures at c.in-None.ensures in (
      visiting_watching c.args.arena.now c.args.trail.now c.args.watches.now c.args.literal c.args.index c.requires.visiting,
      c.requires.given,
      spare_false c.args.arena.now c.args.trail.now c.args.clause c.args.other c.requires.state z (sym v ∙ c.if-index-eq-FALSE.true),
    )

pub assign-requires-clause-within : goal.assign-requires-clause-within
assign-requires-clause-within c = other_below c.args.arena.now c.args.trail.now c.args.watches.now c.args.literal c.args.index c.args.clause c.args.other c.requires.state c.requires.visiting c.requires.given c.requires.pair

pub returns-in_ok-rewatch-in-Some-clause-visited : goal.returns-in_ok-rewatch-in-Some-clause-visited
returns-in_ok-rewatch-in-Some-clause-visited c =
    let h : Has (get_or c.args.arena.now c.args.clause []) (get_or c.clause-literals.result.now c.in-Some.at 0) = subst (λ l. Has l (get_or c.clause-literals.result.now c.in-Some.at 0)) c.clause-literals.ensures (Has-at c.clause-literals.result.now c.in-Some.at c.in-Some.ensures.0) in
    (visiting_moved c.args.arena.now c.args.trail.now c.args.watches.now c.rewatch.new.self _ c.args.literal c.args.index c.args.clause c.args.other (get_or c.clause-literals.result.now c.in-Some.at 0) c.requires.state c.requires.visiting c.in_ok-rewatch-in-Some.ensures.done c.requires.given c.requires.clause c.requires.pair h c.in-Some.ensures.1 c.in-Some.ensures.2 c.remove.ensures refl refl refl refl)

pub returns-in_ok-rewatch-in-Some-clause-watching : goal.returns-in_ok-rewatch-in-Some-clause-watching
returns-in_ok-rewatch-in-Some-clause-watching c =
    let h : Has (get_or c.args.arena.now c.args.clause []) (get_or c.clause-literals.result.now c.in-Some.at 0) = subst (λ l. Has l (get_or c.clause-literals.result.now c.in-Some.at 0)) c.clause-literals.ensures (Has-at c.clause-literals.result.now c.in-Some.at c.in-Some.ensures.0) in
    visiting_watching c.args.arena.now c.args.trail.now _ c.args.literal c.args.index ((visiting_moved c.args.arena.now c.args.trail.now c.args.watches.now c.rewatch.new.self _ c.args.literal c.args.index c.args.clause c.args.other (get_or c.clause-literals.result.now c.in-Some.at 0) c.requires.state c.requires.visiting c.in_ok-rewatch-in-Some.ensures.done c.requires.given c.requires.clause c.requires.pair h c.in-Some.ensures.1 c.in-Some.ensures.2 c.remove.ensures refl refl refl refl).0)

pub returns-else-index-eq-FALSE-clause-state : goal.returns-else-index-eq-FALSE-clause-state
returns-else-index-eq-FALSE-clause-state c =
    let o = other_below c.args.arena.now c.args.trail.now c.args.watches.now c.args.literal c.args.index c.args.clause c.args.other c.requires.state c.requires.visiting c.requires.given c.requires.pair in
    let n = c.requires.state.search.trail.values_len in
    let v : c.index-in-None.result.now ≡ get_or c.args.trail.now.values.items c.args.other 0 = grind (arith, common_steps) in
    let y : c.index.result.now ≡ get_or c.args.trail.now.values.items c.args.other 0 = grind (arith, common_steps) in
    let z : get_or c.args.trail.now.values.items c.args.other 0 ≡ 0 = omega (arith, v, y, c.if-index-eq-TRUE.false, c.if-index-eq-FALSE.false, c.requires.state.search.trail.at_most_two c.args.other) in
    let f : IsSpare c.args.trail.now.values.items (get_or c.args.arena.now c.args.clause []) c.args.other None = rw c.clause-literals.ensures at c.in-None.ensures in
    forced_state c.args.arena.now _ _ _ _ c.requires.state c.assign.ensures z c.requires.given (spare_forces c.args.arena.now c.args.trail.now c.args.watches.now c.args.literal c.args.index c.args.clause c.args.other c.requires.state c.requires.visiting c.requires.given c.requires.pair f)

pub returns-else-index-eq-FALSE-clause-visited : goal.returns-else-index-eq-FALSE-clause-visited
returns-else-index-eq-FALSE-clause-visited c =
    let o = other_below c.args.arena.now c.args.trail.now c.args.watches.now c.args.literal c.args.index c.args.clause c.args.other c.requires.state c.requires.visiting c.requires.given c.requires.pair in
    let n = c.requires.state.search.trail.values_len in
    let v : c.index-in-None.result.now ≡ get_or c.args.trail.now.values.items c.args.other 0 = grind (arith, common_steps) in
    let y : c.index.result.now ≡ get_or c.args.trail.now.values.items c.args.other 0 = grind (arith, common_steps) in
    let z : get_or c.args.trail.now.values.items c.args.other 0 ≡ 0 = omega (arith, v, y, c.if-index-eq-TRUE.false, c.if-index-eq-FALSE.false, c.requires.state.search.trail.at_most_two c.args.other) in
    ((visiting_forced c.args.arena.now c.args.trail.now c.assign.new.self c.args.watches.now c.args.literal c.args.index c.args.clause c.args.other c.requires.state c.requires.visiting c.requires.given c.requires.clause c.requires.pair z c.assign.ensures), refl)

pub returns-else-index-eq-FALSE-clause-watching : goal.returns-else-index-eq-FALSE-clause-watching
returns-else-index-eq-FALSE-clause-watching c =
    let o = other_below c.args.arena.now c.args.trail.now c.args.watches.now c.args.literal c.args.index c.args.clause c.args.other c.requires.state c.requires.visiting c.requires.given c.requires.pair in
    let n = c.requires.state.search.trail.values_len in
    let v : c.index-in-None.result.now ≡ get_or c.args.trail.now.values.items c.args.other 0 = grind (arith, common_steps) in
    let y : c.index.result.now ≡ get_or c.args.trail.now.values.items c.args.other 0 = grind (arith, common_steps) in
    let z : get_or c.args.trail.now.values.items c.args.other 0 ≡ 0 = omega (arith, v, y, c.if-index-eq-TRUE.false, c.if-index-eq-FALSE.false, c.requires.state.search.trail.at_most_two c.args.other) in
    visiting_watching c.args.arena.now c.assign.new.self c.args.watches.now c.args.literal (c.args.index + 1) (visiting_forced c.args.arena.now c.args.trail.now c.assign.new.self c.args.watches.now c.args.literal c.args.index c.args.clause c.args.other c.requires.state c.requires.visiting c.requires.given c.requires.clause c.requires.pair z c.assign.ensures)

pub returns-else-index-eq-FALSE-clause-further : goal.returns-else-index-eq-FALSE-clause-further
returns-else-index-eq-FALSE-clause-further c =
    let o = other_below c.args.arena.now c.args.trail.now c.args.watches.now c.args.literal c.args.index c.args.clause c.args.other c.requires.state c.requires.visiting c.requires.given c.requires.pair in
    let n = c.requires.state.search.trail.values_len in
    let v : c.index-in-None.result.now ≡ get_or c.args.trail.now.values.items c.args.other 0 = grind (arith, common_steps) in
    let y : c.index.result.now ≡ get_or c.args.trail.now.values.items c.args.other 0 = grind (arith, common_steps) in
    let z : get_or c.args.trail.now.values.items c.args.other 0 ≡ 0 = omega (arith, v, y, c.if-index-eq-TRUE.false, c.if-index-eq-FALSE.false, c.requires.state.search.trail.at_most_two c.args.other) in
    let q : zeros c.assign.new.self.values.items + 2 ≡ zeros c.args.trail.now.values.items = zeros_fall c.args.arena.now _ _ _ _ c.requires.state c.assign.ensures z o in
    omega (arith, q)

pub returns-else-index-eq-FALSE-clause-keeps : goal.returns-else-index-eq-FALSE-clause-keeps
returns-else-index-eq-FALSE-clause-keeps c =
    let o = other_below c.args.arena.now c.args.trail.now c.args.watches.now c.args.literal c.args.index c.args.clause c.args.other c.requires.state c.requires.visiting c.requires.given c.requires.pair in
    let n = c.requires.state.search.trail.values_len in
    let v : c.index-in-None.result.now ≡ get_or c.args.trail.now.values.items c.args.other 0 = grind (arith, common_steps) in
    let y : c.index.result.now ≡ get_or c.args.trail.now.values.items c.args.other 0 = grind (arith, common_steps) in
    let z : get_or c.args.trail.now.values.items c.args.other 0 ≡ 0 = omega (arith, v, y, c.if-index-eq-TRUE.false, c.if-index-eq-FALSE.false, c.requires.state.search.trail.at_most_two c.args.other) in
    keeps_assigned c.args.arena.now _ _ _ _ c.requires.state c.assign.ensures z o
