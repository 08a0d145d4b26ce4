use Rattle.std.proofs.Common.{◌≡◌, ◌<◌, length, get_or, arith, refl, sym, ◌∙◌, None}
use Rattle.std.proofs.lemmas.Grind.{common_steps}
use Rattle.cdcl_search.specs.Changes.{IsPartner}
use Rattle.cdcl_search.proofs.Watch_steps.{visiting_watching, visiting_dropped}
use Rattle.cdcl_search.proofs.propagation.visit_one.Goals as goal

pub returns-then-clause-len-clause-visited : goal.returns-then-clause-len-clause-visited
returns-then-clause-len-clause-visited c = (
  visiting_dropped c.args.arena.now c.args.trail.now c.args.watches.now _ c.args.literal c.args.index c.requires.visiting c.remove.ensures refl refl refl refl
      (λ n b e. absurd (omega (arith, b, e, c.get-clause.ensures, c.len.ensures, c.if-clause-len.true))),
  c.remove.ensures.shorter,
)

pub returns-then-clause-len-clause-watching : goal.returns-then-clause-len-clause-watching
returns-then-clause-len-clause-watching c = visiting_watching c.args.arena.now c.args.trail.now _ c.args.literal c.args.index (
    visiting_dropped c.args.arena.now c.args.trail.now c.args.watches.now _ c.args.literal c.args.index c.requires.visiting c.remove.ensures refl refl refl refl
    (λ n b e. absurd (omega (arith, b, e, c.get-clause.ensures, c.len.ensures, c.if-clause-len.true))))

pub returns-in-None-clause-visited : goal.returns-in-None-clause-visited
returns-in-None-clause-visited c =
    let room = c.requires.visiting.room in
    let i : c.get-clause.result < length c.args.arena.now = omega (arith, c.len.ensures, c.if-clause-len.false) in
    let x : c.index.result.now ≡ get_or c.args.watches.now.firsts.items c.get-clause.result 0 = let q = room.firsts in grind (arith, common_steps) in
    let y : c.index-2.result.now ≡ get_or c.args.watches.now.seconds.items c.get-clause.result 0 = let q = room.seconds in grind (arith, common_steps) in
    let p : IsPartner (get_or c.args.watches.now.firsts.items c.get-clause.result 0) (get_or c.args.watches.now.seconds.items c.get-clause.result 0) c.args.literal None = rw (x, y) at c.in-None.ensures in
    let d = visiting_dropped c.args.arena.now c.args.trail.now c.args.watches.now _ c.args.literal c.args.index c.requires.visiting c.remove-in-None.ensures refl refl refl refl
    (λ n b e. let m : n ≡ c.get-clause.result = e ∙ sym c.get-clause.ensures in rw m p) in
    (d, c.remove-in-None.ensures.shorter)

pub returns-in-None-clause-watching : goal.returns-in-None-clause-watching
returns-in-None-clause-watching c =
    let room = c.requires.visiting.room in
    let i : c.get-clause.result < length c.args.arena.now = omega (arith, c.len.ensures, c.if-clause-len.false) in
    let x : c.index.result.now ≡ get_or c.args.watches.now.firsts.items c.get-clause.result 0 = let q = room.firsts in grind (arith, common_steps) in
    let y : c.index-2.result.now ≡ get_or c.args.watches.now.seconds.items c.get-clause.result 0 = let q = room.seconds in grind (arith, common_steps) in
    let p : IsPartner (get_or c.args.watches.now.firsts.items c.get-clause.result 0) (get_or c.args.watches.now.seconds.items c.get-clause.result 0) c.args.literal None = rw (x, y) at c.in-None.ensures in
    let d = visiting_dropped c.args.arena.now c.args.trail.now c.args.watches.now _ c.args.literal c.args.index c.requires.visiting c.remove-in-None.ensures refl refl refl refl
    (λ n b e. let m : n ≡ c.get-clause.result = e ∙ sym c.get-clause.ensures in rw m p) in
    visiting_watching c.args.arena.now c.args.trail.now _ c.args.literal c.args.index d
