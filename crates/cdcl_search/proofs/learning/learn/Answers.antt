use Rattle.std.proofs.Common.{◌≡◌, ◌-◌, ◌*◌, ◌<◌, ◌++◌, [], ◌∷◌, length, get_or, take, arith, refl, ◌∙◌, ap, subst}
use Rattle.std.proofs.lemmas.Grind.{common_steps}
use Rattle.cdcl_search.specs.Literals.{flip}
use Rattle.cdcl_search.specs.Learnings.{IsUndone}
use Rattle.cdcl_search.proofs.Flips.{flip-below}
use Rattle.cdcl_search.proofs.Trail_steps.{literal_within}
use Rattle.cdcl_search.proofs.Learn_steps.{taught}
use Rattle.cdcl_search.proofs.Jump_steps.{jumped, jumped_state}
use Rattle.cdcl_search.specs.Changes.{Keeps, IsAdded, IsAddedShort}
use Rattle.cdcl_search.proofs.Add_steps.{watching_kept, watching_jumped, reach_within}
use Rattle.cdcl_search.proofs.learning.learn.Goals as goal

pub assign-requires-clause-within : goal.assign-requires-clause-within
assign-requires-clause-within c =
    let s = c.requires.state.search.trail in
    let w = literal_within _ _ _ _ c.args.place s c.requires.asserting.within in
    let n = s.open_count in
    let p = c.requires.asserting.within in
    let l : c.index.result.now ≡ get_or c.args.trail.now.literals.items c.args.place 0 = grind (arith, common_steps) in
    let u : c.undo_to.new.self.literals.items ≡ c.args.trail.now.literals.items = ap (λ x. x.items) c.undo_to.ensures.literals in
    rw (c.flipped-literal.ensures, l, u) (flip-below (get_or c.args.trail.now.literals.items c.args.place 0) (length c.args.trail.now.literals.items) w)

pub assign-requires-clause-open : goal.assign-requires-clause-open
assign-requires-clause-open c =
    let s = c.requires.state.search.trail in
    let n = s.open_count in
    let p = c.requires.asserting.within in
    let l : c.index.result.now ≡ get_or c.args.trail.now.literals.items c.args.place 0 = grind (arith, common_steps) in
    let tw = c.target-level.ensures.within in
    let i : c.index-2.result.now ≡ get_or c.args.trail.now.limits.items c.target-level.result 0 = grind (arith, common_steps) in
    let u : IsUndone c.args.trail.now c.undo_to.new.self (get_or c.args.trail.now.limits.items c.target-level.result 0) = rw (← i) c.undo_to.ensures in
    let j = jumped c.args.arena.now c.args.trail.now c.undo_to.new.self c.args.base c.args.place c.reach-after.result c.target-level.result c.args.lower.now c.requires.state c.requires.some c.requires.base c.requires.asserting c.reach-after.ensures c.target-level.ensures u c.requires.few in
    rw (c.flipped-literal.ensures, l) j.1

pub returns-clause-state : goal.returns-clause-state
returns-clause-state c =
    let s = c.requires.state.search.trail in
    let n = s.open_count in
    let p = c.requires.asserting.within in
    let l : c.index.result.now ≡ get_or c.args.trail.now.literals.items c.args.place 0 = grind (arith, common_steps) in
    let tw = c.target-level.ensures.within in
    let i : c.index-2.result.now ≡ get_or c.args.trail.now.limits.items c.target-level.result 0 = grind (arith, common_steps) in
    let u : IsUndone c.args.trail.now c.undo_to.new.self (get_or c.args.trail.now.limits.items c.target-level.result 0) = rw (← i) c.undo_to.ensures in
    let m : c.truncate.new.self.items ≡ take c.target-level.result c.args.trail.now.limits.items = c.truncate.ensures.items ∙ ap (λ x. take c.target-level.result x.items) c.undo_to.ensures.limits in
    let e : c.push.new.self ≡ c.args.arena.now ++ taught c.args.trail.now c.args.place c.args.lower.now ∷ [] = c.in_ok-push.ensures ∙ ap (λ x. c.args.arena.now ++ x ∷ []) c.requires.clause in
    jumped_state c.args.arena.now c.push.new.self c.args.trail.now c.undo_to.new.self c.assign.new.self c.args.base c.args.place c.reach-after.result c.target-level.result c.flipped-literal.result c.len-reason.result c.args.lower.now
    c.requires.state c.requires.some c.requires.base c.requires.asserting c.reach-after.ensures c.target-level.ensures u c.requires.few
    (c.flipped-literal.ensures ∙ ap flip l) c.len-reason.ensures e
    c.assign.ensures.values c.assign.ensures.places c.assign.ensures.reasons c.assign.ensures.literals c.assign.ensures.count (ap (λ x. x.items) c.assign.ensures.limits ∙ m)

pub enlist-requires-clause-row : goal.enlist-requires-clause-row
enlist-requires-clause-row c =
    let s = c.requires.state.search.trail in
    let w = literal_within _ _ _ _ c.args.place s c.requires.asserting.within in
    let n = s.open_count in
    let p = c.requires.asserting.within in
    let l : c.index.result.now ≡ get_or c.args.trail.now.literals.items c.args.place 0 = grind (arith, common_steps) in
    let b : c.flipped-literal.result < 2 * length c.args.trail.now.literals.items = rw (c.flipped-literal.ensures, l) (flip-below (get_or c.args.trail.now.literals.items c.args.place 0) (length c.args.trail.now.literals.items) w) in
    omega (arith, b, c.requires.watching.room.lists)

pub enlist-requires-clause-within : goal.enlist-requires-clause-within
enlist-requires-clause-within c = reach_within c.args.trail.now c.args.base c.args.place c.reach-after.result c.args.lower.now c.requires.asserting c.reach-after.ensures

pub returns-in_err-enlist-clause-watching : goal.returns-in_err-enlist-clause-watching
returns-in_err-enlist-clause-watching c = watching_kept c.args.arena.now c.args.trail.now c.args.watches.now c.enlist.new.watches c.requires.watching (subst (λ n. Keeps c.args.watches.now c.enlist.new.watches n) c.len-reason.ensures c.enlist.ensures.keeps)

pub returns-in_err-push-clause-watching : goal.returns-in_err-push-clause-watching
returns-in_err-push-clause-watching c = rw c.in_err-push.ensures (watching_kept c.args.arena.now c.args.trail.now c.args.watches.now c.enlist.new.watches c.requires.watching (subst (λ n. Keeps c.args.watches.now c.enlist.new.watches n) c.len-reason.ensures c.enlist.ensures.keeps))

pub returns-clause-watching : goal.returns-clause-watching
returns-clause-watching c =
    let s = c.requires.state.search.trail in
    let n = s.open_count in
    let p = c.requires.asserting.within in
    let l : c.index.result.now ≡ get_or c.args.trail.now.literals.items c.args.place 0 = grind (arith, common_steps) in
    let tw = c.target-level.ensures.within in
    let i : c.index-2.result.now ≡ get_or c.args.trail.now.limits.items c.target-level.result 0 = grind (arith, common_steps) in
    let u : IsUndone c.args.trail.now c.undo_to.new.self (get_or c.args.trail.now.limits.items c.target-level.result 0) = rw (← i) c.undo_to.ensures in
    let m : c.truncate.new.self.items ≡ take c.target-level.result c.args.trail.now.limits.items = c.truncate.ensures.items ∙ ap (λ x. take c.target-level.result x.items) c.undo_to.ensures.limits in
    let e : c.push.new.self ≡ c.args.arena.now ++ taught c.args.trail.now c.args.place c.args.lower.now ∷ [] = c.in_ok-push.ensures ∙ ap (λ x. c.args.arena.now ++ x ∷ []) c.requires.clause in
    let le : c.flipped-literal.result ≡ flip (get_or c.args.trail.now.literals.items c.args.place 0) = c.flipped-literal.ensures ∙ ap flip l in
    let j = jumped c.args.arena.now c.args.trail.now c.undo_to.new.self c.args.base c.args.place c.reach-after.result c.target-level.result c.args.lower.now c.requires.state c.requires.some c.requires.base c.requires.asserting c.reach-after.ensures c.target-level.ensures u c.requires.few in
    watching_jumped c.args.arena.now c.push.new.self c.args.trail.now c.undo_to.new.self _ c.assign.new.self c.args.watches.now c.enlist.new.watches _ c.args.base c.args.place c.reach-after.result c.target-level.result c.flipped-literal.result c.len-reason.result c.args.lower.now
    c.requires.state c.requires.watching (subst (λ n. Keeps c.args.watches.now c.enlist.new.watches n) c.len-reason.ensures c.enlist.ensures.keeps) c.requires.some c.requires.base c.requires.asserting c.reach-after.ensures c.target-level.ensures u
    refl refl refl refl refl m refl refl refl refl i le (rw le j.1) c.assign.ensures
    (subst (λ n. c.reach-after.result ≡ 0 → IsAddedShort c.enlist.new.watches n) c.len-reason.ensures c.in_ok-enlist.ensures.short)
    (subst (λ n. 0 < c.reach-after.result → IsAdded c.enlist.new.watches n c.flipped-literal.result (flip (get_or c.args.trail.now.literals.items (c.reach-after.result - 1) 0))) c.len-reason.ensures c.in_ok-enlist.ensures.pair) e
