use Rattle.std.proofs.Common.{◌≡◌, ◌<◌, length, get_or, take, arith, refl, ap, ◌∙◌}
use Rattle.std.proofs.lemmas.Grind.{common_steps}
use Rattle.cdcl_search.specs.Learnings.{IsUndone}
use Rattle.cdcl_search.proofs.Add_steps.{back_state, back_watching}
use Rattle.cdcl_search.proofs.restarts.restart.Goals as goal

pub undo_to-requires-clause-within : goal.undo_to-requires-clause-within
undo_to-requires-clause-within c =
    let p : 0 < length c.args.trail.now.limits.items = omega arith in
    let i : c.index.result.now ≡ get_or c.args.trail.now.limits.items 0 0 = grind (arith, common_steps) in
    let b = c.requires.state.search.limit_below 0 p in
    omega (arith, i, b)

pub returns-clause-state : goal.returns-clause-state
returns-clause-state c =
    let p : 0 < length c.args.trail.now.limits.items = omega arith in
    let i : c.index.result.now ≡ get_or c.args.trail.now.limits.items 0 0 = grind (arith, common_steps) in
    let u : IsUndone c.args.trail.now c.undo_to.new.self (get_or c.args.trail.now.limits.items 0 0) = rw (← i) c.undo_to.ensures in
    let m : c.truncate.new.self.items ≡ take 0 c.args.trail.now.limits.items = c.truncate.ensures.items ∙ ap (λ x. take 0 x.items) c.undo_to.ensures.limits in
    back_state c.args.arena.now c.args.trail.now c.undo_to.new.self _ 0 c.requires.state p u refl refl refl refl refl m

pub returns-clause-watching : goal.returns-clause-watching
returns-clause-watching c =
    let p : 0 < length c.args.trail.now.limits.items = omega arith in
    let i : c.index.result.now ≡ get_or c.args.trail.now.limits.items 0 0 = grind (arith, common_steps) in
    let u : IsUndone c.args.trail.now c.undo_to.new.self (get_or c.args.trail.now.limits.items 0 0) = rw (← i) c.undo_to.ensures in
    let m : c.truncate.new.self.items ≡ take 0 c.args.trail.now.limits.items = c.truncate.ensures.items ∙ ap (λ x. take 0 x.items) c.undo_to.ensures.limits in
    back_watching c.args.arena.now c.args.trail.now c.undo_to.new.self _ c.args.watches.now _ 0 c.requires.state c.requires.watching p u refl refl refl refl m refl refl refl refl i
