use Rattle.std.proofs.Common.{◌≡◌, subst, map}
use Rattle.clf_tree.specs.declared.model.Model.{Model}
use Rattle.clf_tree.specs.Tree.{tree}
use Rattle.clf_tree.specs.Core.{core}
use Rattle.relational_core.specs.Lowered.{lowered_law, lowered_goal}
use Rattle.relational_core.proofs.Whole.{truths_kept, goals_kept, truths_sound, goals_sound, truths_plain}
use Rattle.relational_core.proofs.Lightness.{truths_light, goals_light}
use Rattle.relational_core.proofs.whole_model.lower.Goals as goal

pub returns-clause-truths : goal.returns-clause-truths
returns-clause-truths c =
    let m = c.args.model.now in
    let s = c.args.scopes.now in
    let r = c.in_ok-core_model.core_model in
    let lowered = subst (λ (n : Model). map core r.truths ≡ map (λ x. lowered_law n.clafers s (x.context, tree x.body)) n.rules) c.model-plan.ensures.same c.in_ok-core_model.ensures.truths in
    λ entries is. truths_kept m s r.truths lowered c.model-plan.ensures.typed entries is

pub returns-clause-goals : goal.returns-clause-goals
returns-clause-goals c =
    let m = c.args.model.now in
    let s = c.args.scopes.now in
    let r = c.in_ok-core_model.core_model in
    let lowered = subst (λ (n : Model). map core r.goals ≡ map (λ g. lowered_goal n.clafers s (tree g.body)) n.goals) c.model-plan.ensures.same c.in_ok-core_model.ensures.goals in
    λ entries is. goals_kept m s r.goals lowered c.model-plan.ensures.typed entries is

pub returns-clause-sound_truths : goal.returns-clause-sound_truths
returns-clause-sound_truths c =
    let m = c.args.model.now in
    let s = c.args.scopes.now in
    let r = c.in_ok-core_model.core_model in
    let known = c.model-plan.ensures.known in
    let lowered = subst (λ (n : Model). map core r.truths ≡ map (λ x. lowered_law n.clafers s (x.context, tree x.body)) n.rules) c.model-plan.ensures.same c.in_ok-core_model.ensures.truths in
    truths_sound m s r.truths known.closed known.refers
    (λ low high own above up here there. c.references_are_inherited.ensures m.clafers low high own above known.closed known.refers up here there) c.intervals_hold.ensures lowered c.model-plan.ensures.typed c.requires.narrow

pub returns-clause-sound_goals : goal.returns-clause-sound_goals
returns-clause-sound_goals c =
    let m = c.args.model.now in
    let s = c.args.scopes.now in
    let r = c.in_ok-core_model.core_model in
    let known = c.model-plan.ensures.known in
    let lowered = subst (λ (n : Model). map core r.goals ≡ map (λ g. lowered_goal n.clafers s (tree g.body)) n.goals) c.model-plan.ensures.same c.in_ok-core_model.ensures.goals in
    goals_sound m s r.goals known.closed known.refers
    (λ low high own above up here there. c.references_are_inherited.ensures m.clafers low high own above known.closed known.refers up here there) c.intervals_hold.ensures lowered c.model-plan.ensures.typed c.requires.narrow

pub returns-clause-numberless : goal.returns-clause-numberless
returns-clause-numberless c =
    let m = c.args.model.now in
    let s = c.args.scopes.now in
    let r = c.in_ok-core_model.core_model in
    let lowered = subst (λ (n : Model). map core r.truths ≡ map (λ x. lowered_law n.clafers s (x.context, tree x.body)) n.rules) c.model-plan.ensures.same c.in_ok-core_model.ensures.truths in
    λ plain. truths_plain m s r.truths lowered c.model-plan.ensures.typed plain

pub returns-clause-light_truths : goal.returns-clause-light_truths
returns-clause-light_truths c =
    let m = c.args.model.now in
    let s = c.args.scopes.now in
    let r = c.in_ok-core_model.core_model in
    let known = c.model-plan.ensures.known in
    let lowered = subst (λ (n : Model). map core r.truths ≡ map (λ x. lowered_law n.clafers s (x.context, tree x.body)) n.rules) c.model-plan.ensures.same c.in_ok-core_model.ensures.truths in
    truths_light m s r.truths known.closed known.refers
    (λ low high own above up here there. c.references_are_inherited.ensures m.clafers low high own above known.closed known.refers up here there) c.intervals_hold.ensures lowered c.model-plan.ensures.typed known.rules

pub returns-clause-light_goals : goal.returns-clause-light_goals
returns-clause-light_goals c =
    let m = c.args.model.now in
    let s = c.args.scopes.now in
    let r = c.in_ok-core_model.core_model in
    let known = c.model-plan.ensures.known in
    let lowered = subst (λ (n : Model). map core r.goals ≡ map (λ g. lowered_goal n.clafers s (tree g.body)) n.goals) c.model-plan.ensures.same c.in_ok-core_model.ensures.goals in
    goals_light m s r.goals known.closed known.refers
    (λ low high own above up here there. c.references_are_inherited.ensures m.clafers low high own above known.closed known.refers up here there) c.intervals_hold.ensures lowered c.model-plan.ensures.typed known.goals
