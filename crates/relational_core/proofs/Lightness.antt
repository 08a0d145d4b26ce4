-- The relational expressions of a whole model are no heavier than its constraints and goals.
use Rattle.std.proofs.Common.{◌≡◌, ℕ, ◌+◌, ◌*◌, ◌^◌, ◌<◌, ◌≤◌, Bool, true, ◌&&◌, List, [], ◌∷◌, length, map, Option, Some, None, refl, sym, subst, arith}
use Rattle.std.specs.List.{list_all}
use Rattle.clf_tree.specs.declared.model.Clafer.{Clafer}
use Rattle.clf_tree.specs.declared.model.Rule.{Rule}
use Rattle.clf_tree.specs.declared.model.Goal.{Goal}
use Rattle.clf_tree.specs.declared.model.Model.{Model}
use Rattle.clf_tree.specs.declared.scopes.Scopes.{Scopes}
use Rattle.clf_tree.specs.declared.core_expr.CoreExpr.{CoreExpr}
use Rattle.clf_tree.specs.Tree.{Tree, tree}
use Rattle.clf_tree.specs.Lists.{each_pair}
use Rattle.clf_tree.specs.Hierarchy.{is_closed, is_one_of, is_below}
use Rattle.clf_tree.specs.IntervalsHold.{IntervalsHold, refers_once}
use Rattle.clf_tree.specs.Kinds.{kind}
use Rattle.clf_tree.specs.Named.{is_looked_up, rule_is_looked_up, goal_is_looked_up}
use Rattle.clf_tree.specs.Typed.{is_typed, fits_truth, fits_number, IsTyped}
use Rattle.clf_tree.specs.Core.{Core, core}
use Rattle.clf_tree.specs.CoreSoundness.{sort}
use Rattle.clf_tree.specs.CoreWeights.{core_weight, most_nodes}
use Rattle.int_widths.specs.Narrow.{within_context}
use Rattle.int_widths.specs.Weight.{rule_instances, body_weight, rule_weight, number_weight}
use Rattle.relational_core.specs.Conditions.{is_typed_law, is_typed_goal}
use Rattle.relational_core.specs.Light.{is_light_truth, is_light_goal}
use Rattle.relational_core.specs.Lowered.{lowered_law, lowered_goal, as_truth, lowered, instances_of, every}
use Rattle.relational_core.proofs.Passing.{and_parts, and_all, all_both}
use Rattle.relational_core.proofs.Possible.{all-possible}
use Rattle.relational_core.proofs.Made.{possible-made}
use Rattle.relational_core.proofs.InKinds.{Inherited}
use Rattle.relational_core.proofs.Sizes.{is_less, is_at_most, single, context_more, list-room}
use Rattle.relational_core.proofs.Weights.{light, light-test, light-number}
use Rattle.relational_core.proofs.Whole.{top-stands, context-stands}

-- what holds of each expression, with the item that it is mapped from
pairs-mapped : {X : Type 0} (test : CoreExpr → X → Bool) (f : X → Core) (given : X → Bool) (exprs : List CoreExpr) (xs : List X) → map core exprs ≡ map f xs → list_all given xs ≡ true
    → ((a : CoreExpr) (x : X) → core a ≡ f x → given x ≡ true → test a x ≡ true) → each_pair test exprs xs ≡ true
pairs-mapped test f given [] [] same all step = refl
pairs-mapped test f given [] (x ∷ xs) same all step = absurd (none_some same)
  where
    none_some : [] ≡ f x ∷ map f xs → ⊥
    none_some h = (cc)
pairs-mapped test f given (a ∷ exprs) [] same all step = absurd (some_none same)
  where
    some_none : core a ∷ map core exprs ≡ [] → ⊥
    some_none h = (cc)
pairs-mapped test f given (a ∷ exprs) (x ∷ xs) same all step =
    let j = and_parts (given x) (list_all given xs) all in
    and_all (test a x) (each_pair test exprs xs) (step a x (head same) j.0) (pairs-mapped test f given exprs xs (tail same) j.1 step)
  where
    head : core a ∷ map core exprs ≡ f x ∷ map f xs → core a ≡ f x
    head h = (cc)

    tail : core a ∷ map core exprs ≡ f x ∷ map f xs → map core exprs ≡ map f xs
    tail h = (cc)

once_more : (x y : ℕ) → x ≤ y → x < 1 * (y + 8) + 8
once_more x y h = omega (arith, h)

module _ (clafers : List Clafer) (scopes : Scopes) (closed : is_closed clafers ≡ true) (once : refers_once clafers ≡ true) (inherited : Inherited clafers) (intervals_hold : IntervalsHold) where
  instances-room : (k : ℕ) → most_nodes scopes (sort (every clafers scopes (k ∷ []))) ≤ rule_instances clafers scopes (Some k)
  instances-room k =
      list-room clafers scopes (k ∷ []) (instances_of clafers scopes (k ∷ [])) (all-possible clafers scopes (is_one_of clafers (k ∷ [])) (is_one_of clafers (k ∷ [])) (λ d p h. h))
      (possible-made clafers scopes (is_one_of clafers (k ∷ [])))

  law-light : (context : Option ℕ) (body : Tree) → is_typed_law clafers (context, body) ≡ true → is_looked_up clafers body (within_context context) ≡ true
      → core_weight scopes (lowered_law clafers scopes (context, body)) < rule_instances clafers scopes context * (body_weight clafers scopes context body + 8) + 8
  law-light None body typed found =
      let w = within_context None in
      let f = and_parts (is_typed clafers body w) (fits_truth (kind clafers body w)) typed in
      let st = top-stands clafers scopes closed once inherited intervals_hold in
      once_more (core_weight scopes (lowered_law clafers scopes (None, body))) (body_weight clafers scopes None body)
      (light-test clafers scopes closed once inherited intervals_hold body w [] st f.1 (light clafers scopes closed once inherited intervals_hold body w [] st f.0 found))
  law-light (Some k) body typed found =
      let w = within_context (Some k) in
      let g = instances_of clafers scopes (k ∷ []) ∷ [] in
      let f = and_parts (is_typed clafers body w) (fits_truth (kind clafers body w)) typed in
      let st = context-stands clafers scopes closed once inherited intervals_hold k in
      let n = most_nodes scopes (sort (every clafers scopes (k ∷ []))) in
      context_more (n ^ 1) (rule_instances clafers scopes (Some k)) (core_weight scopes (as_truth (kind clafers body w) (lowered clafers scopes body w g))) (body_weight clafers scopes (Some k) body)
      (single n (rule_instances clafers scopes (Some k)) (instances-room k))
      (light-test clafers scopes closed once inherited intervals_hold body w g st f.1 (light clafers scopes closed once inherited intervals_hold body w g st f.0 found))

  goal-light : (body : Tree) → is_typed_goal clafers body ≡ true → is_looked_up clafers body (within_context None) ≡ true → core_weight scopes (lowered_goal clafers scopes body) ≤ number_weight clafers scopes body
  goal-light body typed found =
      let w = within_context None in
      let f = and_parts (is_typed clafers body w) (fits_number clafers (kind clafers body w)) typed in
      let st = top-stands clafers scopes closed once inherited intervals_hold in
      light-number clafers scopes closed once inherited intervals_hold body w [] st f.1 (light clafers scopes closed once inherited intervals_hold body w [] st f.0 found)

pub truths_light : (model : Model) (scopes : Scopes) (truths : List CoreExpr) → is_closed model.clafers ≡ true → refers_once model.clafers ≡ true → Inherited model.clafers → IntervalsHold
    → map core truths ≡ map (λ r. lowered_law model.clafers scopes (r.context, tree r.body)) model.rules → IsTyped model → list_all (rule_is_looked_up model.clafers) model.rules ≡ true
    → each_pair (is_light_truth model.clafers scopes) truths model.rules ≡ true
truths_light model scopes truths closed once inherited intervals_hold same typed found =
    let all_typed : list_all (λ (r : Rule). is_typed_law model.clafers (r.context, tree r.body)) model.rules ≡ true = typed.rules in
    pairs-mapped (is_light_truth model.clafers scopes) (λ r. lowered_law model.clafers scopes (r.context, tree r.body)) (λ r. is_typed_law model.clafers (r.context, tree r.body) && rule_is_looked_up model.clafers r) truths model.rules same
    (all_both (λ r. is_typed_law model.clafers (r.context, tree r.body)) (rule_is_looked_up model.clafers) model.rules all_typed found)
    (λ a r e h.
    let j = and_parts (is_typed_law model.clafers (r.context, tree r.body)) (rule_is_looked_up model.clafers r) h in
    let u = and_parts (is_below (length model.clafers) r.context) (is_looked_up model.clafers (tree r.body) (within_context r.context)) j.1 in
    is_less (core_weight scopes (core a)) (rule_weight model.clafers scopes r)
    (subst (λ x. core_weight scopes x < rule_weight model.clafers scopes r) (sym e) (law-light model.clafers scopes closed once inherited intervals_hold r.context (tree r.body) j.0 u.1)))

pub goals_light : (model : Model) (scopes : Scopes) (goals : List CoreExpr) → is_closed model.clafers ≡ true → refers_once model.clafers ≡ true → Inherited model.clafers → IntervalsHold
    → map core goals ≡ map (λ g. lowered_goal model.clafers scopes (tree g.body)) model.goals → IsTyped model → list_all (goal_is_looked_up model.clafers) model.goals ≡ true
    → each_pair (is_light_goal model.clafers scopes) goals model.goals ≡ true
goals_light model scopes goals closed once inherited intervals_hold same typed found =
    let all_typed : list_all (λ (g : Goal). is_typed_goal model.clafers (tree g.body)) model.goals ≡ true = typed.goals in
    pairs-mapped (is_light_goal model.clafers scopes) (λ g. lowered_goal model.clafers scopes (tree g.body)) (λ g. is_typed_goal model.clafers (tree g.body) && goal_is_looked_up model.clafers g) goals model.goals same
    (all_both (λ g. is_typed_goal model.clafers (tree g.body)) (goal_is_looked_up model.clafers) model.goals all_typed found)
    (λ a g e h.
    let j = and_parts (is_typed_goal model.clafers (tree g.body)) (goal_is_looked_up model.clafers g) h in
    is_at_most (core_weight scopes (core a)) (number_weight model.clafers scopes (tree g.body))
    (subst (λ x. core_weight scopes x ≤ number_weight model.clafers scopes (tree g.body)) (sym e) (goal-light model.clafers scopes closed once inherited intervals_hold (tree g.body) j.0 j.1)))
