-- Where nothing is too wide, all integers are narrow.
use Rattle.std.proofs.Common.{◌≡◌, Bool, true, false, cond, ◌&&◌, List, [], ◌∷◌, ◌++◌, None, refl, ap, sym, ◌∙◌}
use Rattle.std.specs.List.{flat_map, list_all}
use Rattle.std.proofs.lemmas.List.Folds.{list_all-map, list_all-append}
use Rattle.clf_base.specs.declared.fault.Refusal.{Refusal}
use Rattle.clf_tree.specs.declared.model.Rule.{Rule}
use Rattle.clf_tree.specs.declared.model.Goal.{Goal}
use Rattle.clf_tree.specs.declared.model.Model.{Model}
use Rattle.clf_tree.specs.declared.scopes.Scopes.{Scopes}
use Rattle.clf_tree.specs.Tree.{tree}
use Rattle.clf_tree.specs.Satisfies.{Law}
use Rattle.clf_tree.specs.Numerics.{Numeric, is_narrow}
use Rattle.clf_tree.specs.Widths.{width}
use Rattle.refusal_order.specs.Order.{refused, FindsFirst}
use Rattle.int_widths.specs.Narrow.{is_narrow_law, is_narrow_goal, is_narrow_model}
use Rattle.model_weight.specs.Refusals.{too_wide, wide_among, integers_of_rule, integers_of_goal, integers_of, wide_refusal}

none-first : (xs ys : List Refusal) → xs ++ ys ≡ [] → (xs ≡ []) × (ys ≡ [])
none-first [] ys h = (refl, h)
none-first (x ∷ xs) ys h = absurd (some_none h)
  where
    some_none : x ∷ (xs ++ ys) ≡ [] → ⊥
    some_none k = (cc)

narrow-one : (n : Numeric) → too_wide n ≡ [] → is_narrow n ≡ true
narrow-one n h = pick (is_narrow n) refl h
  where
    pick : (b : Bool) → is_narrow n ≡ b → cond b [] (refused 90 n.at (width n.bounds) ∷ []) ≡ [] → is_narrow n ≡ true
    pick true e k = e
    pick false e k = absurd (some_none k)
      where
        some_none : refused 90 n.at (width n.bounds) ∷ [] ≡ [] → ⊥
        some_none j = (cc)

all-narrow : (ns : List Numeric) → wide_among ns ≡ [] → list_all is_narrow ns ≡ true
all-narrow [] h = refl
all-narrow (n ∷ ns) h =
    let j = none-first (too_wide n) (wide_among ns) h in
    ap (λ b. b && list_all is_narrow ns) (narrow-one n j.0) ∙ all-narrow ns j.1

each-narrow : {X : Type 0} (f : X → List Numeric) (xs : List X) → list_all is_narrow (flat_map f xs) ≡ true → list_all (λ x. list_all is_narrow (f x)) xs ≡ true
each-narrow f [] h = refl
each-narrow f (x ∷ xs) h =
    let j = parts (list_all is_narrow (f x)) (list_all is_narrow (flat_map f xs)) (sym (list_all-append is_narrow (f x) (flat_map f xs)) ∙ h) in
    ap (λ b. b && list_all (λ y. list_all is_narrow (f y)) xs) j.0 ∙ each-narrow f xs j.1
  where
    parts : (a b : Bool) → (a && b) ≡ true → (a ≡ true) × (b ≡ true)
    parts true b k = (refl, k)
    parts false b k = (k, (cc))

abbrev law_of : Rule → Law
law_of r = (r.context, tree r.body)

pub narrow_model : FindsFirst → (scopes : Scopes) (m : Model) → wide_refusal scopes m ≡ None → is_narrow_model scopes m ≡ true
narrow_model finds scopes m h =
    let rules = flat_map (integers_of_rule m.clafers scopes) m.rules in
    let goals = flat_map (integers_of_goal m.clafers scopes) m.goals in
    let all = all-narrow (integers_of scopes m) ((finds (wide_among (integers_of scopes m))).1 h) in
    let j = parts (list_all is_narrow rules) (list_all is_narrow goals) (sym (list_all-append is_narrow rules goals) ∙ all) in
    ap (λ b. b && list_all (λ (g : Goal). is_narrow_goal m.clafers scopes (tree g.body)) m.goals)
    (list_all-map (is_narrow_law m.clafers scopes) law_of m.rules ∙ each-narrow (integers_of_rule m.clafers scopes) m.rules j.0)
    ∙ each-narrow (integers_of_goal m.clafers scopes) m.goals j.1
  where
    parts : (a b : Bool) → (a && b) ≡ true → (a ≡ true) × (b ≡ true)
    parts true b k = (refl, k)
    parts false b k = (k, (cc))
