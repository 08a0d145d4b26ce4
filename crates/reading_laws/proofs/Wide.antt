-- Where all integers are narrow, none is too wide.
use Rattle.std.proofs.Common.{◌≡◌, Bool, true, false, cond, ◌&&◌, List, [], ◌∷◌, ◌++◌, None, refl, ap, sym, ◌∙◌}
use Rattle.std.specs.Prelude.{map}
use Rattle.std.specs.List.{flat_map, list_all}
use Rattle.std.proofs.lemmas.List.Folds.{list_all-map, list_all-append}
use Rattle.clf_tree.specs.declared.model.Goal.{Goal}
use Rattle.clf_tree.specs.declared.model.Rule.{Rule}
use Rattle.clf_tree.specs.declared.model.Model.{Model}
use Rattle.clf_tree.specs.declared.scopes.Scopes.{Scopes}
use Rattle.clf_tree.specs.Numerics.{Numeric, is_narrow}
use Rattle.clf_tree.specs.Satisfies.{Law}
use Rattle.clf_tree.specs.Tree.{tree}
use Rattle.clf_tree.specs.Widths.{width}
use Rattle.int_widths.specs.Narrow.{is_narrow_law, is_narrow_goal, is_narrow_model}
use Rattle.model_weight.specs.Refusals.{wide_among, integers_of_rule, integers_of_goal, integers_of, wide_refusal}
use Rattle.refusal_order.specs.Order.{refused, first_refusal}

parts : (a b : Bool) → (a && b) ≡ true → (a ≡ true) × (b ≡ true)
parts true b k = (refl, k)
parts false b k = (k, (cc))

both : (a b : Bool) → a ≡ true → b ≡ true → (a && b) ≡ true
both true b h k = k
both false b h k = h

none_wide : (ns : List Numeric) → list_all is_narrow ns ≡ true → wide_among ns ≡ []
none_wide [] h = refl
none_wide (n ∷ ns) h =
    let j = parts (is_narrow n) (list_all is_narrow ns) h in
    ap (λ b. cond b [] (refused 90 n.at (width n.bounds) ∷ []) ++ wide_among ns) j.0 ∙ none_wide ns j.1

each_narrow : {X : Type 0} (f : X → List Numeric) (xs : List X)
    → list_all (λ x. list_all is_narrow (f x)) xs ≡ true → list_all is_narrow (flat_map f xs) ≡ true
each_narrow f [] h = refl
each_narrow f (x ∷ xs) h =
    let j = parts (list_all is_narrow (f x)) (list_all (λ y. list_all is_narrow (f y)) xs) h in
    list_all-append is_narrow (f x) (flat_map f xs) ∙ both (list_all is_narrow (f x)) (list_all is_narrow (flat_map f xs)) j.0
    (each_narrow f xs j.1)

abbrev law_of : Rule → Law
law_of r = (r.context, tree r.body)

pub none_refused : (scopes : Scopes) (m : Model) → is_narrow_model scopes m ≡ true → wide_refusal scopes m ≡ None
none_refused scopes m h =
    let rules = flat_map (integers_of_rule m.clafers scopes) m.rules in
    let goals = flat_map (integers_of_goal m.clafers scopes) m.goals in
    let j = parts (list_all (is_narrow_law m.clafers scopes) (map law_of m.rules))
    (list_all (λ (g : Goal). is_narrow_goal m.clafers scopes (tree g.body)) m.goals) h in
    let of_rules = each_narrow (integers_of_rule m.clafers scopes) m.rules
    (sym (list_all-map (is_narrow_law m.clafers scopes) law_of m.rules) ∙ j.0) in
    let of_goals = each_narrow (integers_of_goal m.clafers scopes) m.goals j.1 in
    ap first_refusal (none_wide (integers_of scopes m)
    (list_all-append is_narrow rules goals ∙ both (list_all is_narrow rules) (list_all is_narrow goals) of_rules of_goals))
