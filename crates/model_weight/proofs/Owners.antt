-- The instances that can be the parent of one are those that are-a the declaring clafer.
use Rattle.std.proofs.Common.{◌≡◌, ℕ, Bool, true, false, ◌&&◌, ◌||◌, cond, List, [], ◌∷◌, length, map, sum, Some, None, refl, ap, sym, ◌∙◌}
use Rattle.std.specs.Option.{option_map_or}
use Rattle.std.specs.List.{filter}
use Rattle.clf_tree.specs.declared.model.Clafer.{Clafer}
use Rattle.clf_tree.specs.declared.scopes.Scopes.{Scopes}
use Rattle.clf_tree.specs.Lists.{numbers_below}
use Rattle.clf_tree.specs.Hierarchy.{is_concrete, is_a, concrete_below}
use Rattle.clf_tree.specs.Nodes.{scope_of}
use Rattle.clf_tree.specs.Intervals.{room}
use Rattle.clf_tree.proofs.WaysUp.{parent_of-at}
use Rattle.std.specs.Prelude.{slice_get}
use Rattle.int_widths.specs.Weight.{owner_room}

one_item : (p q : ℕ → Bool) (x : ℕ) (xs : List ℕ) (b c : Bool) → p x ≡ b → q x ≡ c → filter (λ d. q d || false) (filter p xs) ≡ filter (λ d. p d && q d) xs
    → filter (λ d. q d || false) (cond b (x ∷ filter p xs) (filter p xs)) ≡ cond (b && c) (x ∷ filter (λ d. p d && q d) xs) (filter (λ d. p d && q d) xs)
one_item p q x xs true true g h rest = ap (λ z. cond (z || false) (x ∷ filter (λ d. q d || false) (filter p xs)) (filter (λ d. q d || false) (filter p xs))) h ∙ ap (λ ys. x ∷ ys) rest
one_item p q x xs true false g h rest = ap (λ z. cond (z || false) (x ∷ filter (λ d. q d || false) (filter p xs)) (filter (λ d. q d || false) (filter p xs))) h ∙ rest
one_item p q x xs false c g h rest = rest

-- two filters are one
both_tests : (p q : ℕ → Bool) (xs : List ℕ) → filter (λ d. q d || false) (filter p xs) ≡ filter (λ d. p d && q d) xs
both_tests p q [] = refl
both_tests p q (x ∷ xs) = one_item p q x xs (p x) (q x) refl refl (both_tests p q xs)

pub owned_below : (clafers : List Clafer) (scopes : Scopes) (c p : ℕ) (k : Clafer) → slice_get clafers c ≡ Some k → k.parent ≡ Some p → room clafers scopes (p ∷ []) ≡ owner_room clafers scopes c
owned_below clafers scopes c p k found parent =
    ap (λ xs. sum (map (scope_of scopes) xs)) (both_tests (is_concrete clafers) (λ d. is_a clafers d p) (numbers_below (length clafers)))
    ∙ sym (ap (λ o. sum (map (scope_of scopes) (option_map_or (concrete_below clafers) o []))) (parent_of-at clafers c k found ∙ parent))

pub owned_by_none : (clafers : List Clafer) (scopes : Scopes) (c : ℕ) (k : Clafer) → slice_get clafers c ≡ Some k → k.parent ≡ None → 0 ≡ owner_room clafers scopes c
owned_by_none clafers scopes c k found parent = sym (ap (λ o. sum (map (scope_of scopes) (option_map_or (concrete_below clafers) o []))) (parent_of-at clafers c k found ∙ parent))

pub ruleset owned = (owned_below, owned_by_none)
