-- Set references take no more wires than if the slots of each nested clafer were compared two by two.
use Rattle.std.proofs.Common.{◌≡◌, ℕ, ◌≤◌, Bool, true, false, cond, List, [], ◌∷◌, length, get_or, min, refl, sym, ap, ◌∙◌, arith}
use Rattle.std.specs.List.{sum_by}
use Rattle.std.proofs.Math.Nat.{min-le_right}
use Rattle.std.proofs.lemmas.List.Sums.{sum_by-cons}
use Rattle.clf_tree.specs.declared.model.Clafer.{Clafer}
use Rattle.clf_tree.specs.Lists.{numbers_below}
use Rattle.set_bits.specs.declared.layout.Layout.{Layout}
use Rattle.set_bits.specs.Fitting.{slot_clafer}
use Rattle.shape_encoder.specs.Comparing.{kin_of, is_paired, alone_cost, sibling_cost, compared_cost, slot_cost, kin_cost, sets_cost, pairs_sets_cost}
use Rattle.shape_encoder.proofs.Grouped.{kin_clafers, sum_by_keys, sum_on}

items_few : (f g : ℕ → ℕ) (xs : List ℕ) → ((x : ℕ) → f x ≤ g x) → sum_by f xs ≤ sum_by g xs
items_few f g [] h = omega arith
items_few f g (x ∷ xs) h =
    let r = items_few f g xs h in
    let c = sum_by-cons f x xs in
    let d = sum_by-cons g x xs in
    let l = h x in
    omega (arith, r, c, d, l)

-- the slots of a clafer, each compared with those before it
kin_few : (clafers : List Clafer) (layout : Layout) (c : ℕ) → kin_cost clafers layout c ≤ sum_by (slot_cost clafers layout) (kin_of layout c)
kin_few clafers layout c = by (is_paired clafers c) refl
  where
    by : (b : Bool) → is_paired clafers c ≡ b → cond b (min (sum_by (sibling_cost layout) (kin_of layout c)) (sum_by (compared_cost layout) (kin_of layout c))) 0 ≤ sum_by (slot_cost clafers layout) (kin_of layout c)
    by false t = omega arith
    by true t =
        let few = min-le_right (sum_by (sibling_cost layout) (kin_of layout c)) (sum_by (compared_cost layout) (kin_of layout c)) in
        let less = items_few (compared_cost layout) (alone_cost layout) (kin_of layout c) (λ i. omega arith) in
        let same : sum_by (alone_cost layout) (kin_of layout c) ≡ sum_by (slot_cost clafers layout) (kin_of layout c) =
        sum_on (alone_cost layout) (slot_cost clafers layout) (kin_of layout c) (λ k d l. sym (ap (λ b. cond b (alone_cost layout (get_or (kin_of layout c) k d)) 0) (ap (is_paired clafers) (kin_clafers layout c k d l) ∙ t))) in
        omega (arith, few, less, same)

pub sets_few : (clafers : List Clafer) (layout : Layout) → sets_cost clafers layout ≤ pairs_sets_cost clafers layout
sets_few clafers layout =
    let each = items_few (kin_cost clafers layout) (λ c. sum_by (slot_cost clafers layout) (kin_of layout c)) (numbers_below (length clafers)) (kin_few clafers layout) in
    let all = sum_by_keys (slot_clafer layout.slots) (slot_cost clafers layout) (numbers_below (length layout.slots)) (length clafers) in
    omega (arith, each, all)
