-- No clafer of the model is above one that is not there.
use Rattle.std.proofs.Common.{◌≡◌, ◌≢◌, ℕ, zero, suc, ◌<◌, ◌≤◌, ◌&&◌, ◌||◌, Bool, true, false, List, [], ◌∷◌, length, Option, Some, None, refl, ap, sym, ◌∙◌, arith, ◌⊎◌, inl, inr}
use Rattle.std.specs.Prelude.{slice_get, eqb}
use Rattle.std.specs.Option.{option_map_or, option_and_then}
use Rattle.std.specs.List.{list_all}
use Rattle.std.proofs.lemmas.Bool.Decides.{Decides-ltb, eqb_tells}
use Rattle.std.proofs.lemmas.Bool.{true≢false}
use Rattle.clf_tree.specs.declared.model.Clafer.{Clafer}
use Rattle.clf_tree.specs.Lists.{has}
use Rattle.clf_tree.specs.Hierarchy.{is_below, names_below, way_up}

pub both : (a b : Bool) → (a && b) ≡ true → (a ≡ true) × (b ≡ true)
both true b h = (refl, h)
both false b h = absurd (true≢false (sym h))

pub not_got : (xs : List Clafer) (i : ℕ) → length xs ≤ i → slice_get xs i ≡ None
not_got [] i far = refl
not_got (x ∷ xs) zero far = absurd (omega (arith, far))
not_got (x ∷ xs) (suc i) far = not_got xs i (omega (arith, far))

-- the parent of a clafer is there
pub parent_there : (n : ℕ) (xs : List Clafer) (d p : ℕ) → list_all (names_below n) xs ≡ true → option_and_then (λ k. k.parent) (slice_get xs d) ≡ Some p → p < n
parent_there n [] d p all e = (cc)
parent_there n (x ∷ xs) zero p all e =
    let one = (both (names_below n x) (list_all (names_below n) xs) all).0 in
    let two = both (is_below n x.parent && is_below n x.above) (is_below n (option_and_then (λ r. r.to) x.reference)) one in
    let low : is_below n x.parent ≡ true = (both (is_below n x.parent) (is_below n x.above) two.0).0 in
    (Decides-ltb p n).0 (ap (is_below n) (sym e) ∙ low)
parent_there n (x ∷ xs) (suc d) p all e = parent_there n xs d p (both (names_below n x) (list_all (names_below n) xs) all).1 e

other : (p m : ℕ) → ((eqb p m ≡ true) × (p ≡ m)) ⊎ ((eqb p m ≡ false) × (p ≢ m)) → p < m → eqb p m ≡ false
other p m (inl h) less = absurd (omega (arith, h.1, less))
other p m (inr h) less = h.0

pub alone : (clafers : List Clafer) (n m p : ℕ) → slice_get clafers m ≡ None → p < m → has (way_up clafers n m) p ≡ false
alone clafers zero m p gone less = ap (λ b. b || false) (other p m (eqb_tells p m) less)
alone clafers (suc n) m p gone less =
    ap (λ (o : Option Clafer). has (m ∷ option_map_or (way_up clafers n) (option_and_then (λ k. k.above) o) []) p) gone
    ∙ ap (λ b. b || false) (other p m (eqb_tells p m) less)
