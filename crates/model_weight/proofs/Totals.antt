-- Capped sums, item by item.
use Rattle.std.proofs.Common.{◌≡◌, ℕ, ◌+◌, ◌<◌, ◌≤◌, Bool, true, false, List, [], ◌∷◌, ◌++◌, map, sum, refl, ap, sym, ◌∙◌, arith, ◌⊎◌, inl, inr}
use Rattle.std.specs.Prelude.{leb}
use Rattle.std.specs.List.{filter, sum_by}
use Rattle.std.proofs.lemmas.Bool.Decides.{leb_tells}
use Rattle.std.proofs.lemmas.List.Sums.{sum-map, sum_by-append, sum_by-cons}
use Rattle.std.proofs.lemmas.List.FromFn.{map-range_with_len_more}
use Rattle.std.proofs.lemmas.List.Elements.{filter-append}
use Rattle.clf_tree.specs.Lists.{numbers_below}
use Rattle.model_weight.specs.Capped.{limit, capped, plus}
use Rattle.model_weight.proofs.Caps.{at-limit, below-limit}

pub capped_plus : (a b : ℕ) → plus (capped a) b ≡ capped (a + b)
capped_plus a b = pick (leb_tells limit a)
  where
    pick : ((leb limit a ≡ true) × (limit ≤ a)) ⊎ ((leb limit a ≡ false) × (a < limit)) → plus (capped a) b ≡ capped (a + b)
    pick (inl k) = ap (λ z. plus z b) (at-limit a k.1) ∙ at-limit (limit + b) (omega arith) ∙ sym (at-limit (a + b) (omega (arith, k.1)))
    pick (inr k) = ap (λ z. plus z b) (below-limit a k.1)

pub sums-append : (f : ℕ → ℕ) (xs ys : List ℕ) → sum (map f (xs ++ ys)) ≡ sum (map f xs) + sum (map f ys)
sums-append f xs ys = sum-map f (xs ++ ys) ∙ sum_by-append f xs ys ∙ ap (λ n. n + sum_by f ys) (sym (sum-map f xs)) ∙ ap (λ n. sum (map f xs) + n) (sym (sum-map f ys))

sums-one : {X : Type 0} (f : X → ℕ) (xs : List X) (x : X) → sum (map f (xs ++ x ∷ [])) ≡ sum (map f xs) + f x
sums-one f xs x =
    sum-map f (xs ++ x ∷ []) ∙ sum_by-append f xs (x ∷ []) ∙ ap (λ n. sum_by f xs + n) (sum_by-cons f x [] ∙ last (f x) (sum_by f []) refl) ∙ ap (λ n. n + f x) (sym (sum-map f xs))
  where
    last : (a b : ℕ) → b ≡ 0 → a + b ≡ a
    last a b e = omega (arith, e)

-- one item more
pub total_more : {X : Type 0} (f : X → ℕ) (xs ys : List X) (x : X) (t n : ℕ) → t ≡ capped (sum (map f xs)) → n ≡ f x → ys ≡ xs ++ x ∷ [] → plus t n ≡ capped (sum (map f ys))
total_more f xs ys x t n e g h = ap (λ z. plus z n) e ∙ capped_plus (sum (map f xs)) n ∙ ap (λ z. capped (sum (map f xs) + z)) g ∙ ap capped (sym (sums-one f xs x)) ∙ ap (λ zs. capped (sum (map f zs))) (sym h)

map-itself : (xs : List ℕ) → map (λ x. x) xs ≡ xs
map-itself [] = refl
map-itself (x ∷ xs) = ap (λ ys. x ∷ ys) (map-itself xs)

pub numbers_more : (n : ℕ) → numbers_below (n + 1) ≡ numbers_below n ++ n ∷ []
numbers_more n = sym (map-itself (numbers_below (n + 1))) ∙ map-range_with_len_more (λ x. x) 0 n n (omega arith) ∙ ap (λ xs. xs ++ n ∷ []) (map-itself (numbers_below n))

pub number_total : (f : ℕ → ℕ) (i t n : ℕ) → t ≡ capped (sum (map f (numbers_below i))) → n ≡ f i → plus t n ≡ capped (sum (map f (numbers_below (i + 1))))
number_total f i t n e g = total_more f (numbers_below i) (numbers_below (i + 1)) i t n e g (numbers_more i)

-- what a filter keeps of one number more
pub filtered : (p : ℕ → Bool) (i : ℕ) → filter p (numbers_below (i + 1)) ≡ filter p (numbers_below i) ++ filter p (i ∷ [])
filtered p i = ap (filter p) (numbers_more i) ∙ filter-append p (numbers_below i) (i ∷ [])
