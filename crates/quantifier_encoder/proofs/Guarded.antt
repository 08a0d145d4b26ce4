-- What is tried of those that pass is what is tried of all, where each passes.
use Rattle.std.proofs.Common.{◌≡◌, ℕ, zero, suc, ◌+◌, Bool, true, false, not, cond, ◌&&◌, ◌||◌, if◌then◌else◌, List, [], ◌∷◌, ◌++◌, map, refl, sym, ap, ◌∙◌, zero-add}
use Rattle.std.specs.Prelude.{◌==◌, nat_le}
use Rattle.std.specs.List.{filter, list_all, list_any, flat_map, count_by}
use Rattle.std.proofs.lemmas.List.Elements.{filter-append}
use Rattle.std.proofs.lemmas.List.Sums.{sum_by-cons}
use Rattle.integer_bits.specs.Numbers.{bit}
use Rattle.integer_bits.specs.Totals.{count_true}
use Rattle.clf_tree.specs.declared.core_expr.Quantifier.{Quantifier}
use Rattle.clf_tree.specs.declared.core_expr.Quantifier.TheVariants as word
use Rattle.clf_tree.specs.Lists.{each_two, tuples}
use Rattle.told_constraints.specs.Told.{as_many, tried_slots}
use Rattle.quantifier_encoder.specs.Passing.{passes_present, all_pass, some_passes, passing}
use Rattle.quantifier_encoder.proofs.Behind.{differ, in_front, join, nothing}

module _ (p : ℕ → Bool) where
  abbrev each : List ℕ → Bool
  each t = list_all p t

  front-filter : (y : ℕ) (ts : List (List ℕ)) → filter each (in_front y ts) ≡ (if p y then in_front y (filter each ts) else [])
  front-filter y [] = none (p y)
    where
      none : (b : Bool) → nothing ≡ (if b then nothing else nothing)
      none true = refl
      none false = refl
  front-filter y (t ∷ ts) = by (p y) (each t) (filter each (in_front y ts)) (filter each ts) (front-filter y ts)
    where
      by : (a b : Bool) (rest kept : List (List ℕ)) → rest ≡ (if a then in_front y kept else []) → cond (a && b) ((y ∷ t) ∷ rest) rest ≡ (if a then in_front y (cond b (t ∷ kept) kept) else [])
      by true true rest kept h = ap (λ l. (y ∷ t) ∷ l) h
      by true false rest kept h = h
      by false b rest kept h = h

  fronts-filter : (ts : List (List ℕ)) (ys : List ℕ) → flat_map (λ y. in_front y (filter each ts)) (filter p ys) ≡ filter each (flat_map (λ y. in_front y ts) ys)
  fronts-filter ts [] = refl
  fronts-filter ts (y ∷ ys) =
      by (p y) ∙ sym (join (front-filter y ts) (sym (fronts-filter ts ys))) ∙ sym (filter-append each (in_front y ts) (flat_map (λ z. in_front z ts) ys))
    where
      by : (b : Bool) → flat_map (λ z. in_front z (filter each ts)) (cond b (y ∷ filter p ys) (filter p ys))
          ≡ (if b then in_front y (filter each ts) else []) ++ flat_map (λ z. in_front z (filter each ts)) (filter p ys)
      by true = refl
      by false = refl

  tuples-filter : (n : ℕ) (xs : List ℕ) → tuples n (filter p xs) ≡ filter each (tuples n xs)
  tuples-filter zero xs = refl
  tuples-filter (suc n) xs = ap (λ ts. flat_map (λ y. in_front y ts) (filter p xs)) (tuples-filter n xs) ∙ fronts-filter (tuples n xs) xs

filter_swap : {X : Type 0} (p q : X → Bool) (xs : List X) → filter p (filter q xs) ≡ filter q (filter p xs)
filter_swap p q [] = refl
filter_swap p q (x ∷ xs) = by (p x) refl (q x) refl (filter_swap p q xs)
  where
    by : (a : Bool) → p x ≡ a → (b : Bool) → q x ≡ b → filter p (filter q xs) ≡ filter q (filter p xs)
        → filter p (cond b (x ∷ filter q xs) (filter q xs)) ≡ filter q (cond a (x ∷ filter p xs) (filter p xs))
    by true e true f h = rw (e, f) (ap (λ l. x ∷ l) h)
    by true e false f h = rw f h
    by false e true f h = rw e h
    by false e false f h = h

pub tried-filter : (p : ℕ → Bool) (disj : Bool) (n : ℕ) (xs : List ℕ) → tried_slots disj n (filter p xs) ≡ filter (list_all p) (tried_slots disj n xs)
tried-filter p true n xs = ap (filter (each_two differ)) (tuples-filter p n xs) ∙ filter_swap (each_two differ) (list_all p) (tuples n xs)
tried-filter p false n xs = tuples-filter p n xs

-- ---- each word

module _ {X : Type 0} (here test : X → Bool) where
  all_kept : (xs : List X) → list_all test (filter here xs) ≡ all_pass (map here xs) (map test xs)
  all_kept [] = refl
  all_kept (x ∷ xs) = by (here x) ∙ ap (λ b. (not (here x) || test x) && b) (all_kept xs)
    where
      by : (b : Bool) → list_all test (cond b (x ∷ filter here xs) (filter here xs)) ≡ ((not b || test x) && list_all test (filter here xs))
      by true = refl
      by false = refl

  some_kept : (xs : List X) → list_any test (filter here xs) ≡ some_passes (map here xs) (map test xs)
  some_kept [] = refl
  some_kept (x ∷ xs) = by (here x) ∙ ap (λ b. (here x && test x) || b) (some_kept xs)
    where
      by : (b : Bool) → list_any test (cond b (x ∷ filter here xs) (filter here xs)) ≡ ((b && test x) || list_any test (filter here xs))
      by true = refl
      by false = refl

  count_kept : (xs : List X) → count_by test (filter here xs) ≡ count_true (passing (map here xs) (map test xs))
  count_kept [] = refl
  count_kept (x ∷ xs) = by (here x) ∙ ap (λ n. bit (here x && test x) + n) (count_kept xs)
    where
      by : (b : Bool) → count_by test (cond b (x ∷ filter here xs) (filter here xs)) ≡ bit (b && test x) + count_by test (filter here xs)
      by true = sum_by-cons (λ y. cond (test y) 1 0) x (filter here xs)
      by false = sym (zero-add (count_by test (filter here xs)))

  pub as_many_kept : (w : Quantifier) (xs : List X) → as_many w test (filter here xs) ≡ passes_present w (map here xs) (map test xs)
  unfolding as_many passes_present
  as_many_kept word.All xs = all_kept xs
  as_many_kept word.Some xs = some_kept xs
  as_many_kept word.One xs = ap (λ n. n == 1) (count_kept xs)
  as_many_kept word.Lone xs = ap (λ n. nat_le n 1) (count_kept xs)

-- as many of the tuples of those that pass, by guards of all tuples
pub guarded : (w : Quantifier) (disj : Bool) (n : ℕ) (p : ℕ → Bool) (test : List ℕ → Bool) (xs : List ℕ)
    → as_many w test (tried_slots disj n (filter p xs)) ≡ passes_present w (map (list_all p) (tried_slots disj n xs)) (map test (tried_slots disj n xs))
guarded w disj n p test xs = ap (as_many w test) (tried-filter p disj n xs) ∙ as_many_kept (list_all p) test w (tried_slots disj n xs)
