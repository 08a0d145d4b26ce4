-- What a quantifier says, by the number of tuples that were found.
use Rattle.std.proofs.Common.{◌≡◌, ◌≢◌, ℕ, zero, suc, ◌+◌, ◌<◌, ◌≤◌, Bool, true, false, not, cond, ◌&&◌, ◌||◌, List, [], ◌∷◌, take, refl, ap, sym, ◌∙◌, arith}
use Rattle.std.specs.Prelude.{◌==◌, count_by, nat_lt, nat_le}
use Rattle.std.specs.List.{list_any, list_all}
use Rattle.std.proofs.lemmas.Bool.Decides.{nat_tests}
use Rattle.std.proofs.lemmas.List.Sums.{sum_by-cons, sum_by-take-le}
use Rattle.clf_tree.specs.declared.token.Word.{Word}
use Rattle.clf_tree.specs.declared.token.Word.TheVariants as word
use Rattle.clf_tree.specs.declared.instance.Node.{Node}
use Rattle.clf_tree.specs.Meaning.{quantified}
use Rattle.model_evaluator.specs.Asked.{looks_for, enough, settled, found_in}

one_more : {X : Type 0} (p : X → Bool) (x : X) (xs : List X) → count_by p (x ∷ xs) ≡ cond (p x) 1 0 + count_by p xs
one_more p x xs = sum_by-cons (λ y. cond (p y) 1 0) x xs

above : (n : ℕ) → (1 + n == 0) ≡ false
above n = grind (arith, nat_tests)

above_lt : (n : ℕ) → nat_lt 0 (1 + n) ≡ true
above_lt n = grind (arith, nat_tests)

nothing : (n : ℕ) → 0 + n ≡ n
nothing n = omega arith

none_fails : {X : Type 0} (p : X → Bool) (xs : List X) → (count_by (λ x. not (p x)) xs == 0) ≡ list_all p xs
none_fails p [] = refl
none_fails p (x ∷ xs) = ap (λ n. n == 0) (one_more (λ y. not (p y)) x xs) ∙ pick (p x) (none_fails p xs)
  where
    pick : (b : Bool) → (count_by (λ y. not (p y)) xs == 0) ≡ list_all p xs → (cond (not b) 1 0 + count_by (λ y. not (p y)) xs == 0) ≡ (b && list_all p xs)
    pick true rest = ap (λ n. n == 0) (nothing (count_by (λ y. not (p y)) xs)) ∙ rest
    pick false rest = above (count_by (λ y. not (p y)) xs)

some_pass : {X : Type 0} (p : X → Bool) (xs : List X) → nat_lt 0 (count_by p xs) ≡ list_any p xs
some_pass p [] = refl
some_pass p (x ∷ xs) = ap (nat_lt 0) (one_more p x xs) ∙ pick (p x) (some_pass p xs)
  where
    pick : (b : Bool) → nat_lt 0 (count_by p xs) ≡ list_any p xs → nat_lt 0 (cond b 1 0 + count_by p xs) ≡ (b || list_any p xs)
    pick true rest = above_lt (count_by p xs)
    pick false rest = ap (nat_lt 0) (nothing (count_by p xs)) ∙ rest

is_none : (n : ℕ) → (n == 0) ≡ not (nat_lt 0 n)
is_none n = grind (arith, nat_tests)

module _ (n c : ℕ) where
  zero_same : (n < 1 → n ≡ c) → (1 ≤ n → 1 ≤ c) → (n == 0) ≡ (c == 0)
  zero_same h k = grind (arith, nat_tests)

  some_same : (n < 1 → n ≡ c) → (1 ≤ n → 1 ≤ c) → nat_lt 0 n ≡ nat_lt 0 c
  some_same h k = grind (arith, nat_tests)

  one_same : (n < 2 → n ≡ c) → (2 ≤ n → 2 ≤ c) → (n == 1) ≡ (c == 1)
  one_same h k = grind (arith, nat_tests)

  lone_same : (n < 2 → n ≡ c) → (2 ≤ n → 2 ≤ c) → nat_le n 1 ≡ nat_le c 1
  lone_same h k = grind (arith, nat_tests)

pub decided : (w : Word) (test : List Node → Bool) (ts : List (List Node)) (n : ℕ)
    → (n < enough w → n ≡ found_in (looks_for w) test ts) → (enough w ≤ n → enough w ≤ found_in (looks_for w) test ts) → settled w n ≡ quantified w test ts
decided word.All test ts n h k = zero_same n (found_in false test ts) h k ∙ none_fails test ts
decided word.Some test ts n h k = some_same n (found_in true test ts) h k ∙ some_pass test ts
decided word.No test ts n h k = zero_same n (found_in true test ts) h k ∙ is_none (count_by test ts) ∙ ap not (some_pass test ts)
decided word.One test ts n h k = one_same n (found_in true test ts) h k
decided word.Lone test ts n h k = lone_same n (found_in true test ts) h k
decided _ test ts n h k = refl

-- so many among the first are no more than among all
pub found_first : {X : Type 0} (p : X → Bool) (xs : List X) (i : ℕ) → count_by p (take i xs) ≤ count_by p xs
found_first p xs i = sum_by-take-le (λ x. cond (p x) 1 0) xs i

pub ruleset found_steps = (found_first)
