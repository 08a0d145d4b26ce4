-- Tests of the numbers below another.
use Rattle.std.proofs.Common.{◌≡◌, ℕ, zero, suc, ◌+◌, ◌-◌, ◌<◌, Bool, true, false, ◌&&◌, List, [], ◌∷◌, ◌++◌, map, refl, ap, sym, ◌∙◌, arith}
use Rattle.std.specs.List.{list_all}
use Rattle.std.proofs.lemmas.List.FromFn.{map-range_with_len_more}
use Rattle.std.proofs.lemmas.List.Folds.{list_all-append}
use Rattle.clf_tree.specs.Lists.{numbers_below}

map-itself : (xs : List ℕ) → map (λ x. x) xs ≡ xs
map-itself [] = refl
map-itself (x ∷ xs) = ap (λ ys. x ∷ ys) (map-itself xs)

pub numbers-more : (n : ℕ) → numbers_below (n + 1) ≡ numbers_below n ++ n ∷ []
numbers-more n = sym (map-itself (numbers_below (n + 1))) ∙ map-range_with_len_more (λ x. x) 0 n n (omega arith) ∙ ap (λ xs. xs ++ n ∷ []) (map-itself (numbers_below n))

all-more : (p : ℕ → Bool) (n : ℕ) → list_all p (numbers_below (n + 1)) ≡ (list_all p (numbers_below n) && (p n && true))
all-more p n = ap (list_all p) (numbers-more n) ∙ list_all-append p (numbers_below n) (n ∷ [])

and_false : (b : Bool) → (b && false) ≡ false
and_false true = refl
and_false false = refl

pub all_next : (p : ℕ → Bool) (n : ℕ) → list_all p (numbers_below n) ≡ true → p n ≡ true → list_all p (numbers_below (n + 1)) ≡ true
all_next p n before here = all-more p n ∙ ap (λ b. b && (p n && true)) before ∙ ap (λ b. b && true) here

longer : (p : ℕ → Bool) (c k : ℕ) → p c ≡ false → list_all p (numbers_below (c + 1 + k)) ≡ false
longer p c zero fail = ap (λ n. list_all p (numbers_below n)) (omega arith) ∙ all-more p c ∙ ap (λ b. list_all p (numbers_below c) && (b && true)) fail ∙ and_false (list_all p (numbers_below c))
longer p c (suc k) fail = ap (λ n. list_all p (numbers_below n)) (omega arith) ∙ all-more p (c + 1 + k) ∙ ap (λ b. b && (p (c + 1 + k) && true)) (longer p c k fail)

pub all_fails : (p : ℕ → Bool) (n c : ℕ) → c < n → p c ≡ false → list_all p (numbers_below n) ≡ false
all_fails p n c within fail = ap (λ m. list_all p (numbers_below m)) (omega arith) ∙ longer p c (n - (c + 1)) fail

pub ruleset all_steps = (all_next, all_fails)
