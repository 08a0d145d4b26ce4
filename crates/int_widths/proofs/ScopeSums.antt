-- The sum of scopes, clafer by clafer.
use Rattle.std.proofs.Common.{◌≡◌, ℕ, ◌+◌, Bool, true, false, ◌&&◌, cond, List, [], ◌∷◌, ◌++◌, map, sum, refl, ap, sym, ◌∙◌, arith}
use Rattle.std.specs.List.{filter, sum_by}
use Rattle.std.proofs.lemmas.List.Sums.{sum-map, sum_by-append}
use Rattle.std.proofs.lemmas.List.FromFn.{map-range_with_len_more}
use Rattle.std.proofs.lemmas.List.Elements.{filter-append}
use Rattle.clf_tree.specs.declared.model.Clafer.{Clafer}
use Rattle.clf_tree.specs.declared.scopes.Scopes.{Scopes}
use Rattle.clf_tree.specs.Lists.{numbers_below}
use Rattle.clf_tree.specs.Hierarchy.{is_concrete, is_one_of}
use Rattle.clf_tree.specs.Nodes.{scope_of}

-- the scopes of those below n
abbrev pub room_below : List Clafer → Scopes → List ℕ → ℕ → ℕ
room_below clafers scopes ks n = sum (map (scope_of scopes) (filter (is_one_of clafers ks) (filter (is_concrete clafers) (numbers_below n))))

map-itself : (xs : List ℕ) → map (λ x. x) xs ≡ xs
map-itself [] = refl
map-itself (x ∷ xs) = ap (λ ys. x ∷ ys) (map-itself xs)

numbers-more : (n : ℕ) → numbers_below (n + 1) ≡ numbers_below n ++ n ∷ []
numbers-more n = sym (map-itself (numbers_below (n + 1))) ∙ map-range_with_len_more (λ x. x) 0 n n (omega arith) ∙ ap (λ xs. xs ++ n ∷ []) (map-itself (numbers_below n))

filtered-more : (p q : ℕ → Bool) (n : ℕ) → filter q (filter p (numbers_below (n + 1))) ≡ filter q (filter p (numbers_below n)) ++ filter q (filter p (n ∷ []))
filtered-more p q n = ap (λ xs. filter q (filter p xs)) (numbers-more n) ∙ ap (filter q) (filter-append p (numbers_below n) (n ∷ [])) ∙ filter-append q (filter p (numbers_below n)) (filter p (n ∷ []))

sums-append : (f : ℕ → ℕ) (xs ys : List ℕ) → sum (map f (xs ++ ys)) ≡ sum (map f xs) + sum (map f ys)
sums-append f xs ys = sum-map f (xs ++ ys) ∙ sum_by-append f xs ys ∙ ap (λ n. n + sum_by f ys) (sym (sum-map f xs)) ∙ ap (λ n. sum (map f xs) + n) (sym (sum-map f ys))

one : (p q : ℕ → Bool) (f : ℕ → ℕ) (n : ℕ) (a b : Bool) → p n ≡ a → q n ≡ b → sum (map f (filter q (filter p (n ∷ [])))) ≡ cond (a && b) (f n) 0
one p q f n true true g h = ap (λ c. sum (map f (filter q (cond c (n ∷ []) [])))) g ∙ ap (λ c. sum (map f (cond c (n ∷ []) []))) h ∙ single
  where
    single : sum (f n ∷ []) ≡ f n
    single = omega arith
one p q f n true false g h = ap (λ c. sum (map f (filter q (cond c (n ∷ []) [])))) g ∙ ap (λ c. sum (map f (cond c (n ∷ []) []))) h
one p q f n false b g h = ap (λ c. sum (map f (filter q (cond c (n ∷ []) [])))) g

pub room_more : (clafers : List Clafer) (scopes : Scopes) (ks : List ℕ) (n : ℕ)
    → room_below clafers scopes ks (n + 1) ≡ room_below clafers scopes ks n + cond (is_concrete clafers n && is_one_of clafers ks n) (scope_of scopes n) 0
room_more clafers scopes ks n =
    ap (λ xs. sum (map (scope_of scopes) xs)) (filtered-more (is_concrete clafers) (is_one_of clafers ks) n)
    ∙ sums-append (scope_of scopes) (filter (is_one_of clafers ks) (filter (is_concrete clafers) (numbers_below n))) (filter (is_one_of clafers ks) (filter (is_concrete clafers) (n ∷ [])))
    ∙ ap (λ m. room_below clafers scopes ks n + m)
    (one (is_concrete clafers) (is_one_of clafers ks) (scope_of scopes) n (is_concrete clafers n) (is_one_of clafers ks n) refl refl)
