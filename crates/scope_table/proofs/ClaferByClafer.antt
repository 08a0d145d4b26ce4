-- Totals, clafer by clafer.
use Rattle.std.proofs.Common.{◌≡◌, ℕ, ◌+◌, ◌<◌, Bool, true, false, not, cond, ◌&&◌, List, [], ◌∷◌, ◌++◌, length, map, sum, get_or, Some, refl, ap, sym, ◌∙◌, arith, if◌then◌else◌}
use Rattle.std.specs.Prelude.{slice_get}
use Rattle.std.specs.List.{filter, sum_by, range_with_len}
use Rattle.std.proofs.lemmas.List.Sums.{sum-map, sum_by-cons, sum_by-append}
use Rattle.std.proofs.lemmas.List.FromFn.{filter_of_map_range_with_len_more}
use Rattle.clf_tree.specs.declared.model.Clafer.{Clafer}
use Rattle.clf_tree.specs.Lists.{numbers_below, has}
use Rattle.clf_tree.specs.Hierarchy.{is_concrete, is_a, is_closed, with_supers}
use Rattle.clf_tree.specs.Named.{each, inherits_itself}
use Rattle.scope_table.specs.Largest.{told}
use Rattle.scope_table.specs.Steps.{added, total_below, AreBelow}
use Rattle.scope_table.proofs.Adding.{once, adds_once, is_concrete-at}

pub told_more : (t more : ℕ) → told (told t + more) ≡ told (t + more)
told_more t more = omega arith

map-itself : (xs : List ℕ) → map (λ x. x) xs ≡ xs
map-itself [] = refl
map-itself (x ∷ xs) = ap (λ ys. x ∷ ys) (map-itself xs)

filter-more : (p : ℕ → Bool) (a n j : ℕ) → a + n ≡ j → filter p (range_with_len a (n + 1)) ≡ filter p (range_with_len a n) ++ cond (p j) (j ∷ []) []
filter-more p a n j e = sym (ap (filter p) (map-itself _)) ∙ filter_of_map_range_with_len_more p (λ x. x) a n j e ∙ ap (λ xs. filter p xs ++ cond (p j) (j ∷ []) []) (map-itself _)

sums-append : (f : ℕ → ℕ) (xs ys : List ℕ) → sum (map f (xs ++ ys)) ≡ sum (map f xs) + sum (map f ys)
sums-append f xs ys = sum-map f (xs ++ ys) ∙ sum_by-append f xs ys ∙ ap (λ n. n + sum_by f ys) (sym (sum-map f xs)) ∙ ap (λ n. sum (map f xs) + n) (sym (sum-map f ys))

pub sums-cons : (f : ℕ → ℕ) (x : ℕ) (xs : List ℕ) → sum (map f (x ∷ xs)) ≡ f x + sum (map f xs)
sums-cons f x xs = sum-map f (x ∷ xs) ∙ sum_by-cons f x xs ∙ ap (λ n. f x + n) (sym (sum-map f xs))

one : (f : ℕ → ℕ) (n : ℕ) (b : Bool) → sum (map f (cond b (n ∷ []) [])) ≡ cond b (f n) 0
one f n true = single
  where
    single : sum (f n ∷ []) ≡ f n
    single = omega arith
one f n false = refl

total_more : (clafers : List Clafer) (f : ℕ → ℕ) (d n : ℕ) → total_below clafers f d (n + 1) ≡ total_below clafers f d n + cond (is_concrete clafers n && is_a clafers n d) (f n) 0
total_more clafers f d n =
    let p : ℕ → Bool = λ o. is_concrete clafers o && is_a clafers o d in
    ap (λ xs. sum (map f xs)) (filter-more p 0 n n (omega arith))
    ∙ sums-append f (filter p (numbers_below n)) (cond (p n) (n ∷ []) [])
    ∙ ap (λ m. total_below clafers f d n + m) (one f n (p n))

told_case : (b : Bool) (t s : ℕ) → (if b then told (told t + s) else told t) ≡ told (t + cond b s 0)
told_case true t s = told_more t s
told_case false t s = ap told (sym zero_more)
  where
    zero_more : t + 0 ≡ t
    zero_more = omega arith

pub below_more : (clafers : List Clafer) (f : ℕ → ℕ) (n s : ℕ) (old new : List ℕ) (k : Clafer) → is_closed clafers ≡ true → each clafers (λ c. not (inherits_itself clafers c)) ≡ true
    → n < length clafers → slice_get clafers n ≡ Some k → k.is_abstract ≡ false → s ≡ f n
    → AreBelow clafers f n old → ((d : ℕ) → get_or new d 0 ≡ added (with_supers clafers n) s d (get_or old d 0))
    → AreBelow clafers f (n + 1) new
below_more clafers f n s old new k closed acyclic lt found concrete own before add d small =
    add d
    ∙ adds_once (with_supers clafers n) s d (get_or old d 0) (once clafers closed acyclic (length clafers) n (omega arith) lt)
    ∙ ap (λ t. if has (with_supers clafers n) d then told (t + s) else t) (before d small)
    ∙ told_case (is_a clafers n d) (total_below clafers f d n) s
    ∙ ap (λ m. told (total_below clafers f d n + cond (is_a clafers n d) m 0)) own
    ∙ ap (λ b. told (total_below clafers f d n + cond (b && is_a clafers n d) (f n) 0)) (sym (is_concrete-at clafers n k found ∙ ap not concrete))
    ∙ ap told (sym (total_more clafers f d n))

pub below_abstract : (clafers : List Clafer) (f : ℕ → ℕ) (n : ℕ) (totals : List ℕ) (k : Clafer) → slice_get clafers n ≡ Some k → k.is_abstract ≡ true
    → AreBelow clafers f n totals → AreBelow clafers f (n + 1) totals
below_abstract clafers f n totals k found abs before d small =
    before d small
    ∙ ap told (sym zero_more)
    ∙ ap (λ b. told (total_below clafers f d n + cond (b && is_a clafers n d) (f n) 0)) (sym (is_concrete-at clafers n k found ∙ ap not abs))
    ∙ ap told (sym (total_more clafers f d n))
  where
    zero_more : total_below clafers f d n + 0 ≡ total_below clafers f d n
    zero_more = omega arith
