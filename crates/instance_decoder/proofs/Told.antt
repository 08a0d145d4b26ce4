-- One slot more.
use Rattle.std.proofs.Common.{◌≡◌, ℕ, ◌+◌, Bool, true, false, List, [], ◌∷◌, ◌++◌, map, cond, refl, ap, sym, ◌∙◌, arith, append-nil}
use Rattle.std.specs.List.{filter}
use Rattle.std.proofs.lemmas.List.{map-append}
use Rattle.std.proofs.lemmas.List.FromFn.{map-range_with_len_more}
use Rattle.std.proofs.lemmas.List.Elements.{filter-append}
use Rattle.clf_tree.specs.Lists.{numbers_below}

map-itself : (xs : List ℕ) → map (λ x. x) xs ≡ xs
map-itself [] = refl
map-itself (x ∷ xs) = ap (λ ys. x ∷ ys) (map-itself xs)

numbers-more : (n : ℕ) → numbers_below (n + 1) ≡ numbers_below n ++ n ∷ []
numbers-more n = sym (map-itself (numbers_below (n + 1))) ∙ map-range_with_len_more (λ x. x) 0 n n (omega arith) ∙ ap (λ xs. xs ++ n ∷ []) (map-itself (numbers_below n))

pub told_kept : {X : Type 0} (g : ℕ → X) (p : ℕ → Bool) (n : ℕ) → p n ≡ true → map g (filter p (numbers_below (n + 1))) ≡ map g (filter p (numbers_below n)) ++ g n ∷ []
told_kept g p n pass =
    ap (map g) (ap (filter p) (numbers-more n) ∙ filter-append p (numbers_below n) (n ∷ []) ∙ ap (λ b. filter p (numbers_below n) ++ cond b (n ∷ []) []) pass) ∙ map-append g (filter p (numbers_below n)) (n ∷ [])

pub told_dropped : {X : Type 0} (g : ℕ → X) (p : ℕ → Bool) (n : ℕ) → p n ≡ false → map g (filter p (numbers_below (n + 1))) ≡ map g (filter p (numbers_below n))
told_dropped g p n fail =
    ap (map g) (ap (filter p) (numbers-more n) ∙ filter-append p (numbers_below n) (n ∷ []) ∙ ap (λ b. filter p (numbers_below n) ++ cond b (n ∷ []) []) fail ∙ append-nil (filter p (numbers_below n)))
