-- The numbers below one more.
use Rattle.std.proofs.Common.{◌≡◌, ℕ, zero, suc, ◌+◌, ◌-◌, ◌<◌, Bool, true, false, ◌||◌, ◌&&◌, List, [], ◌∷◌, ◌++◌, map, cond, refl, ap, sym, ◌∙◌, arith, append-nil}
use Rattle.std.specs.List.{filter, list_any, list_all}
use Rattle.std.proofs.lemmas.List.FromFn.{map-range_with_len_more}
use Rattle.std.proofs.lemmas.List.Folds.{list_any-append, list_all-append}
use Rattle.std.proofs.lemmas.List.Elements.{filter-append}
use Rattle.clf_tree.specs.Lists.{numbers_below}

map-itself : (xs : List ℕ) → map (λ x. x) xs ≡ xs
map-itself [] = refl
map-itself (x ∷ xs) = ap (λ ys. x ∷ ys) (map-itself xs)

pub numbers-more : (n : ℕ) → numbers_below (n + 1) ≡ numbers_below n ++ n ∷ []
numbers-more n = sym (map-itself (numbers_below (n + 1))) ∙ map-range_with_len_more (λ x. x) 0 n n (omega arith) ∙ ap (λ xs. xs ++ n ∷ []) (map-itself (numbers_below n))

pub any-none : (p : ℕ → Bool) (n : ℕ) → list_any p (numbers_below n) ≡ false → p n ≡ false → list_any p (numbers_below (n + 1)) ≡ false
any-none p n before here = ap (list_any p) (numbers-more n) ∙ list_any-append p (numbers_below n) (n ∷ []) ∙ ap (λ b. b || (p n || false)) before ∙ ap (λ b. b || false) here

any-append_some : (p : ℕ → Bool) (n : ℕ) (b : Bool) → p n ≡ true → (b || (p n || false)) ≡ true
any-append_some p n true here = refl
any-append_some p n false here = ap (λ c. c || false) here

any-longer : (p : ℕ → Bool) (c k : ℕ) → p c ≡ true → list_any p (numbers_below (c + 1 + k)) ≡ true
any-longer p c zero here = ap (λ n. list_any p (numbers_below n)) (omega arith) ∙ ap (list_any p) (numbers-more c) ∙ list_any-append p (numbers_below c) (c ∷ []) ∙ any-append_some p c (list_any p (numbers_below c)) here
any-longer p c (suc k) here =
    ap (λ n. list_any p (numbers_below n)) (omega arith) ∙ ap (list_any p) (numbers-more (c + 1 + k)) ∙ list_any-append p (numbers_below (c + 1 + k)) ((c + 1 + k) ∷ [])
    ∙ ap (λ b. b || (p (c + 1 + k) || false)) (any-longer p c k here)

pub any-some : (p : ℕ → Bool) (n c : ℕ) → c < n → p c ≡ true → list_any p (numbers_below n) ≡ true
any-some p n c within here = ap (λ m. list_any p (numbers_below m)) (omega arith) ∙ any-longer p c (n - (c + 1)) here

pub filter-kept : (p : ℕ → Bool) (n : ℕ) → p n ≡ true → filter p (numbers_below (n + 1)) ≡ filter p (numbers_below n) ++ n ∷ []
filter-kept p n pass = ap (filter p) (numbers-more n) ∙ filter-append p (numbers_below n) (n ∷ []) ∙ ap (λ b. filter p (numbers_below n) ++ cond b (n ∷ []) []) pass

pub filter-dropped : (p : ℕ → Bool) (n : ℕ) → p n ≡ false → filter p (numbers_below (n + 1)) ≡ filter p (numbers_below n)
filter-dropped p n fail = ap (filter p) (numbers-more n) ∙ filter-append p (numbers_below n) (n ∷ []) ∙ ap (λ b. filter p (numbers_below n) ++ cond b (n ∷ []) []) fail ∙ append-nil (filter p (numbers_below n))

pub all-more : (p : ℕ → Bool) (n : ℕ) → list_all p (numbers_below n) ≡ true → p n ≡ true → list_all p (numbers_below (n + 1)) ≡ true
all-more p n before here =
    ap (list_all p) (numbers-more n) ∙ list_all-append p (numbers_below n) (n ∷ []) ∙ ap (λ b. b && (p n && true)) before ∙ ap (λ b. b && true) here

pub ruleset child_steps = (all-more, any-none, any-some, filter-kept, filter-dropped)
