-- The numbers below one more.
use Rattle.std.proofs.Common.{◌≡◌, ℕ, zero, suc, ◌+◌, ◌-◌, ◌<◌, Bool, true, false, ◌&&◌, ◌||◌, List, [], ◌∷◌, ◌++◌, map, refl, ap, sym, ◌∙◌, arith}
use Rattle.std.specs.Prelude.{◌==◌, not, bytes_eq}
use Rattle.std.proofs.lemmas.Grind.{common_steps}
use Rattle.std.specs.List.{list_any}
use Rattle.std.proofs.lemmas.List.FromFn.{map-range_with_len_more}
use Rattle.std.proofs.lemmas.List.Folds.{list_any-append}
use Rattle.clf_tree.specs.Lists.{numbers_below}

map-itself : (xs : List ℕ) → map (λ x. x) xs ≡ xs
map-itself [] = refl
map-itself (x ∷ xs) = ap (λ ys. x ∷ ys) (map-itself xs)

numbers-more : (n : ℕ) → numbers_below (n + 1) ≡ numbers_below n ++ n ∷ []
numbers-more n = sym (map-itself (numbers_below (n + 1))) ∙ map-range_with_len_more (λ x. x) 0 n n (omega arith) ∙ ap (λ xs. xs ++ n ∷ []) (map-itself (numbers_below n))

pub any-none : (p : ℕ → Bool) (n : ℕ) → list_any p (numbers_below n) ≡ false → p n ≡ false → list_any p (numbers_below (n + 1)) ≡ false
any-none p n before here = ap (list_any p) (numbers-more n) ∙ list_any-append p (numbers_below n) (n ∷ []) ∙ ap (λ b. b || (p n || false)) before ∙ ap (λ b. b || false) here

any-append_some : (p : ℕ → Bool) (n : ℕ) (b : Bool) → p n ≡ true → (b || (p n || false)) ≡ true
any-append_some p n true here = refl
any-append_some p n false here = ap (λ c. c || false) here

any-longer : (p : ℕ → Bool) (c k : ℕ) → p c ≡ true → list_any p (numbers_below (c + 1 + k)) ≡ true
any-longer p c zero here = ap (λ n. list_any p (numbers_below n)) (omega arith) ∙ ap (list_any p) (numbers-more c) ∙ list_any-append p (numbers_below c) (c ∷ []) ∙ any-append_some p c (list_any p (numbers_below c)) here
any-longer p c (suc k) here =
    ap (λ n. list_any p (numbers_below n)) (omega arith) ∙ ap (list_any p) (numbers-more (c + 1 + k)) ∙ list_any-append p (numbers_below (c + 1 + k)) ((c + 1 + k) ∷ [])
    ∙ ap (λ b. b || (p (c + 1 + k) || false)) (any-longer p c k here)

pub any-some : (p : ℕ → Bool) (n c : ℕ) → c < n → p c ≡ true → list_any p (numbers_below n) ≡ true
any-some p n c within here = ap (λ m. list_any p (numbers_below m)) (omega arith) ∙ any-longer p c (n - (c + 1)) here

not_equal : (d c : ℕ) → (d ≡ c → ⊥) → (d == c) ≡ false
not_equal d c h = grind (arith, common_steps)

-- another clafer with the same name
pub passes : (d c : ℕ) (a b x y : List ℕ) → (d ≡ c → ⊥) → a ≡ x → b ≡ y → bytes_eq a b ≡ true → (not (d == c) && bytes_eq x y) ≡ true
passes d c a b x y apart e f same = ap (λ z. not z && bytes_eq x y) (not_equal d c apart) ∙ ap (λ z. bytes_eq z y) (sym e) ∙ ap (bytes_eq a) (sym f) ∙ same

pub ruleset namesake_steps = (any-none, any-some)

-- a table of one more clafer
pub shown_more : {X : Type 0} (f : ℕ → X) (n : ℕ) → map f (numbers_below (n + 1)) ≡ map f (numbers_below n) ++ f n ∷ []
shown_more f n = map-range_with_len_more f 0 n n (omega arith)
