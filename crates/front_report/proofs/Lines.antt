-- The lines of reports.
use Rattle.std.proofs.Common.{◌≡◌, ℕ, zero, suc, ◌+◌, Bool, true, false, cond, List, [], ◌∷◌, ◌++◌, flat_map, sym, ◌∙◌, ap, append_assoc, append-nil, arith}
use Rattle.std.specs.List.{filter, range_with_len}
use Rattle.std.proofs.lemmas.Grind.{flat_map-append}
use Rattle.std.proofs.lemmas.List.Elements.{filter-append}

range_more : (a n : ℕ) → range_with_len a (suc n) ≡ range_with_len a n ++ (a + n) ∷ []
range_more a zero = let e : a ≡ a + 0 = omega arith in ap (λ k. k ∷ []) e
range_more a (suc n) =
    let e : (a + 1) + n ≡ a + suc n = omega arith in
    ap (λ l. a ∷ l) (range_more (a + 1) n ∙ ap (λ k. range_with_len (a + 1) n ++ k ∷ []) e)

number_more : (n : ℕ) → range_with_len 0 (n + 1) ≡ range_with_len 0 n ++ n ∷ []
number_more n =
    let e : n + 1 ≡ suc n = omega arith in
    let z : 0 + n ≡ n = omega arith in
    ap (range_with_len 0) e ∙ range_more 0 n ∙ ap (λ k. range_with_len 0 n ++ k ∷ []) z

-- the lines of the numbers up to n that pass a test
abbrev pub lines : (ℕ → List ℕ) → (ℕ → Bool) → ℕ → List ℕ
lines f p n = flat_map f (filter p (range_with_len 0 n))

split : (f : ℕ → List ℕ) (p : ℕ → Bool) (n : ℕ) → lines f p (n + 1) ≡ lines f p n ++ flat_map f (filter p (n ∷ []))
split f p n =
    ap (λ l. flat_map f (filter p l)) (number_more n)
    ∙ ap (flat_map f) (filter-append p (range_with_len 0 n) (n ∷ []))
    ∙ flat_map-append f (filter p (range_with_len 0 n)) (filter p (n ∷ []))

-- with the line of one number more
pub line_more : (f : ℕ → List ℕ) (p : ℕ → Bool) (start text next : List ℕ) (n : ℕ) → p n ≡ true
    → text ≡ start ++ lines f p n → next ≡ text ++ f n → next ≡ start ++ lines f p (n + 1)
line_more f p start text next n t h g =
    let last : flat_map f (filter p (n ∷ [])) ≡ f n = ap (λ b. flat_map f (cond b (n ∷ []) [])) t ∙ append-nil (f n) in
    g ∙ ap (λ l. l ++ f n) h ∙ append_assoc start (lines f p n) (f n)
    ∙ ap (λ l. start ++ l) (sym (split f p n ∙ ap (λ l. lines f p n ++ l) last))

-- with no line of it
pub line_skipped : (f : ℕ → List ℕ) (p : ℕ → Bool) (start text : List ℕ) (n : ℕ) → p n ≡ false
    → text ≡ start ++ lines f p n → text ≡ start ++ lines f p (n + 1)
line_skipped f p start text n t h =
    let none : flat_map f (filter p (n ∷ [])) ≡ [] = ap (λ b. flat_map f (cond b (n ∷ []) [])) t in
    h ∙ ap (λ l. start ++ l) (sym (split f p n ∙ ap (λ l. lines f p n ++ l) none ∙ append-nil (lines f p n)))
