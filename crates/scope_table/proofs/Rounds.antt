-- Rounds, and that numbers which are told do as well as the numbers themselves.
use Rattle.std.proofs.Common.{◌≡◌, ℕ, zero, suc, ◌+◌, ◌*◌, ◌-◌, ◌<◌, ◌≤◌, Bool, true, false, List, [], ◌∷◌, ◌++◌, length, map, sum, get_or, take, Option, Some, None, inl, inr, refl, ap, sym, ◌∙◌, arith, if◌then◌else◌}
use Rattle.std.specs.Prelude.{is_none, slice_get, min, ◌^◌}
use Rattle.std.specs.Option.{option_map_or}
use Rattle.std.proofs.lemmas.Bool.Decides.{leb_tells}
use Rattle.std.proofs.lemmas.List.{length_push}
use Rattle.std.proofs.lemmas.List.Sums.{fold_more, get_or-le-sum_by}
use Rattle.clf_tree.specs.declared.model.Clafer.{Clafer}
use Rattle.clf_tree.specs.declared.scopes.Given.{Given}
use Rattle.clf_tree.specs.Hierarchy.{parent_of, is_concrete, owners, concrete_below}
use Rattle.scope_table.specs.Paths.{given_to}
use Rattle.scope_table.specs.Largest.{most_times, most_of, scope_over, scope_within, told}
use Rattle.scope_table.specs.Steps.{AreTotals, AreLargest}
use Rattle.scope_table.proofs.ClaferByClafer.{sums-cons}

pub told_twice : (n : ℕ) → told (told n) ≡ told n
told_twice n = omega arith

told_sum : (a b c d : ℕ) → told a ≡ told c → told b ≡ told d → told (a + b) ≡ told (c + d)
told_sum a b c d e f = omega (arith, e, f)

pub told_times : (m x y : ℕ) → told x ≡ told y → told (m * x) ≡ told (m * y)
told_times zero x y e = ap told same
  where
    same : 0 * x ≡ 0 * y
    same = omega arith
told_times (suc m) x y e =
    let rest = told_times m x y e in
    let left : suc m * x ≡ x + m * x = omega arith in
    let right : suc m * y ≡ y + m * y = omega arith in
    ap told left ∙ told_sum x (m * x) y (m * y) e rest ∙ ap told (sym right)

pub sums_alike : (f g : ℕ → ℕ) → ((d : ℕ) → told (f d) ≡ told (g d)) → (xs : List ℕ) → told (sum (map f xs)) ≡ told (sum (map g xs))
sums_alike f g h [] = refl
sums_alike f g h (x ∷ xs) = ap told (sums-cons f x xs) ∙ told_sum (f x) (sum (map f xs)) (g x) (sum (map g xs)) (h x) (sums_alike f g h xs) ∙ ap told (sym (sums-cons g x xs))

inner_alike : (f g : ℕ → ℕ) → ((d : ℕ) → told (f d) ≡ told (g d)) → (b : Bool) (xs : List ℕ) → told (if b then 1 else sum (map f xs)) ≡ told (if b then 1 else sum (map g xs))
inner_alike f g h true xs = refl
inner_alike f g h false xs = sums_alike f g h xs

over_alike : (b : Bool) (o : Option ℕ) (m x y : ℕ) → told x ≡ told y → told (if b then option_map_or (λ z. z) o (m * x) else 0) ≡ told (if b then option_map_or (λ z. z) o (m * y) else 0)
over_alike true None m x y e = told_times m x y e
over_alike true (Some z) m x y e = refl
over_alike false o m x y e = refl

module _ (clafers : List Clafer) (given : Given) where
  pub alike : (f g : ℕ → ℕ) → ((d : ℕ) → told (f d) ≡ told (g d)) → (c : ℕ) → told (scope_over clafers given f c) ≡ told (scope_over clafers given g c)
  alike f g h c =
      over_alike (is_concrete clafers c) (given_to clafers given.scopes c) (most_of clafers given c)
      (if is_none (parent_of clafers c) then 1 else sum (map f (owners clafers c)))
      (if is_none (parent_of clafers c) then 1 else sum (map g (owners clafers c)))
      (inner_alike f g h (is_none (parent_of clafers c)) (owners clafers c))

  -- the scopes after so many rounds
  abbrev pub AreAfter : ℕ → List ℕ → Type 0
  AreAfter k of = (c : ℕ) → get_or of c 0 ≡ told (scope_within clafers given k c)

  pub after_more : (k : ℕ) (of next : List ℕ) → AreAfter k of → ((c : ℕ) → get_or next c 0 ≡ told (scope_over clafers given (λ d. get_or of d 0) c)) → AreAfter (k + 1) next
  after_more k of next before round c =
      let e : k + 1 ≡ suc k = omega arith in
      round c
      ∙ alike (λ d. get_or of d 0) (scope_within clafers given k) (λ d. ap told (before d) ∙ told_twice (scope_within clafers given k d)) c
      ∙ ap (λ m. told (scope_within clafers given m c)) (sym e)

  stays : (k : ℕ) → ((c : ℕ) → told (scope_within clafers given (suc k) c) ≡ told (scope_within clafers given k c)) → (m : ℕ) (c : ℕ) → told (scope_within clafers given (m + k) c) ≡ told (scope_within clafers given k c)
  stays k h zero c =
      let e : 0 + k ≡ k = omega arith in
      ap (λ m. told (scope_within clafers given m c)) e
  stays k h (suc m) c =
      let e : suc m + k ≡ suc (m + k) = omega arith in
      ap (λ n. told (scope_within clafers given n c)) e ∙ alike (scope_within clafers given (m + k)) (scope_within clafers given k) (stays k h m) c ∙ h c

  pub settled : (k : ℕ) (of next : List ℕ) → k ≤ length clafers → AreAfter k of → AreAfter (k + 1) next → next ≡ of → AreLargest clafers given of
  settled k of next le now later same c =
      let e : k + 1 ≡ suc k = omega arith in
      let n : (length clafers - k) + k ≡ length clafers = omega arith in
      now c
      ∙ sym (stays k (λ d. sym (ap (λ m. told (scope_within clafers given m d)) e) ∙ sym (later d) ∙ ap (λ xs. get_or xs d 0) same ∙ now d) (length clafers - k) c)
      ∙ ap (λ m. told (scope_within clafers given m c)) n

narrow_told : (x y : ℕ) → x ≡ min y (2 ^ 64 - 1) → told x ≡ told y
narrow_told x y e = omega (arith, e)

-- a clafer that isn't given, below another, at top level; and one that is given
module _ (clafers : List Clafer) (given : Given) (of : ℕ → ℕ) (c : ℕ) (k : Clafer) where
  pub over_abstract : slice_get clafers c ≡ Some k → k.is_abstract ≡ true → 0 ≡ told (scope_over clafers given of c)
  over_abstract found abs = rw (found, abs) refl

  pub over_given : (most : ℕ) → slice_get clafers c ≡ Some k → k.is_abstract ≡ false → given_to clafers given.scopes c ≡ Some most → told most ≡ told (scope_over clafers given of c)
  over_given most found concrete is = rw (found, concrete, is) refl

  pub over_top : slice_get clafers c ≡ Some k → k.is_abstract ≡ false → given_to clafers given.scopes c ≡ None → k.parent ≡ None → told (most_times given.default k.times) ≡ told (scope_over clafers given of c)
  over_top found concrete none top =
      let once : most_times given.default k.times * 1 ≡ most_times given.default k.times = omega arith in
      rw (found, concrete, none, top) (ap told (sym once))

  pub over_nested : (p most total : ℕ) (totals : List ℕ) → slice_get clafers c ≡ Some k → k.is_abstract ≡ false → given_to clafers given.scopes c ≡ None → k.parent ≡ Some p → p < length clafers
      → AreTotals clafers of totals → total ≡ min (most * get_or totals p 0) (2 ^ 64 - 1) → most ≡ most_times given.default k.times → told total ≡ told (scope_over clafers given of c)
  over_nested p most total totals found concrete none nested lt are e same =
      rw (found, concrete, none, nested) (
      narrow_told total (most * get_or totals p 0) e
      ∙ ap (λ m. told (m * get_or totals p 0)) same
      ∙ told_times (most_times given.default k.times) (get_or totals p 0) (sum (map of (concrete_below clafers p))) (ap told (are p lt) ∙ told_twice (sum (map of (concrete_below clafers p)))))

-- a sum goes on
pub sum_more : (xs : List ℕ) (i x total wide next : ℕ) → i < length xs → x ≡ get_or xs i 0 → total ≡ told (sum (take i xs)) → wide ≡ min (x + total) (2 ^ 64 - 1) → next ≡ told wide → next ≡ told (sum (take (i + 1) xs))
sum_more xs i x total wide next lt at before e same =
    let more : sum (take (i + 1) xs) ≡ sum (take i xs) + get_or xs i 0 = fold_more ◌+◌ 0 xs i 0 lt in
    same
    ∙ narrow_told wide (x + total) e
    ∙ told_sum x total (get_or xs i 0) (sum (take i xs)) (ap told at) (ap told before ∙ told_twice (sum (take i xs)))
    ∙ ap told (swapped (get_or xs i 0) (sum (take i xs)) ∙ sym more)
  where
    swapped : (a b : ℕ) → a + b ≡ b + a
    swapped a b = omega arith

pub one_of_few : (xs : List ℕ) (i : ℕ) → told (sum xs) ≤ 2048 → i < length xs → get_or xs i 0 < 2 ^ 32
one_of_few xs i few lt =
    let one : get_or xs i 0 ≤ sum xs = get_or-le-sum_by (λ x. x) xs i 0 lt in
    omega (arith, few, one)

pub over_past : (clafers : List Clafer) (given : Given) (of : ℕ → ℕ) (c : ℕ) → slice_get clafers c ≡ None → 0 ≡ told (scope_over clafers given of c)
over_past clafers given of c none = rw none refl

-- ---- a round, clafer by clafer

pub round_more : (f : ℕ → ℕ) (xs ys : List ℕ) (x i : ℕ) → ys ≡ xs ++ x ∷ [] → length xs ≡ i → ((c : ℕ) → c < i → get_or xs c 0 ≡ f c) → x ≡ f i → (c : ℕ) → c < i + 1 → get_or ys c 0 ≡ f c
round_more f xs ys x i e long before own c lt = ap (λ zs. get_or zs c 0) e ∙ at f xs x i c long before own lt
  where
    at : (f : ℕ → ℕ) (xs : List ℕ) (x i c : ℕ) → length xs ≡ i → ((d : ℕ) → d < i → get_or xs d 0 ≡ f d) → x ≡ f i → c < i + 1 → get_or (xs ++ x ∷ []) c 0 ≡ f c
    at f [] x i zero long before own lt = own ∙ ap f (sym long)
    at f [] x i (suc c) long before own lt = absurd (omega (arith, lt, long))
    at f (y ∷ xs) x i zero long before own lt = before 0 (omega (arith, long))
    at f (y ∷ xs) x i (suc c) long before own lt =
        let shorter : length xs ≡ i - 1 = omega (arith, long) in
        let whole : suc (i - 1) ≡ i = omega (arith, long) in
        at (λ d. f (suc d)) xs x (i - 1) c shorter (λ d small. before (suc d) (omega (arith, small, whole))) (own ∙ ap f (sym whole)) (omega (arith, lt, whole))

past_end : (xs : List ℕ) (c : ℕ) → length xs ≤ c → get_or xs c 0 ≡ 0
past_end [] c le = refl
past_end (x ∷ xs) zero le = absurd (omega (arith, le))
past_end (x ∷ xs) (suc c) le = past_end xs c (omega (arith, le))

pub nothing_past : (clafers : List Clafer) (c : ℕ) → length clafers ≤ c → slice_get clafers c ≡ None
nothing_past [] c le = refl
nothing_past (k ∷ clafers) zero le = absurd (omega (arith, le))
nothing_past (k ∷ clafers) (suc c) le = nothing_past clafers c (omega (arith, le))

pub whole_round : (clafers : List Clafer) (given : Given) (of : ℕ → ℕ) (xs : List ℕ) (n : ℕ) → length xs ≡ n → length clafers ≤ n → ((c : ℕ) → c < n → get_or xs c 0 ≡ told (scope_over clafers given of c))
    → (c : ℕ) → get_or xs c 0 ≡ told (scope_over clafers given of c)
whole_round clafers given of xs n long all below c =
    elim (leb_tells n c) [
      | inl le ↦ past_end xs c (omega (arith, le.1, long)) ∙ over_past clafers given of c (nothing_past clafers c (omega (arith, le.1, all)))
      | inr lt ↦ below c lt.1
    ]

pub long_more : (xs ys : List ℕ) (x i : ℕ) → ys ≡ xs ++ x ∷ [] → length xs ≡ i → length ys ≡ i + 1
long_more xs ys x i e long =
    let whole = length_push xs x in
    ap length e ∙ omega (arith, whole, long)
