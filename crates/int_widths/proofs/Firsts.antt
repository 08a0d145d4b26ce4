-- The first number of a range that passes.
use Rattle.std.proofs.Common.{◌≡◌, ℕ, zero, suc, ◌+◌, ◌-◌, ◌*◌, ◌%◌, ◌^◌, ◌<◌, ◌≤◌, Bool, true, false, cond, Some, None, refl, ap, sym, subst, ◌∙◌, arith, pos, to_z, ◌≢◌, ◌⊎◌, inl, inr}
use mir.Syntax.{w128}
use Rattle.std.specs.Option.{option_map_or}
use Rattle.std.specs.List.{find, range_with_len}
use Rattle.std.proofs.lemmas.Int.{ints}
use Rattle.std.specs.Prelude.{eqb}
use Rattle.std.proofs.lemmas.Bool.Decides.{eqb_tells}
use Rattle.std.proofs.Math.Nat.{pow-le-pow_right}
use Rattle.clf_tree.specs.declared.bounds.Bounds.{Bounds}
use Rattle.clf_tree.specs.Widths.{width, is_held}

find_more : (p : ℕ → Bool) (a k : ℕ) → p a ≡ false → find p (range_with_len a (suc k)) ≡ find p (range_with_len (a + 1) k)
find_more p a k e = ap (λ b. cond b (Some a) (find p (range_with_len (a + 1) k))) e

find_here : (p : ℕ → Bool) (a k : ℕ) → p a ≡ true → find p (range_with_len a (suc k)) ≡ Some a
find_here p a k e = ap (λ b. cond b (Some a) (find p (range_with_len (a + 1) k))) e

-- d steps on, the first that passes
find_first : (p : ℕ → Bool) (d a k : ℕ) → ((n : ℕ) → a ≤ n → n < a + d → p n ≡ false) → p (a + d) ≡ true → find p (range_with_len a (suc (d + k))) ≡ Some (a + d)
find_first p zero a k none pass = find_here p a (zero + k) (subst (λ z. p z ≡ true) (omega arith) pass) ∙ ap (λ z. Some z) (omega arith)
find_first p (suc d) a k none pass =
    let step : suc d + k ≡ suc (d + k) = omega arith in
    find_more p a (suc d + k) (none a (omega arith) (omega arith)) ∙ ap (λ z. find p (range_with_len (a + 1) z)) step
    ∙ find_first p d (a + 1) k (λ n h l. none n (omega (arith, h)) (omega (arith, l))) (subst (λ z. p z ≡ true) (omega arith) pass) ∙ ap (λ z. Some z) (omega arith)

find_none : (p : ℕ → Bool) (k a : ℕ) → ((n : ℕ) → a ≤ n → n < a + k → p n ≡ false) → find p (range_with_len a k) ≡ None
find_none p zero a none = refl
find_none p (suc k) a none = find_more p a k (none a (omega arith) (omega arith)) ∙ find_none p k (a + 1) (λ n h l. none n (omega (arith, h)) (omega (arith, l)))

pub width_found : (b : Bounds) (n : ℕ) → 1 ≤ n → n < 127 → ((m : ℕ) → 1 ≤ m → m < n → is_held b m ≡ false) → is_held b n ≡ true → n ≡ width b
unfolding width
width_found b n low high none pass =
    let whole : suc (n - 1 + (126 - n)) ≡ 126 = omega (arith, low, high) in
    let here : 1 + (n - 1) ≡ n = omega (arith, low) in
    let first : find (is_held b) (range_with_len 1 (suc (n - 1 + (126 - n)))) ≡ Some (1 + (n - 1)) =
    find_first (is_held b) (n - 1) 1 (126 - n) (λ m h l. none m h (omega (arith, l, low))) (subst (λ z. is_held b z ≡ true) (sym here) pass) in
    sym (ap (λ o. option_map_or (λ bits. bits) o 127) (ap (λ k. find (is_held b) (range_with_len 1 k)) (sym whole) ∙ first ∙ ap (λ z. Some z) here))

pub width_most : (b : Bounds) → ((m : ℕ) → 1 ≤ m → m < 127 → is_held b m ≡ false) → 127 ≡ width b
unfolding width
width_most b none = sym (ap (λ o. option_map_or (λ bits. bits) o 127) (find_none (is_held b) 126 1 none))

pub none_more : (p : ℕ → Bool) (n : ℕ) → ((m : ℕ) → 1 ≤ m → m < n → p m ≡ false) → p n ≡ false → (m : ℕ) → 1 ≤ m → m < n + 1 → p m ≡ false
none_more p n none here m low high = at (eqb_tells m n)
  where
    at : ((eqb m n ≡ true) × (m ≡ n)) ⊎ ((eqb m n ≡ false) × (m ≢ n)) → p m ≡ false
    at (inl h) = ap p h.1 ∙ here
    at (inr h) = none m low (omega (arith, high, h.1))

pub power_is : (e : ℕ) → e ≤ 126 → to_z w128 (1 * 2 ^ e % 340282366920938463463374607431768211456) ≡ pos (2 ^ e)
power_is e h = at (2 ^ e) (pow-le-pow_right {n = 2} (omega arith) {i = e} {j = 126} h)
  where
    at : (m : ℕ) → m ≤ 2 ^ 126 → to_z w128 (1 * m % 340282366920938463463374607431768211456) ≡ pos m
    at m k = omega (arith, ints)
