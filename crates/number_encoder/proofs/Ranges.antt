-- The range of integers as an interval, and its bits.
use Rattle.std.proofs.Common.{◌≡◌, ℕ, zero, suc, ◌+◌, ◌-◌, ◌*◌, ◌%◌, ◌^◌, ◌<◌, ◌≤◌, Bool, true, false, cond, ◌&&◌, Some, refl, ap, ◌∙◌, arith, ℤ}
use Rattle.std.specs.Prelude.{pos, neg_ℤ, int_le, int_lt}
use Rattle.std.specs.Option.{option_map_or}
use Rattle.std.specs.List.{find, range_with_len}
use Rattle.std.proofs.Math.Nat.{pow-le-pow_right}
use Rattle.std.proofs.lemmas.Int.{ints, clamps, to_z-of_z}
use mir.Syntax.{w64, w128}
use mir.Val.{SFits, of_z, to_z}
use Rattle.clf_tree.specs.declared.bounds.Bounds.{Bounds}
use Rattle.clf_tree.specs.declared.scopes.Scopes.{Scopes}
use Rattle.clf_tree.specs.Widths.{width, is_held}
use Rattle.clf_tree.specs.CoreWeights.{range_width}
use Rattle.set_bits.specs.Fitting.{value_width}
use Rattle.clf_tree.specs.Intervals.{clamped, between}

abbrev bounds-of : ℤ → ℤ → Bounds
bounds-of low high = record { low = low; high = high }

widened : (a : ℤ) → SFits w64 a → to_z w128 (of_z w128 (to_z w64 (of_z w64 a))) ≡ a
widened a f = ap (λ z. to_z w128 (of_z w128 z)) (to_z-of_z w64 a f) ∙ to_z-of_z w128 a wide
  where
    wide : SFits w128 a
    wide = omega (arith, ints, f)

unclamped : (a : ℤ) → SFits w64 a → a ≡ clamped a
unclamped a f = omega (arith, ints, clamps, f)

both-ends : (p q x y : ℤ) → p ≡ x → q ≡ y → bounds-of p q ≡ bounds-of x y
both-ends p q x y e f = ap (λ z. bounds-of z q) e ∙ ap (bounds-of x) f

pub range_is : (low high : ℤ) → SFits w64 low → SFits w64 high
    → width (record { low = to_z w128 (of_z w128 (to_z w64 (of_z w64 low))); high = to_z w128 (of_z w128 (to_z w64 (of_z w64 high))) }) ≡ width (between low high)
range_is low high f g =
    ap width (both-ends (to_z w128 (of_z w128 (to_z w64 (of_z w64 low)))) (to_z w128 (of_z w128 (to_z w64 (of_z w64 high)))) (clamped low) (clamped high) (widened low f ∙ unclamped low f) (widened high g ∙ unclamped high g))

-- ---- an interval has a bit at least

found-some : (p : ℕ → Bool) (a k : ℕ) → 0 < a → 0 < option_map_or (λ n. n) (find p (range_with_len a k)) 127
found-some p a zero h = omega arith
found-some p a (suc k) h = by (p a) (found-some p (a + 1) k (omega arith))
  where
    by : (b : Bool) → 0 < option_map_or (λ n. n) (find p (range_with_len (a + 1) k)) 127 → 0 < option_map_or (λ n. n) (cond b (Some a) (find p (range_with_len (a + 1) k))) 127
    by true rest = h
    by false rest = rest

found-few : (p : ℕ → Bool) (a k : ℕ) → a + k ≤ 127 → option_map_or (λ n. n) (find p (range_with_len a k)) 127 ≤ 127
found-few p a zero h = omega arith
found-few p a (suc k) h = by (p a) (found-few p (a + 1) k (omega (arith, h)))
  where
    by : (b : Bool) → option_map_or (λ n. n) (find p (range_with_len (a + 1) k)) 127 ≤ 127 → option_map_or (λ n. n) (cond b (Some a) (find p (range_with_len (a + 1) k))) 127 ≤ 127
    by true rest = omega (arith, h)
    by false rest = rest

pub range_few : (scopes : Scopes) → range_width scopes ≤ 127
unfolding width
range_few scopes = found-few (is_held (between scopes.low scopes.high)) 1 126 (omega arith)

pub width_some : (b : Bounds) → 0 < width b
unfolding width
width_some b = found-some (is_held b) 1 126 (omega arith)

pub range_some : (scopes : Scopes) → 0 < range_width scopes
range_some scopes = width_some (between scopes.low scopes.high)

-- ---- clamped ends need as many bits

find-same : (p q : ℕ → Bool) (a k : ℕ) → ((n : ℕ) → n < a + k → p n ≡ q n) → find p (range_with_len a k) ≡ find q (range_with_len a k)
find-same p q a zero h = refl
find-same p q a (suc k) h =
    ap (λ b. cond b (Some a) (find p (range_with_len (a + 1) k))) (h a (omega arith))
    ∙ ap (λ o. cond (q a) (Some a) o) (find-same p q (a + 1) k (λ n l. h n (omega (arith, l))))

low-same : (z : ℤ) (m : ℕ) → m ≤ 2 ^ 125 → int_le (neg_ℤ (pos m)) z ≡ int_le (neg_ℤ (pos m)) (clamped z)
low-same z m h = grind (arith, ints, clamps)

high-same : (z : ℤ) (m : ℕ) → m ≤ 2 ^ 125 → int_lt z (pos m) ≡ int_lt (clamped z) (pos m)
high-same z m h = grind (arith, ints, clamps)

pub width_same : (scopes : Scopes) → value_width scopes ≡ range_width scopes
unfolding width
width_same scopes =
    ap (λ o. option_map_or (λ n. n) o 127)
    (find-same (is_held (bounds-of scopes.low scopes.high)) (is_held (between scopes.low scopes.high)) 1 126
    (λ n l. let p : 2 ^ (n - 1) ≤ 2 ^ 125 = pow-le-pow_right {n = 2} (omega arith) {i = n - 1} {j = 125} (omega (arith, l)) in
    ap (λ b. b && int_lt scopes.high (pos (2 ^ (n - 1)))) (low-same scopes.low (2 ^ (n - 1)) p) ∙ ap (λ b. int_le (neg_ℤ (pos (2 ^ (n - 1)))) (clamped scopes.low) && b) (high-same scopes.high (2 ^ (n - 1)) p)))

-- ---- powers of two

pub power_is : (e : ℕ) → e ≤ 126 → to_z w128 (1 * 2 ^ e % 340282366920938463463374607431768211456) ≡ pos (2 ^ e)
power_is e h = at (2 ^ e) (pow-le-pow_right {n = 2} (omega arith) {i = e} {j = 126} h)
  where
    at : (m : ℕ) → m ≤ 2 ^ 126 → to_z w128 (1 * m % 340282366920938463463374607431768211456) ≡ pos m
    at m k = omega (arith, ints)
