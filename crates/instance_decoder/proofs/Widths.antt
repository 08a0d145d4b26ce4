-- The width of a range of integers of 64 bits.
use Rattle.std.proofs.Common.{◌≡◌, ℕ, zero, suc, ◌+◌, ◌^◌, ◌<◌, ◌≤◌, ◌&&◌, Bool, true, false, cond, Some, refl, ap, sym, ◌∙◌, arith, ◌≢◌, ◌⊎◌, inl, inr}
use Rattle.std.specs.Prelude.{◌==◌, ℤ, negsuc, pos, neg_ℤ, ◌≤ℤ◌, ◌<ℤ◌, int_le, int_lt}
use Rattle.integer_bits.specs.Numbers.{FitsBits}
use Rattle.std.specs.Option.{option_map_or}
use Rattle.std.specs.List.{find, range_with_len}
use mir.Syntax.{w64}
use mir.Val.{SFits}
use Rattle.std.proofs.lemmas.Int.{ints}
use Rattle.std.proofs.lemmas.Bool.{true≢false}
use Rattle.std.proofs.lemmas.Bool.Decides.{eqb_tells}
use Rattle.clf_tree.specs.declared.bounds.Bounds.{Bounds}
use Rattle.clf_tree.specs.Widths.{width, is_held}
use Rattle.shown_instance.proofs.Widths.{width_between}

found_within : (p : ℕ → Bool) (a k m d : ℕ) → a ≤ m → m < a + k → p m ≡ true → option_map_or (λ x. x) (find p (range_with_len a k)) d ≤ m
found_within p a zero m d low high pass = absurd (omega (arith, low, high))
found_within p a (suc k) m d low high pass = by (p a) refl (found_within p (a + 1) k m d)
  where
    later : a ≤ m → p a ≡ false → a + 1 ≤ m
    later l f = at (eqb_tells a m)
      where
        at : ((a == m) ≡ true × a ≡ m) ⊎ ((a == m) ≡ false × a ≢ m) → a + 1 ≤ m
        at (inl s) = absurd (true≢false (sym pass ∙ ap p (sym s.1) ∙ f))
        at (inr s) = omega (arith, l, s.1)

    by : (b : Bool) → p a ≡ b → (a + 1 ≤ m → m < (a + 1) + k → p m ≡ true → option_map_or (λ x. x) (find p (range_with_len (a + 1) k)) d ≤ m) → option_map_or (λ x. x) (cond (p a) (Some a) (find p (range_with_len (a + 1) k))) d ≤ m
    by true e rest = rw e low
    by false e rest = rw e (rest (later low e) (omega (arith, high)) pass)

pub width_fits : (b : Bounds) → neg_ℤ (pos (2 ^ 63)) ≤ℤ b.low → b.high <ℤ pos (2 ^ 63) → width b ≤ 64
unfolding width
width_fits b low high = found_within (is_held b) 1 126 64 127 (omega arith) (omega arith) held
  where
    below : (a b : ℤ) → a ≤ℤ b → int_le a b ≡ true
    below a b h = grind (arith, ints)

    above : (a b : ℤ) → a <ℤ b → int_lt a b ≡ true
    above a b h = grind (arith, ints)

    held : (int_le (neg_ℤ (pos (2 ^ 63))) b.low && int_lt b.high (pos (2 ^ 63))) ≡ true
    held = ap (λ c. c && int_lt b.high (pos (2 ^ 63))) (below (neg_ℤ (pos (2 ^ 63))) b.low low) ∙ above b.high (pos (2 ^ 63)) high

pub fits_bounds : (z : ℤ) → SFits w64 z → (neg_ℤ (pos (2 ^ 63)) ≤ℤ z) × (z <ℤ pos (2 ^ 63))
fits_bounds (pos n) f = (omega (arith, ints), omega (arith, ints, f.sfits))
fits_bounds (negsuc n) f = (omega (arith, ints, f.sfits), omega (arith, ints))

pub width_holds : (low high : ℤ) → SFits w64 low → SFits w64 high → (0 < width (record { low = low; high = high })) × ((z : ℤ) → low ≤ℤ z → z ≤ℤ high → FitsBits (width (record { low = low; high = high })) z)
width_holds low high f g = width_between low high (fits_bounds low f).0 (fits_bounds high g).1
