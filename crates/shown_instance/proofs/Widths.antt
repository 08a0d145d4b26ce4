-- Integers of a range of 64 bits have a spelling of the range's width.
use Rattle.std.proofs.Common.{◌≡◌, ℕ, zero, suc, ◌+◌, ◌-◌, ◌^◌, ◌<◌, ◌≤◌, ◌&&◌, Bool, true, false, cond, Some, refl, ap, sym, ◌∙◌, arith, ◌≢◌, ◌⊎◌, inl, inr}
use Rattle.std.specs.Prelude.{◌==◌, ℤ, pos, neg_ℤ, ◌+ℤ◌, ◌≤ℤ◌, ◌<ℤ◌, int_le, int_lt}
use Rattle.std.specs.Option.{option_map_or}
use Rattle.std.specs.List.{find, range_with_len}
use Rattle.std.proofs.lemmas.Int.{ints}
use Rattle.std.proofs.lemmas.Bool.{true≢false}
use Rattle.std.proofs.lemmas.Bool.Decides.{eqb_tells}
use Rattle.clf_tree.specs.declared.bounds.Bounds.{Bounds}
use Rattle.clf_tree.specs.Widths.{width, is_held}
use Rattle.integer_bits.specs.Numbers.{FitsBits}

-- the width that is found holds both ends, and is no less than the first that is tried
found_passes : (p : ℕ → Bool) (a k m d : ℕ) → a ≤ m → m < a + k → p m ≡ true → (p (option_map_or (λ x. x) (find p (range_with_len a k)) d) ≡ true) × (a ≤ option_map_or (λ x. x) (find p (range_with_len a k)) d)
found_passes p a zero m d low high pass = absurd (omega (arith, low, high))
found_passes p a (suc k) m d low high pass = by (p a) refl (found_passes p (a + 1) k m d)
  where
    later : a ≤ m → p a ≡ false → a + 1 ≤ m
    later l f = at (eqb_tells a m)
      where
        at : ((a == m) ≡ true × a ≡ m) ⊎ ((a == m) ≡ false × a ≢ m) → a + 1 ≤ m
        at (inl s) = absurd (true≢false (sym pass ∙ ap p (sym s.1) ∙ f))
        at (inr s) = omega (arith, l, s.1)

    Goal : ℕ → Type 0
    Goal n = (p n ≡ true) × (a ≤ n)

    by : (b : Bool) → p a ≡ b
        → (a + 1 ≤ m → m < (a + 1) + k → p m ≡ true → (p (option_map_or (λ x. x) (find p (range_with_len (a + 1) k)) d) ≡ true) × (a + 1 ≤ option_map_or (λ x. x) (find p (range_with_len (a + 1) k)) d))
        → (p (option_map_or (λ x. x) (cond (p a) (Some a) (find p (range_with_len (a + 1) k))) d) ≡ true) × (a ≤ option_map_or (λ x. x) (cond (p a) (Some a) (find p (range_with_len (a + 1) k))) d)
    by true e rest = rw e (e, omega arith)
    by false e rest = let r = rest (later low e) (omega (arith, high)) pass in rw e (r.0, omega (arith, r.1))

holds_between : (h : ℕ) (low high z : ℤ) → (int_le (neg_ℤ (pos h)) low && int_lt high (pos h)) ≡ true → low ≤ℤ z → z ≤ℤ high → (pos 0 ≤ℤ (z +ℤ pos h)) × (z <ℤ pos h)
holds_between h low high z held l g = by (int_le (neg_ℤ (pos h)) low) refl (int_lt high (pos h)) refl
  where
    low_of : int_le (neg_ℤ (pos h)) low ≡ true → neg_ℤ (pos h) ≤ℤ low
    low_of e = grind (arith, ints)

    high_of : int_lt high (pos h) ≡ true → high <ℤ pos h
    high_of e = grind (arith, ints)

    by : (a : Bool) → int_le (neg_ℤ (pos h)) low ≡ a → (b : Bool) → int_lt high (pos h) ≡ b → (pos 0 ≤ℤ (z +ℤ pos h)) × (z <ℤ pos h)
    by true e true f = (omega (arith, ints, low_of e, l), omega (arith, ints, high_of f, g))
    by true e false f = absurd (true≢false (sym held ∙ ap (λ c. c && int_lt high (pos h)) e ∙ f))
    by false e b f = absurd (true≢false (sym held ∙ ap (λ c. c && int_lt high (pos h)) e))

pub width_between : (low high : ℤ) → neg_ℤ (pos (2 ^ 63)) ≤ℤ low → high <ℤ pos (2 ^ 63) → (0 < width (record { low = low; high = high })) × ((z : ℤ) → low ≤ℤ z → z ≤ℤ high → FitsBits (width (record { low = low; high = high })) z)
unfolding width
width_between low high f g = (omega (arith, found.1), λ z l h. let w = holds_between (2 ^ (width b - 1)) low high z found.0 l h in record { low = w.0; high = w.1 })
  where
    b : Bounds
    b = record { low = low; high = high }

    below : (x y : ℤ) → x ≤ℤ y → int_le x y ≡ true
    below x y h = grind (arith, ints)

    above : (x y : ℤ) → x <ℤ y → int_lt x y ≡ true
    above x y h = grind (arith, ints)

    held : is_held b 64 ≡ true
    held = ap (λ c. c && int_lt high (pos (2 ^ 63))) (below (neg_ℤ (pos (2 ^ 63))) low f) ∙ above high (pos (2 ^ 63)) g

    found : (is_held b (width b) ≡ true) × (1 ≤ width b)
    found = found_passes (is_held b) 1 126 64 127 (omega arith) (omega arith) held
