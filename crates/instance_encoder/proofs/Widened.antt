-- How many bits the integers of the range and its ends need.
use Rattle.std.proofs.Common.{◌≡◌, ℕ, zero, suc, ◌+◌, ◌-◌, ◌^◌, ◌<◌, ◌≤◌, Bool, true, false, cond, ◌&&◌, Some, refl, sym, ap, ◌∙◌, arith, ℤ, pos}
use Rattle.std.specs.Prelude.{neg_ℤ, int_le, int_lt, IsTrue}
use Rattle.std.specs.Option.{option_map_or}
use Rattle.std.specs.List.{find, range_with_len}
use Rattle.std.proofs.lemmas.Int.{ints, clamps}
use Rattle.std.proofs.lemmas.Bool.{true≢false}
use Rattle.std.proofs.Math.Nat.{pow-le-pow_right}
use Rattle.clf_tree.specs.declared.bounds.Bounds.{Bounds}
use Rattle.clf_tree.specs.declared.scopes.Scopes.{Scopes}
use Rattle.clf_tree.specs.Widths.{width, is_held}
use Rattle.clf_tree.specs.Intervals.{clamped, between}
use Rattle.clf_tree.specs.CoreWeights.{range_width}
use Rattle.set_bits.specs.Fitting.{value_width}
use Rattle.shape_encoder.specs.Reading.{own_width}

abbrev first_of : (ℕ → Bool) → ℕ → ℕ → ℕ → ℕ
first_of p a n d = option_map_or (λ k. k) (find p (range_with_len a n)) d

find_same : (p q : ℕ → Bool) (a n : ℕ) → ((i : ℕ) → a ≤ i → i < a + n → p i ≡ q i) → find p (range_with_len a n) ≡ find q (range_with_len a n)
find_same p q a zero h = refl
find_same p q a (suc n) h =
    ap (λ b. cond b (Some a) (find p (range_with_len (a + 1) n))) (h a (omega arith) (omega arith))
    ∙ ap (cond (q a) (Some a)) (find_same p q (a + 1) n (λ i l m. h i (omega (arith, l)) (omega (arith, m))))

found_from : (p : ℕ → Bool) (a n d : ℕ) → a ≤ d → a + n ≤ d → a ≤ first_of p a n d
found_from p a zero d h l = h
found_from p a (suc n) d h l = by (p a) (found_from p (a + 1) n d (omega (arith, l)) (omega (arith, l)))
  where
    by : (b : Bool) → a + 1 ≤ first_of p (a + 1) n d → a ≤ option_map_or (λ k. k) (cond b (Some a) (find p (range_with_len (a + 1) n))) d
    by true rest = omega arith
    by false rest = omega (arith, rest)

-- what passes more often is found sooner
found_sooner : (p q : ℕ → Bool) (a n d : ℕ) → ((i : ℕ) → q i ≡ true → p i ≡ true) → a ≤ d → a + n ≤ d → first_of p a n d ≤ first_of q a n d
found_sooner p q a zero d h k l = omega arith
found_sooner p q a (suc n) d h k l = by (p a) refl (q a) refl (found_sooner p q (a + 1) n d h (omega (arith, l)) (omega (arith, l)))
  where
    by : (b : Bool) → p a ≡ b → (c : Bool) → q a ≡ c → first_of p (a + 1) n d ≤ first_of q (a + 1) n d
        → option_map_or (λ k. k) (cond b (Some a) (find p (range_with_len (a + 1) n))) d ≤ option_map_or (λ k. k) (cond c (Some a) (find q (range_with_len (a + 1) n))) d
    by true e true f rest = omega arith
    by true e false f rest = let late = found_from q (a + 1) n d (omega (arith, l)) (omega (arith, l)) in omega (arith, late)
    by false e true f rest = absurd (true≢false (sym (h a f) ∙ e))
    by false e false f rest = rest

-- ---- the range

low_same : (x : ℕ) (z : ℤ) → x ≤ 2 ^ 125 → int_le (neg_ℤ (pos x)) (clamped z) ≡ int_le (neg_ℤ (pos x)) z
low_same x z h = grind (arith, ints, clamps)

high_same : (x : ℕ) (z : ℤ) → x ≤ 2 ^ 125 → int_lt (clamped z) (pos x) ≡ int_lt z (pos x)
high_same x z h = grind (arith, ints, clamps)

held_same : (low high : ℤ) (m : ℕ) → m < 127 → is_held (between low high) m ≡ is_held (record { low = low; high = high }) m
held_same low high m h =
    let few : 2 ^ (m - 1) ≤ 2 ^ 125 = pow-le-pow_right {n = 2} (omega arith) {i = m - 1} {j = 125} (omega (arith, h)) in
    ap (λ b. b && int_lt (clamped high) (pos (2 ^ (m - 1)))) (low_same (2 ^ (m - 1)) low few) ∙ ap (λ b. int_le (neg_ℤ (pos (2 ^ (m - 1)))) low && b) (high_same (2 ^ (m - 1)) high few)

pub range_same : (scopes : Scopes) → range_width scopes ≡ value_width scopes
unfolding width
range_same scopes =
    ap (λ o. option_map_or (λ bits. bits) o 127)
    (find_same (is_held (between scopes.low scopes.high)) (is_held (record { low = scopes.low; high = scopes.high })) 1 126 (λ i l m. held_same scopes.low scopes.high i (omega (arith, m))))

-- ---- its ends

width_less : (b c : Bounds) → ((m : ℕ) → is_held c m ≡ true → is_held b m ≡ true) → width b ≤ width c
unfolding width
width_less b c h = found_sooner (is_held b) (is_held c) 1 126 127 h (omega arith) (omega arith)

low_held : (x y low high : ℤ) → int_le low high ≡ true → (int_le x low && int_lt high y) ≡ true → (int_le x low && int_lt low y) ≡ true
low_held x y low high r h = grind (arith, ints)

high_held : (x y low high : ℤ) → int_le low high ≡ true → (int_le x low && int_lt high y) ≡ true → (int_le x high && int_lt high y) ≡ true
high_held x y low high r h = grind (arith, ints)

pub low_width : (scopes : Scopes) → IsTrue (int_le scopes.low scopes.high) → own_width scopes.low ≤ value_width scopes
low_width scopes r =
    width_less (record { low = scopes.low; high = scopes.low }) (record { low = scopes.low; high = scopes.high })
    (λ m h. low_held (neg_ℤ (pos (2 ^ (m - 1)))) (pos (2 ^ (m - 1))) scopes.low scopes.high r h)

pub high_width : (scopes : Scopes) → IsTrue (int_le scopes.low scopes.high) → own_width scopes.high ≤ value_width scopes
high_width scopes r =
    width_less (record { low = scopes.high; high = scopes.high }) (record { low = scopes.low; high = scopes.high })
    (λ m h. high_held (neg_ℤ (pos (2 ^ (m - 1)))) (pos (2 ^ (m - 1))) scopes.low scopes.high r h)

pub some_width : (scopes : Scopes) → 1 ≤ value_width scopes
unfolding width
some_width scopes = found_from (is_held (record { low = scopes.low; high = scopes.high })) 1 126 127 (omega arith) (omega arith)
