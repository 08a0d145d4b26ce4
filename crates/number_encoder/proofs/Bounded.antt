-- How many bits counts and sums need.
use Rattle.std.proofs.Common.{◌≡◌, ℕ, suc, ◌+◌, ◌-◌, ◌*◌, ◌^◌, ◌<◌, ◌≤◌, Bool, true, false, cond, List, [], ◌∷◌, length, min, sym, ap, ◌∙◌, subst, arith, ℤ, ◌⊎◌, inl, inr}
use Rattle.std.specs.Prelude.{pos, ◌+ℤ◌, ◌≤ℤ◌, ◌<ℤ◌}
use Rattle.std.specs.List.{All}
use Rattle.std.proofs.Math.Nat.{min-eq_left, min-eq_right, mul-le-mul_right, mul_comm}
use Rattle.std.proofs.lemmas.Int.{ints}
use Rattle.std.proofs.lemmas.Bool.{cases_lt}
use Rattle.std.proofs.lemmas.Nat.{pow-add, pow_pos}
use Rattle.std.proofs.lemmas.List.Elements.{All-head, All-tail}
use Rattle.bool_circuit.specs.declared.gate.Gate.{Gate}
use Rattle.bool_circuit.specs.Circuit.{wire_value, wire_values}
use Rattle.integer_bits.specs.declared.totals.Part.{Part}
use Rattle.integer_bits.specs.Numbers.{integer_at, FitsBits, cut}
use Rattle.integer_bits.specs.Totals.{IsPartOf, ArePartsOf, sum_of_parts, where_true}
use Rattle.integer_bits.proofs.Congruent.{integer_fits}
use Rattle.integer_bits.proofs.Resizing.{fits_wider, length_values}
use Rattle.integer_bits.proofs.Cutting.{cut_of_fitting, cut_of_wider}
use Rattle.clf_tree.specs.CoreWeights.{binary_digits}
use Rattle.number_encoder.proofs.Digits.{digits_hold}

-- what fits on v bits is cut the same to v bits or to the width, whichever is less
pub cut_to_least : (width v : ℕ) (z : ℤ) → 0 < width → 0 < v → FitsBits v z → cut (min width v) z ≡ cut width z
cut_to_least width v z some vs f = by (cases_lt width v)
  where
    by : (width < v) ⊎ (v ≤ width) → cut (min width v) z ≡ cut width z
    by (inl l) = ap (λ n. cut n z) (min-eq_left (omega (arith, l)))
    by (inr l) = ap (λ n. cut n z) (min-eq_right l) ∙ cut_of_fitting v z vs f ∙ sym (cut_of_wider v width z vs l f)

pub count_fits : (c n : ℕ) → c ≤ n → FitsBits (binary_digits n + 1) (pos c)
count_fits c n h =
    let d = digits_hold n in
    let e : binary_digits n + 1 - 1 ≡ binary_digits n = omega arith in
    record { low = low (2 ^ (binary_digits n + 1 - 1)); high = high (2 ^ (binary_digits n + 1 - 1)) (subst (λ k. c < 2 ^ k) (sym e) (omega (arith, d, h))) }
  where
    low : (m : ℕ) → pos 0 ≤ℤ (pos c +ℤ pos m)
    low m = omega (arith, ints)

    high : (m : ℕ) → c < m → pos c <ℤ pos m
    high m l = omega (arith, ints, l)

-- sums of integers between -m and m
record IsBetween (m : ℕ) (z : ℤ) : Type 0 where
  low : pos 0 ≤ℤ (z +ℤ pos m)
  high : z ≤ℤ pos m

sum_between : (m k : ℕ) (y z : ℤ) → IsBetween m y → IsBetween (k * m) z → IsBetween (suc k * m) (y +ℤ z)
sum_between m k y z a b =
    let e : suc k * m ≡ k * m + m = omega arith in
    subst (λ n. IsBetween n (y +ℤ z)) (sym e) (both (k * m) b.low b.high)
  where
    both : (n : ℕ) → pos 0 ≤ℤ (z +ℤ pos n) → z ≤ℤ pos n → IsBetween (n + m) (y +ℤ z)
    both n l h = let p = a.low in let q = a.high in record { low = omega (arith, ints, p, l); high = omega (arith, ints, q, h) }

part_between : (gates : List Gate) (p : Part) (bits : List Bool) (r : ℕ) → IsPartOf gates p → length p.bits ≤ r → IsBetween (2 ^ (r - 1)) (where_true (wire_value gates p.here bits) (integer_at gates p.bits bits))
part_between gates p bits r h l = by (wire_value gates p.here bits)
  where
    fits : FitsBits r (integer_at gates p.bits bits)
    fits = let len = length_values gates p.bits bits in
        fits_wider (length p.bits) r (integer_at gates p.bits bits) l (subst (λ n. FitsBits n (integer_at gates p.bits bits)) len (integer_fits (wire_values gates p.bits bits) (subst (λ n. 0 < n) (sym len) h.some)))

    zero_between : (m : ℕ) → IsBetween m (pos 0)
    zero_between m = record { low = omega (arith, ints); high = omega (arith, ints) }

    wide : (m : ℕ) (z : ℤ) → pos 0 ≤ℤ (z +ℤ pos m) → z <ℤ pos m → IsBetween m z
    wide m z a b = record { low = a; high = omega (arith, ints, b) }

    by : (b : Bool) → IsBetween (2 ^ (r - 1)) (cond b (integer_at gates p.bits bits) (pos 0))
    by true = wide (2 ^ (r - 1)) (integer_at gates p.bits bits) fits.low fits.high
    by false = zero_between (2 ^ (r - 1))

parts_between : (gates : List Gate) (ps : List Part) (bits : List Bool) (r : ℕ) → ArePartsOf gates ps → All (λ p. length p.bits ≤ r) ps → IsBetween (length ps * 2 ^ (r - 1)) (sum_of_parts gates ps bits)
parts_between gates [] bits r h l = nothing (0 * 2 ^ (r - 1))
  where
    nothing : (m : ℕ) → IsBetween m (pos 0)
    nothing m = record { low = omega (arith, ints); high = omega (arith, ints) }
parts_between gates (p ∷ ps) bits r h l =
    sum_between (2 ^ (r - 1)) (length ps) (where_true (wire_value gates p.here bits) (integer_at gates p.bits bits)) (sum_of_parts gates ps bits)
    (part_between gates p bits r (All-head (IsPartOf gates) p ps h) (All-head (λ (q : Part). length q.bits ≤ r) p ps l))
    (parts_between gates ps bits r (All-tail (IsPartOf gates) p ps h) (All-tail (λ (q : Part). length q.bits ≤ r) p ps l))

-- n integers of r bits, or fewer, make one of r + bits(n) bits
pub sum_fits : (gates : List Gate) (ps : List Part) (bits : List Bool) (r n : ℕ) → 0 < r → length ps ≤ n → ArePartsOf gates ps → All (λ p. length p.bits ≤ r) ps → FitsBits (r + binary_digits n) (sum_of_parts gates ps bits)
sum_fits gates ps bits r n some few h l =
    let b = parts_between gates ps bits r h l in
    let d = digits_hold n in
    let e : r + binary_digits n - 1 ≡ (r - 1) + binary_digits n = omega (arith, some) in
    let f : 2 ^ (r + binary_digits n - 1) ≡ 2 ^ (r - 1) * 2 ^ binary_digits n = ap (λ k. 2 ^ k) e ∙ pow-add 2 (r - 1) (binary_digits n) in
    let g : (length ps + 1) * 2 ^ (r - 1) ≤ 2 ^ binary_digits n * 2 ^ (r - 1) = mul-le-mul_right (2 ^ (r - 1)) (omega (arith, d, few)) in
    let w = within (length ps) (2 ^ (r - 1)) (2 ^ binary_digits n) (2 ^ (r + binary_digits n - 1)) (sum_of_parts gates ps bits) (pow_pos (r - 1)) f g b.low b.high in
    record { low = w.0; high = w.1 }
  where
    lower : (x w : ℕ) (z : ℤ) → x < w → pos 0 ≤ℤ (z +ℤ pos x) → pos 0 ≤ℤ (z +ℤ pos w)
    lower x w z v a = omega (arith, ints, v, a)

    upper : (x w : ℕ) (z : ℤ) → x < w → z ≤ℤ pos x → z <ℤ pos w
    upper x w z v a = omega (arith, ints, v, a)

    within : (k m q w : ℕ) (z : ℤ) → 0 < m → w ≡ m * q → (k + 1) * m ≤ q * m → pos 0 ≤ℤ (z +ℤ pos (k * m)) → z ≤ℤ pos (k * m) → (pos 0 ≤ℤ (z +ℤ pos w)) × (z <ℤ pos w)
    within k m q w z ms e g a b =
        let t : (k + 1) * m ≡ k * m + m = omega arith in
        let u : m * q ≡ q * m = mul_comm m q in
        let v : k * m < w = omega (arith, ms, e, g, t, u) in
        (lower (k * m) w z v a, upper (k * m) w z v b)
