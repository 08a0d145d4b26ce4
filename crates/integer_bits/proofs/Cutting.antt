-- What so many bits keep of an integer.
use Rattle.std.proofs.Common.{◌≡◌, ℕ, suc, zero, ◌+◌, ◌-◌, ◌*◌, ◌/◌, ◌%◌, ◌^◌, ◌<◌, ◌≤◌, Bool, true, false, List, length, refl, sym, ap, ◌∙◌, subst, arith}
use Rattle.std.specs.Prelude.{ℤ, pos, negsuc, ◌+ℤ◌, ◌*ℤ◌, nat_eq}
use Rattle.std.proofs.lemmas.Int.{ints}
use Rattle.std.proofs.lemmas.Nat.{pow-add}
use Rattle.std.proofs.lemmas.Bool.{eqb-true}
use Rattle.std.proofs.lemmas.Bool.Decides.{nat_tests}
use Rattle.bool_circuit.specs.declared.gate.Wire.{Wire}
use Rattle.bool_circuit.specs.declared.gate.Gate.{Gate}
use Rattle.integer_bits.proofs.Congruent.{congruent_fits, congruent_trans, congruent_sym, integer_fits, length-resized}
use Rattle.integer_bits.proofs.Resizing.{fits_wider, integer_of_resized_wires, resized_integer}
use Rattle.integer_bits.proofs.Spelling.{spelled_congruent}
use Rattle.integer_bits.proofs.Widening.{integer_at_fits}
use Rattle.integer_bits.specs.Numbers.{bit, integer_of, integer_at, is_odd, half_of, spelled, cut, FitsBits, IsCongruent, StandsFor, resized}
use Rattle.integer_bits.specs.Steps.{spelled_onto}

-- ---- an integer from its lowest bit and its half

odd_split : (n : ℕ) → n ≡ bit (nat_eq (n % 2) 1) + 2 * (n / 2)
odd_split n = by (nat_eq (n % 2) 1) refl
  where
    rest : (m : ℕ) → m < 2 → nat_eq m 1 ≡ false → m ≡ 0
    rest m l e = grind (arith, nat_tests)

    by : (b : Bool) → nat_eq (n % 2) 1 ≡ b → n ≡ bit b + 2 * (n / 2)
    by true e = (let d : n % 2 ≡ 1 = eqb-true (n % 2) 1 e in omega arith)
    by false e = (let d : n % 2 ≡ 0 = rest (n % 2) (omega arith) e in omega arith)

even_split : (n : ℕ) → n + bit (nat_eq (n % 2) 0) ≡ 2 * (n / 2) + 1
even_split n = by (nat_eq (n % 2) 0) refl
  where
    rest : (m : ℕ) → m < 2 → nat_eq m 0 ≡ false → m ≡ 1
    rest m l e = grind (arith, nat_tests)

    by : (b : Bool) → nat_eq (n % 2) 0 ≡ b → n + bit b ≡ 2 * (n / 2) + 1
    by true e = (let d : n % 2 ≡ 0 = eqb-true (n % 2) 0 e in omega arith)
    by false e = (let d : n % 2 ≡ 1 = rest (n % 2) (omega arith) e in omega arith)

whole_pos : (n b h : ℕ) → n ≡ b + 2 * h → pos n ≡ pos b +ℤ pos 2 *ℤ pos h
whole_pos n b h e = omega (arith, ints)

whole_negsuc : (n b h : ℕ) → n + b ≡ 2 * h + 1 → negsuc n ≡ pos b +ℤ pos 2 *ℤ negsuc h
whole_negsuc n b h e = omega (arith, ints)

halved : (z : ℤ) → z ≡ pos (bit (is_odd z)) +ℤ pos 2 *ℤ half_of z
halved (pos n) = whole_pos n (bit (nat_eq (n % 2) 1)) (n / 2) (odd_split n)
halved (negsuc n) = whole_negsuc n (bit (nat_eq (n % 2) 0)) (n / 2) (even_split n)

-- ---- its spelling

-- what is left above the lowest bits
left_above : ℕ → ℤ → ℤ
left_above zero z = z
left_above (suc n) z = left_above n (half_of z)

spelled_back : (n : ℕ) (z : ℤ) → spelled_onto (spelled n z) (left_above n z) ≡ z
unfolding spelled left_above
spelled_back zero z = refl
spelled_back (suc n) z = ap (λ t. pos (bit (is_odd z)) +ℤ pos 2 *ℤ t) (spelled_back n (half_of z)) ∙ sym (halved z)

pub length_spelled : (n : ℕ) (z : ℤ) → length (spelled n z) ≡ n
unfolding spelled
length_spelled zero z = refl
length_spelled (suc n) z = ap suc (length_spelled n (half_of z))

pub cut_is_congruent : (w : ℕ) (z : ℤ) → IsCongruent w (cut w z) z
unfolding cut
cut_is_congruent w z = subst (λ k. IsCongruent k (integer_of (spelled w z)) z) (length_spelled w z) (subst (IsCongruent (length (spelled w z)) (integer_of (spelled w z))) (spelled_back w z) (spelled_congruent (spelled w z) (left_above w z)))

pub cut_fits : (w : ℕ) (z : ℤ) → 0 < w → FitsBits w (cut w z)
unfolding cut
cut_fits w z l = subst (λ k. FitsBits k (integer_of (spelled w z))) (length_spelled w z) (integer_fits (spelled w z) (omega (arith, length_spelled w z)))

-- ---- what it keeps

pub cut_of_congruent : (w : ℕ) (x z : ℤ) → 0 < w → IsCongruent w x z → FitsBits w x → x ≡ cut w z
cut_of_congruent w x z l c f = congruent_fits w x (cut w z) l (congruent_trans w x z (cut w z) c (congruent_sym w (cut w z) z (cut_is_congruent w z))) f (cut_fits w z l)

pub cut_of_fitting : (w : ℕ) (z : ℤ) → 0 < w → FitsBits w z → cut w z ≡ z
cut_of_fitting w z l f = congruent_fits w (cut w z) z l (cut_is_congruent w z) (cut_fits w z l) f

pub spelling_of_fitting : (w : ℕ) (z : ℤ) → 0 < w → FitsBits w z → integer_of (spelled w z) ≡ z
unfolding cut
spelling_of_fitting w z l f = cut_of_fitting w z l f

pub cut_of_wider : (v w : ℕ) (z : ℤ) → 0 < v → v ≤ w → FitsBits v z → cut w z ≡ z
cut_of_wider v w z l h f = cut_of_fitting w z (omega arith) (fits_wider v w z h f)

pub cut_of_bits : (w : ℕ) (bs : List Bool) → 0 < w → 0 < length bs → length bs ≤ w → cut w (integer_of bs) ≡ integer_of bs
cut_of_bits w bs l s h = cut_of_wider (length bs) w (integer_of bs) s h (integer_fits bs s)

-- ---- fewer bits

power_split : (v w : ℕ) → v ≤ w → 2 ^ w ≡ 2 ^ (w - v) * 2 ^ v
power_split v w h = let e : w ≡ (w - v) + v = omega arith in ap (λ k. 2 ^ k) e ∙ sums (w - v) v
  where
    sums : (a b : ℕ) → 2 ^ (a + b) ≡ 2 ^ a * 2 ^ b
    sums a b = pow-add 2 a b

times_split : (j p q r : ℕ) → r ≡ p * q → j * r ≡ (j * p) * q
times_split j p q r e = rw e (omega arith)

congruent_fewer : (v w : ℕ) (x y : ℤ) → v ≤ w → IsCongruent w x y → IsCongruent v x y
congruent_fewer v w x y h c = record {
  below = c.below * 2 ^ (w - v);
  above = c.above * 2 ^ (w - v);
  equal = (let m = times_split c.below (2 ^ (w - v)) (2 ^ v) (2 ^ w) (power_split v w h) in let n = times_split c.above (2 ^ (w - v)) (2 ^ v) (2 ^ w) (power_split v w h) in
      subst (λ k. x +ℤ pos (c.below * 2 ^ (w - v) * 2 ^ v) ≡ y +ℤ pos k) n (subst (λ k. x +ℤ pos k ≡ y +ℤ pos (c.above * 2 ^ w)) m c.equal));
}

pub cut_of_cut : (v w : ℕ) (z : ℤ) → 0 < v → v ≤ w → cut v (cut w z) ≡ cut v z
cut_of_cut v w z l h = cut_of_congruent v (cut v (cut w z)) z l (congruent_trans v _ _ _ (cut_is_congruent v (cut w z)) (congruent_fewer v w (cut w z) z h (cut_is_congruent w z))) (cut_fits v (cut w z) l)

-- ---- on wires

pub resized_cut : (w : ℕ) (bs : List Bool) → 0 < w → 0 < length bs → integer_of (resized w bs) ≡ cut w (integer_of bs)
resized_cut w bs l s =
    cut_of_congruent w (integer_of (resized w bs)) (integer_of bs) l (resized_integer w bs s)
    (subst (λ k. FitsBits k (integer_of (resized w bs))) (length-resized w bs s) (integer_fits (resized w bs) (omega (arith, length-resized w bs s))))

-- what stands for a number is what the width keeps of it, on all wires of the width
pub stands_cut : (w : ℕ) (gates : List Gate) (z : List Bool → ℤ) (ws r : List Wire) → StandsFor w gates z ws → 0 < w → r ≡ resized w ws → (bits : List Bool) → integer_at gates r bits ≡ cut w (z bits)
stands_cut w gates z ws r s l e bits =
    let some : 0 < length ws = s.number.some in
    let g : FitsBits w (integer_at gates ws bits) = fits_wider (length ws) w _ s.number.few (integer_at_fits gates ws bits some) in
    integer_of_resized_wires gates w ws r bits e some l g ∙ cut_of_congruent w (integer_at gates ws bits) (z bits) l (s.value bits) g

-- and the number itself where that fits
pub kept_exact : (w : ℕ) (x z : ℤ) → 0 < w → x ≡ cut w z → FitsBits w z → x ≡ z
kept_exact w x z l e f = e ∙ cut_of_fitting w z l f
