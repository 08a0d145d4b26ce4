-- Integers that differ by a multiple of a power of two.
use Rattle.std.proofs.Common.{◌≡◌, ℕ, suc, zero, ◌+◌, ◌-◌, ◌*◌, ◌^◌, ◌<◌, Bool, true, false, if◌then◌else◌, List, [], ◌∷◌, length, map, refl, sym, ap, ◌∙◌, arith}
use Rattle.std.specs.Prelude.{ℤ, pos, negsuc, ◌+ℤ◌, ◌*ℤ◌, ◌≤ℤ◌, ◌<ℤ◌, neg_ℤ}
use Rattle.std.proofs.lemmas.Int.{ints}
use Rattle.integer_bits.specs.Numbers.{bit, natural_of, integer_of, FitsBits, IsCongruent, resized}

pub pow_suc : (n : ℕ) → 2 ^ suc n ≡ 2 * 2 ^ n
pow_suc n = grind arith

pub pow_half : (n : ℕ) → 0 < n → 2 ^ n ≡ 2 * 2 ^ (n - 1)
pow_half n h = let e : n ≡ suc (n - 1) = omega arith in ap (λ k. 2 ^ k) e ∙ pow_suc (n - 1)

module _ (x y : ℤ) (h p : ℕ) (e : p ≡ 2 * h) (a : pos 0 ≤ℤ (x +ℤ pos h)) (b : x <ℤ pos h) (c : pos 0 ≤ℤ (y +ℤ pos h)) (d : y <ℤ pos h) where
  above_apart : (u v : ℕ) → x +ℤ pos (u + v + p) ≡ y +ℤ pos u → x ≡ y
  above_apart u v eq = omega (arith, ints)

  below_apart : (u v : ℕ) → x +ℤ pos u ≡ y +ℤ pos (u + v + p) → x ≡ y
  below_apart u v eq = omega (arith, ints)

  same_shift : (u : ℕ) → x +ℤ pos u ≡ y +ℤ pos u → x ≡ y
  same_shift u eq = omega (arith, ints)

  multiples_apart : (j k : ℕ) → x +ℤ pos (j * p) ≡ y +ℤ pos (k * p) → x ≡ y
  multiples_apart zero zero eq = same_shift (0 * p) eq
  multiples_apart zero (suc k) eq = below_apart 0 (k * p) (let m : suc k * p ≡ 0 + k * p + p = omega arith in let z : 0 * p ≡ 0 = omega arith in rw (m, z) at eq)
  multiples_apart (suc j) zero eq = above_apart 0 (j * p) (let m : suc j * p ≡ 0 + j * p + p = omega arith in let z : 0 * p ≡ 0 = omega arith in rw (m, z) at eq)
  multiples_apart (suc j) (suc k) eq = multiples_apart j k (let m : suc j * p ≡ j * p + p = omega arith in let n : suc k * p ≡ k * p + p = omega arith in omega (arith, ints))

-- two integers of n bits that are congruent are equal
pub congruent_fits : (n : ℕ) (x y : ℤ) → 0 < n → IsCongruent n x y → FitsBits n x → FitsBits n y → x ≡ y
congruent_fits n x y l c f g = multiples_apart x y (2 ^ (n - 1)) (2 ^ n) (pow_half n l) f.low f.high g.low g.high c.below c.above c.equal

pub congruent_add : (n : ℕ) (x y z w : ℤ) → IsCongruent n x y → IsCongruent n z w → IsCongruent n (x +ℤ z) (y +ℤ w)
congruent_add n x y z w c d = record {
  below = c.below + d.below;
  above = c.above + d.above;
  equal = (let e = c.equal in let f = d.equal in omega (arith, ints));
}

twice : (j p : ℕ) → j * (2 * p) ≡ 2 * (j * p)
twice j p = omega arith

doubled : (b u v : ℕ) (x y : ℤ) → x +ℤ pos u ≡ y +ℤ pos v → (pos b +ℤ pos 2 *ℤ x) +ℤ pos (2 * u) ≡ (pos b +ℤ pos 2 *ℤ y) +ℤ pos (2 * v)
doubled b u v x y eq = omega (arith, ints)

pub congruent_double : (n b : ℕ) (x y : ℤ) → IsCongruent n x y → IsCongruent (suc n) (pos b +ℤ pos 2 *ℤ x) (pos b +ℤ pos 2 *ℤ y)
congruent_double n b x y c = record {
  below = c.below;
  above = c.above;
  equal = (let m : c.below * 2 ^ suc n ≡ 2 * (c.below * 2 ^ n) = ap (λ r. c.below * r) (pow_suc n) ∙ twice c.below (2 ^ n) in let k : c.above * 2 ^ suc n ≡ 2 * (c.above * 2 ^ n) = ap (λ r. c.above * r) (pow_suc n) ∙ twice c.above (2 ^ n) in rw (m, k) (doubled b (c.below * 2 ^ n) (c.above * 2 ^ n) x y c.equal));
}

pub congruent_any : (x y : ℤ) → IsCongruent 0 x y
congruent_any (pos x) (pos y) = record { below = y; above = x; equal = omega (arith, ints) }
congruent_any (pos x) (negsuc y) = record { below = 0; above = x + suc y; equal = omega (arith, ints) }
congruent_any (negsuc x) (pos y) = record { below = y + suc x; above = 0; equal = omega (arith, ints) }
congruent_any (negsuc x) (negsuc y) = record { below = suc x; above = suc y; equal = omega (arith, ints) }

pub congruent_sym : (n : ℕ) (x y : ℤ) → IsCongruent n x y → IsCongruent n y x
congruent_sym n x y c = record { below = c.above; above = c.below; equal = sym c.equal }

pub congruent_trans : (n : ℕ) (x y z : ℤ) → IsCongruent n x y → IsCongruent n y z → IsCongruent n x z
congruent_trans n x y z c d = record {
  below = c.below + d.below;
  above = c.above + d.above;
  equal = (let e = c.equal in let f = d.equal in omega (arith, ints));
}

pub congruent_same : (n : ℕ) (x y : ℤ) → x ≡ y → IsCongruent n x y
congruent_same n x y e = record { below = 0; above = 0; equal = omega (arith, ints) }

-- a natural number and what is left of it below 2 ^ n
pub congruent_rest : (n r c m : ℕ) → r + c * 2 ^ n ≡ m → IsCongruent n (pos r) (pos m)
congruent_rest n r c m e = record { below = c; above = 0; equal = omega (arith, ints) }

-- ---- the integer of some bits

bit_pos : (b : Bool) → (if b then negsuc 0 else pos 0) ≡ pos (bit b) +ℤ pos 2 *ℤ (if b then negsuc 0 else pos 0)
bit_pos true = refl
bit_pos false = refl

pos_more : (b : Bool) (n : ℕ) → pos (bit b + 2 * n) ≡ pos (bit b) +ℤ pos 2 *ℤ pos n
pos_more b n = omega (arith, ints)

-- cut or made longer, the bits are congruent to the integer
pub resized_congruent : (n : ℕ) (bs : List Bool) → IsCongruent n (pos (natural_of (resized n bs))) (integer_of bs)
resized_congruent zero bs = congruent_any (pos 0) (integer_of bs)
resized_congruent (suc n) [] = congruent_same (suc n) (pos 0) (pos 0) refl
resized_congruent (suc n) (b ∷ []) =
    rw (bit_pos b, pos_more b (natural_of (resized n (b ∷ [])))) (congruent_double n (bit b) (pos (natural_of (resized n (b ∷ [])))) (integer_of (b ∷ [])) (resized_congruent n (b ∷ [])))
resized_congruent (suc n) (b ∷ c ∷ bs) =
    rw (pos_more b (natural_of (resized n (c ∷ bs)))) (congruent_double n (bit b) (pos (natural_of (resized n (c ∷ bs)))) (integer_of (c ∷ bs)) (resized_congruent n (c ∷ bs)))

pub natural_congruent : (bs : List Bool) → IsCongruent (length bs) (pos (natural_of bs)) (integer_of bs)
natural_congruent [] = congruent_any (pos 0) (pos 0)
natural_congruent (b ∷ []) =
    rw (bit_pos b) (rw (pos_more b 0) (congruent_double 0 (bit b) (pos 0) (integer_of (b ∷ [])) (natural_congruent' b)))
  where
    natural_congruent' : (b : Bool) → IsCongruent 0 (pos 0) (integer_of (b ∷ []))
    natural_congruent' b = congruent_any (pos 0) (integer_of (b ∷ []))
natural_congruent (b ∷ c ∷ bs) =
    rw (pos_more b (natural_of (c ∷ bs))) (congruent_double (length (c ∷ bs)) (bit b) (pos (natural_of (c ∷ bs))) (integer_of (c ∷ bs)) (natural_congruent (c ∷ bs)))

fits_more : (b : Bool) (z : ℤ) (n h : ℕ) → 2 ^ (n - 1) ≡ 2 * h → pos 0 ≤ℤ (z +ℤ pos h) → z <ℤ pos h → FitsBits n (pos (bit b) +ℤ pos 2 *ℤ z)
fits_more true z n h e l g = record { low = omega (arith, ints); high = omega (arith, ints) }
fits_more false z n h e l g = record { low = omega (arith, ints); high = omega (arith, ints) }

pub integer_fits : (bs : List Bool) → 0 < length bs → FitsBits (length bs) (integer_of bs)
integer_fits [] h = absurd (omega arith)
integer_fits (true ∷ []) h = record { low = omega (arith, ints); high = omega (arith, ints) }
integer_fits (false ∷ []) h = record { low = omega (arith, ints); high = omega (arith, ints) }
integer_fits (b ∷ c ∷ bs) h =
    let f : FitsBits (length (c ∷ bs)) (integer_of (c ∷ bs)) = integer_fits (c ∷ bs) (omega arith) in
    fits_more b (integer_of (c ∷ bs)) (length (b ∷ c ∷ bs)) (2 ^ (length (c ∷ bs) - 1)) (let e : length (b ∷ c ∷ bs) - 1 ≡ suc (length (c ∷ bs) - 1) = omega arith in ap (λ k. 2 ^ k) e ∙ pow_suc (length (c ∷ bs) - 1)) f.low f.high

pub length-resized : {X : Type 0} → (n : ℕ) (xs : List X) → 0 < length xs → length (resized n xs) ≡ n
length-resized zero xs h = refl
length-resized (suc n) [] h = absurd (omega arith)
length-resized (suc n) (x ∷ []) h = ap suc (length-resized n (x ∷ []) h)
length-resized (suc n) (x ∷ y ∷ xs) h = ap suc (length-resized n (y ∷ xs) (omega arith))

pub map-resized : {X Y : Type 0} (f : X → Y) → (n : ℕ) (xs : List X) → map f (resized n xs) ≡ resized n (map f xs)
map-resized f zero xs = refl
map-resized f (suc n) [] = refl
map-resized f (suc n) (x ∷ []) = ap (λ t. f x ∷ t) (map-resized f n (x ∷ []))
map-resized f (suc n) (x ∷ y ∷ xs) = ap (λ t. f x ∷ t) (map-resized f n (y ∷ xs))

pub congruent_negative : (n : ℕ) (x y : ℤ) → IsCongruent n x y → IsCongruent n (neg_ℤ x) (neg_ℤ y)
congruent_negative n x y c = record { below = c.above; above = c.below; equal = (let e = c.equal in omega (arith, ints)) }
