-- What stands on as few wires as hold it, and what is exact on so many wires.
use Rattle.std.proofs.Common.{◌≡◌, ℕ, ◌+◌, ◌-◌, ◌*◌, ◌^◌, ◌<◌, ◌≤◌, min, max, Bool, List, length, take, ◌⊎◌, Option, refl, sym, ap, ◌∙◌, subst, inl, inr, arith}
use Rattle.std.specs.Prelude.{ℤ, pos, ◌+ℤ◌, neg_ℤ}
use Rattle.std.proofs.Math.Pow.{pow_mono}
use Rattle.std.proofs.lemmas.Int.{ints}
use Rattle.std.proofs.lemmas.Bool.{cases_lt}
use Rattle.std.proofs.lemmas.List.{take_all}
use Rattle.bool_circuit.specs.declared.gate.Wire.{Wire}
use Rattle.bool_circuit.specs.declared.gate.Gate.{Gate}
use Rattle.bool_circuit.specs.Circuit.{wire_value, wire_values, AreWiresOf, Extends}
use Rattle.bool_circuit.proofs.Extending.{wires_stay, wire_values_stay}
use Rattle.integer_bits.proofs.Congruent.{congruent_fits, congruent_add, congruent_trans, congruent_sym, congruent_same, congruent_rest, natural_congruent, resized_congruent, integer_fits, pow_half}
use Rattle.integer_bits.proofs.Resizing.{length_resized, values_resized, length_values, fits_wider}
use Rattle.integer_bits.proofs.Ripple.{carry_small}
use Rattle.integer_bits.specs.Numbers.{bit, natural_of, integer_of, integer_at, FitsBits, IsCongruent, IsNumber, StandsFor, resized}
use Rattle.integer_bits.specs.Steps.{carry_at, IsSumSoFar, IsNegativeSoFar, IsNarrowed}

-- ---- from n bits to w

-- congruent at n bits, and at w, since n is w or both fit n bits
pub widened : (w n : ℕ) (x z : ℤ) → 0 < n → IsCongruent n x z → FitsBits n x → (n ≡ w) ⊎ FitsBits n z → IsCongruent w x z
widened w n x z l c f e = elim e [
  | inl k ↦ subst (λ k. IsCongruent k x z) k c
  | inr g ↦ congruent_same w x z (congruent_fits n x z l c f g)
]

pub integer_at_fits : (gates : List Gate) (ws : List Wire) (bits : List Bool) → 0 < length ws → FitsBits (length ws) (integer_at gates ws bits)
integer_at_fits gates ws bits h = subst (λ k. FitsBits k (integer_at gates ws bits)) (length_values gates ws bits) (integer_fits (wire_values gates ws bits) (omega (arith, length_values gates ws bits)))

sum_fits : (m n c : ℕ) (x y : ℤ) → 0 < m → m < n → c ≤ 1 → FitsBits m x → FitsBits m y → FitsBits n ((x +ℤ y) +ℤ pos c)
sum_fits m n c x y h l s f g =
    let p : 2 ^ m ≤ 2 ^ (n - 1) = pow_mono {i = m} {j = n - 1} (omega arith) in
    let q : 2 ^ m ≡ 2 * 2 ^ (m - 1) = pow_half m h in
    let a = f.low in let b = f.high in let d = g.low in let e = g.high in
    record { low = omega (arith, ints); high = omega (arith, ints) }

negative_fits : (m n : ℕ) (x : ℤ) → 0 < m → m < n → FitsBits m x → FitsBits n (neg_ℤ x)
negative_fits m n x h l f =
    let p : 2 ^ m ≤ 2 ^ (n - 1) = pow_mono {i = m} {j = n - 1} (omega arith) in
    let q : 2 ^ m ≡ 2 * 2 ^ (m - 1) = pow_half m h in
    let a = f.low in let b = f.high in
    record { low = omega (arith, ints); high = omega (arith, ints) }

-- ---- what stands for a number

-- and for a congruent number
pub stands_congruent : (w : ℕ) (gates : List Gate) (x z : List Bool → ℤ) (ws : List Wire) → StandsFor w gates x ws → ((bits : List Bool) → IsCongruent w (x bits) (z bits)) → StandsFor w gates z ws
stands_congruent w gates x z ws s c = record { number = s.number; value = λ bits. congruent_trans w _ _ _ (s.value bits) (c bits) }

pub stands_equal : (w : ℕ) (gates : List Gate) (x z : List Bool → ℤ) (ws : List Wire) → StandsFor w gates x ws → ((bits : List Bool) → x bits ≡ z bits) → StandsFor w gates z ws
stands_equal w gates x z ws s c = stands_congruent w gates x z ws s (λ bits. congruent_same w (x bits) (z bits) (c bits))

pub number_stays : (w n : ℕ) (old new : List Gate) (ws : List Wire) → Extends old new n → IsNumber w old ws → IsNumber w new ws
number_stays w n old new ws e s = record { wires = wires_stay old new n ws e s.wires; some = s.some; few = s.few }

pub number_of_narrowed : (w : ℕ) (gates : List Gate) (a ws : List Wire) → IsNarrowed w a ws → AreWiresOf gates a → IsNumber w gates ws
number_of_narrowed w gates a ws n h = record { wires = n.wires gates h; some = n.some; few = n.few }

pub integer_stays : (n : ℕ) (old new : List Gate) (ws : List Wire) (bits : List Bool) → Extends old new n → AreWiresOf old ws → integer_at new ws bits ≡ integer_at old ws bits
integer_stays n old new ws bits e h = ap integer_of (wire_values_stay old new n ws bits e h)

-- ---- sums

-- a sum of the lowest n bits is the sum of the integers modulo 2 ^ n
sum_of_bits : (n : ℕ) (a b s : List Bool) (c d : ℕ) → length s ≡ n → natural_of s + d * 2 ^ n ≡ natural_of (resized n a) + natural_of (resized n b) + c → IsCongruent n (integer_of s) ((integer_of a +ℤ integer_of b) +ℤ pos c)
sum_of_bits n a b s c d size e =
    let own : IsCongruent n (pos (natural_of s)) (integer_of s) = rw size at (natural_congruent s) in
    let rest : IsCongruent n (pos (natural_of s)) (pos (natural_of (resized n a) + natural_of (resized n b) + c)) = congruent_rest n (natural_of s) d _ e in
    let both : IsCongruent n ((pos (natural_of (resized n a)) +ℤ pos (natural_of (resized n b))) +ℤ pos c) ((integer_of a +ℤ integer_of b) +ℤ pos c) =
    congruent_add n _ _ _ _ (congruent_add n _ _ _ _ (resized_congruent n a) (resized_congruent n b)) (congruent_same n (pos c) (pos c) refl) in
    congruent_trans n _ _ _ (congruent_sym n _ _ own) (congruent_trans n _ _ _ rest both)

pub all_resized : (gates : List Gate) (n : ℕ) (a la : List Wire) (bits : List Bool) (k : ℕ) → la ≡ resized n a → length la ≤ k → wire_values gates (take k la) bits ≡ resized n (wire_values gates a bits)
all_resized gates n a la bits k e l = ap (λ t. wire_values gates t bits) (take_all k la l ∙ e) ∙ values_resized gates n a bits

pub sum_stands : (w n : ℕ) (old new : List Gate) (a b la lb sum few : List Wire) (carry last : Option Wire) → IsNumber w old a → IsNumber w old b → n ≡ min (max (length a) (length b)) (w - 1) + 1
    → la ≡ resized n a → lb ≡ resized n b → IsSumSoFar old la lb carry (length la) new sum last → IsNarrowed w sum few
    → StandsFor w new (λ bits. (integer_at old a bits +ℤ integer_at old b bits) +ℤ pos (carry_at old carry bits)) few
sum_stands w n old new a b la lb sum few carry last na nb en ea eb so nr =
    let some_a : 0 < length a = na.some in
    let some_b : 0 < length b = nb.some in
    let size : length la ≡ n = length_resized n a la ea some_a in
    let size' : length lb ≡ n = length_resized n b lb eb some_b in record {
      number = number_of_narrowed w new sum few nr so.wires;
      value = λ bits.
          let c = carry_at old carry bits in
          let va : wire_values old (take (length la) la) bits ≡ resized n (wire_values old a bits) = all_resized old n a la bits (length la) ea (omega arith) in
          let vb : wire_values old (take (length la) lb) bits ≡ resized n (wire_values old b bits) = all_resized old n b lb bits (length la) eb (omega arith) in
          let eq : natural_of (wire_values new sum bits) + carry_at new last bits * 2 ^ n ≡ natural_of (resized n (wire_values old a bits)) + natural_of (resized n (wire_values old b bits)) + c =
          ap (λ k. natural_of (wire_values new sum bits) + carry_at new last bits * 2 ^ k) (sym size) ∙ so.value bits
          ∙ ap (λ t. natural_of t + natural_of (wire_values old (take (length la) lb) bits) + c) va
          ∙ ap (λ t. natural_of (resized n (wire_values old a bits)) + natural_of t + c) vb in
          let len : length (wire_values new sum bits) ≡ n = length_values new sum bits ∙ so.size ∙ size in
          let narrow = sum_of_bits n (wire_values old a bits) (wire_values old b bits) (wire_values new sum bits) c (carry_at new last bits) len eq in
          let own : FitsBits n (integer_at new sum bits) = subst (λ k. FitsBits k (integer_at new sum bits)) len (integer_fits (wire_values new sum bits) (omega arith)) in
          congruent_trans w _ _ _ (nr.value new bits) (widened w n _ _ (omega arith) narrow own (fits bits));
    }
  where
    fits : (bits : List Bool) → (n ≡ w) ⊎ FitsBits n ((integer_at old a bits +ℤ integer_at old b bits) +ℤ pos (carry_at old carry bits))
    fits bits = elim (cases_lt (max (length a) (length b)) w) [
      | inl l ↦ inr (sum_fits (max (length a) (length b)) n _ _ _ (omega (arith, na.some)) (omega arith) (carry_small old carry bits)
          (fits_wider (length a) (max (length a) (length b)) _ (omega arith) (integer_at_fits old a bits na.some)) (fits_wider (length b) (max (length a) (length b)) _ (omega arith) (integer_at_fits old b bits nb.some)))
      | inr l ↦ inl (omega (arith, na.some, na.few, nb.few))
    ]

-- ---- negatives

moved : (n : ℕ) (x a : ℤ) → IsCongruent n (x +ℤ a) (pos 0) → IsCongruent n x (neg_ℤ a)
moved n x a c = record { below = c.below; above = c.above; equal = (let e = c.equal in omega (arith, ints)) }

whole : (n m c : ℕ) → m ≡ c * 2 ^ n → IsCongruent n (pos m) (pos 0)
whole n m c e = record { below = 0; above = c; equal = omega (arith, ints) }

negative_of_bits : (n : ℕ) (a s : List Bool) (c : ℕ) → length s ≡ n → natural_of s + natural_of (resized n a) ≡ c * 2 ^ n → IsCongruent n (integer_of s) (neg_ℤ (integer_of a))
negative_of_bits n a s c size e =
    let own : IsCongruent n (pos (natural_of s)) (integer_of s) = rw size at (natural_congruent s) in
    let both : IsCongruent n (pos (natural_of s) +ℤ pos (natural_of (resized n a))) (integer_of s +ℤ integer_of a) = congruent_add n _ _ _ _ own (resized_congruent n a) in
    moved n (integer_of s) (integer_of a) (congruent_trans n _ _ _ (congruent_sym n _ _ both) (whole n _ c e))

pub negative_stands : (w n : ℕ) (old new : List Gate) (a la negative few : List Wire) (seen : Wire) → IsNumber w old a → n ≡ min (length a) (w - 1) + 1
    → la ≡ resized n a → IsNegativeSoFar old la (length la) new negative seen → IsNarrowed w negative few → StandsFor w new (λ bits. neg_ℤ (integer_at old a bits)) few
negative_stands w n old new a la negative few seen na en ea so nr =
    let some : 0 < length a = na.some in
    let size : length la ≡ n = length_resized n a la ea some in record {
      number = number_of_narrowed w new negative few nr so.wires;
      value = λ bits.
          let va : wire_values old (take (length la) la) bits ≡ resized n (wire_values old a bits) = all_resized old n a la bits (length la) ea (omega arith) in
          let eq : natural_of (wire_values new negative bits) + natural_of (resized n (wire_values old a bits)) ≡ bit (wire_value new seen bits) * 2 ^ n =
          ap (λ t. natural_of (wire_values new negative bits) + natural_of t) (sym va) ∙ so.value bits ∙ ap (λ k. bit (wire_value new seen bits) * 2 ^ k) size in
          let len : length (wire_values new negative bits) ≡ n = length_values new negative bits ∙ so.size ∙ size in
          let narrow = negative_of_bits n (wire_values old a bits) (wire_values new negative bits) (bit (wire_value new seen bits)) len eq in
          let own : FitsBits n (integer_at new negative bits) = subst (λ k. FitsBits k (integer_at new negative bits)) len (integer_fits (wire_values new negative bits) (omega arith)) in
          congruent_trans w _ _ _ (nr.value new bits) (widened w n _ _ (omega arith) narrow own (fits bits));
    }
  where
    fits : (bits : List Bool) → (n ≡ w) ⊎ FitsBits n (neg_ℤ (integer_at old a bits))
    fits bits = elim (cases_lt (length a) w) [
      | inl l ↦ inr (negative_fits (length a) n _ na.some (omega arith) (integer_at_fits old a bits na.some))
      | inr l ↦ inl (omega (arith, na.some, na.few))
    ]
