-- Sums and negatives on the wires that were asked for.
use Rattle.std.proofs.Common.{◌≡◌, ℕ, ◌<◌, Bool, List, arith}
use Rattle.std.specs.Prelude.{ℤ, pos, ◌+ℤ◌, neg_ℤ}
use Rattle.std.proofs.lemmas.Int.{ints}
use Rattle.bool_circuit.specs.declared.gate.Wire.{Wire}
use Rattle.bool_circuit.specs.declared.gate.Gate.{Gate}
use Rattle.integer_bits.proofs.Congruent.{congruent_add, congruent_trans, congruent_same, congruent_negative}
use Rattle.integer_bits.proofs.Cutting.{stands_cut}
use Rattle.integer_bits.proofs.Widening.{stands_congruent}
use Rattle.integer_bits.specs.Numbers.{integer_at, cut, StandsFor, resized}
use Rattle.integer_bits.specs.Steps.{IsNarrowed}

pub and_none : (x : ℤ) → x +ℤ pos 0 ≡ x
and_none x = omega (arith, ints)

pub added_cut : (w : ℕ) (old new : List Gate) (a b few_a few_b sum r : List Wire) → 0 < w → IsNarrowed w a few_a → IsNarrowed w b few_b
    → StandsFor w new (λ bits. (integer_at old few_a bits +ℤ integer_at old few_b bits) +ℤ pos 0) sum → r ≡ resized w sum
    → (bits : List Bool) → integer_at new r bits ≡ cut w (integer_at old a bits +ℤ integer_at old b bits)
added_cut w old new a b few_a few_b sum r l na nb s e bits =
    let both : StandsFor w new (λ bits. integer_at old a bits +ℤ integer_at old b bits) sum = stands_congruent w new _ _ sum s (λ bits. congruent_trans w _ _ _ (congruent_same w _ _ (and_none _)) (congruent_add w _ _ _ _ (na.value old bits) (nb.value old bits))) in
    stands_cut w new _ sum r both l e bits

pub negative_cut : (w : ℕ) (old new : List Gate) (a few negative r : List Wire) → 0 < w → IsNarrowed w a few
    → StandsFor w new (λ bits. neg_ℤ (integer_at old few bits)) negative → r ≡ resized w negative
    → (bits : List Bool) → integer_at new r bits ≡ cut w (neg_ℤ (integer_at old a bits))
negative_cut w old new a few negative r l n s e bits =
    let whole : StandsFor w new (λ bits. neg_ℤ (integer_at old a bits)) negative = stands_congruent w new _ _ negative s (λ bits. congruent_negative w _ _ (n.value old bits)) in
    stands_cut w new _ negative r whole l e bits
