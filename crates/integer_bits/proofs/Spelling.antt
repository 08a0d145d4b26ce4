-- The bits of a constant.
use Rattle.std.proofs.Common.{◌≡◌, ℕ, ◌+◌, ◌<◌, Bool, true, false, if◌then◌else◌, List, [], ◌∷◌, ◌++◌, length, refl, sym, ap, ◌∙◌, subst, arith}
use Rattle.std.specs.Prelude.{ℤ, pos, negsuc, ◌+ℤ◌, ◌*ℤ◌}
use Rattle.std.proofs.lemmas.List.{length-map, length_push}
use Rattle.std.proofs.lemmas.List.Elements.{All-push}
use Rattle.bool_circuit.specs.declared.gate.Wire.{Wire}
use Rattle.bool_circuit.specs.declared.gate.Gate.{Gate}
use Rattle.bool_circuit.specs.Circuit.{wire_value, wire_values, IsWireOf}
use Rattle.integer_bits.proofs.Congruent.{congruent_fits, congruent_any, congruent_double, integer_fits}
use Rattle.integer_bits.proofs.Ripple.{map-push}
use Rattle.integer_bits.specs.Numbers.{bit, integer_of, integer_at, FitsBits, IsCongruent}
use Rattle.integer_bits.specs.Steps.{spelled_onto, IsSpelledSoFar}

spelled_onto-push : (bs : List Bool) (b : Bool) (z : ℤ) → spelled_onto (bs ++ b ∷ []) z ≡ spelled_onto bs (pos (bit b) +ℤ pos 2 *ℤ z)
spelled_onto-push [] b z = refl
spelled_onto-push (c ∷ bs) b z = ap (λ t. pos (bit c) +ℤ pos 2 *ℤ t) (spelled_onto-push bs b z)

pub spelled_congruent : (bs : List Bool) (z : ℤ) → IsCongruent (length bs) (integer_of bs) (spelled_onto bs z)
spelled_congruent [] z = congruent_any (pos 0) z
spelled_congruent (true ∷ []) z = congruent_double 0 1 (negsuc 0) z (congruent_any (negsuc 0) z)
spelled_congruent (false ∷ []) z = congruent_double 0 0 (pos 0) z (congruent_any (pos 0) z)
spelled_congruent (b ∷ c ∷ bs) z = congruent_double (length (c ∷ bs)) (bit b) (integer_of (c ∷ bs)) (spelled_onto (c ∷ bs) z) (spelled_congruent (c ∷ bs) z)

picked : (gates : List Gate) (on off : Wire) (bits : List Bool) (odd : Bool) → wire_value gates on bits ≡ true → wire_value gates off bits ≡ false → wire_value gates (if odd then on else off) bits ≡ odd
picked gates on off bits true t f = t
picked gates on off bits false t f = f

picked_wire : (gates : List Gate) (on off : Wire) (odd : Bool) → IsWireOf gates on → IsWireOf gates off → IsWireOf gates (if odd then on else off)
picked_wire gates on off true t f = t
picked_wire gates on off false t f = f

pub spelled_none : (gates : List Gate) (z : ℤ) → IsSpelledSoFar gates z 0 [] z
spelled_none gates z = record { size = refl; wires = λ k d l. absurd (omega arith); value = λ bits. refl }

pub spelled_more : (gates : List Gate) (z : ℤ) (i : ℕ) (ws more : List Wire) (rest next : ℤ) (odd : Bool) (on off w : Wire) → IsSpelledSoFar gates z i ws rest → IsWireOf gates on → IsWireOf gates off
    → ((bits : List Bool) → wire_value gates on bits ≡ true) → ((bits : List Bool) → wire_value gates off bits ≡ false) → w ≡ (if odd then on else off) → rest ≡ pos (bit odd) +ℤ pos 2 *ℤ next → more ≡ ws ++ w ∷ [] → IsSpelledSoFar gates z (i + 1) more next
spelled_more gates z i ws more rest next odd on off w s t f von voff ew er e = rw e (record {
  size = length_push ws w ∙ ap (λ k. k + 1) s.size;
  wires = All-push (IsWireOf gates) ws w s.wires (subst (IsWireOf gates) (sym ew) (picked_wire gates on off odd t f));
  value = λ bits.
      ap (λ t. spelled_onto t next) (map-push (λ w. wire_value gates w bits) ws w)
      ∙ spelled_onto-push (wire_values gates ws bits) (wire_value gates w bits) next
      ∙ ap (λ b. spelled_onto (wire_values gates ws bits) (pos (bit b) +ℤ pos 2 *ℤ next)) (ap (λ u. wire_value gates u bits) ew ∙ picked gates on off bits odd (von bits) (voff bits))
      ∙ ap (spelled_onto (wire_values gates ws bits)) (sym er) ∙ s.value bits;
})

pub constant_exact : (gates : List Gate) (z rest : ℤ) (w : ℕ) (ws : List Wire) → 0 < w → FitsBits w z → IsSpelledSoFar gates z w ws rest → (bits : List Bool) → integer_at gates ws bits ≡ z
constant_exact gates z rest w ws l fits s bits =
    let size : length (wire_values gates ws bits) ≡ w = length-map ws (λ w. wire_value gates w bits) ∙ s.size in
    congruent_fits w (integer_at gates ws bits) z l
    (rw (sym (s.value bits)) (rw size at (spelled_congruent (wire_values gates ws bits) rest)))
    (rw size at (integer_fits (wire_values gates ws bits) (omega arith))) fits
