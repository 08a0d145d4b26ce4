-- Numbers where a wire is true.
use Rattle.std.proofs.Common.{◌≡◌, ℕ, ◌+◌, ◌<◌, Bool, true, false, ◌&&◌, List, [], ◌∷◌, ◌++◌, length, map, take, get_or, slice_get, Some, refl, sym, ap, ◌∙◌, subst, arith}
use Rattle.std.specs.Prelude.{ℤ, pos, ◌+ℤ◌, ◌*ℤ◌}
use Rattle.std.proofs.lemmas.Option.{get_or_from_slice_get}
use Rattle.std.proofs.lemmas.List.{length_push, take_more}
use Rattle.std.proofs.lemmas.List.Elements.{All-push}
use Rattle.bool_circuit.specs.declared.gate.Wire.{Wire}
use Rattle.bool_circuit.specs.declared.gate.Gate.{Gate}
use Rattle.bool_circuit.specs.Circuit.{wire_value, wire_values, IsWireOf, AreWiresOf, Extends}
use Rattle.bool_circuit.proofs.Values.{extends_none}
use Rattle.bool_circuit.proofs.Extending.{extends_trans, wires_stay, wire_values_stay}
use Rattle.integer_bits.proofs.Congruent.{congruent_same}
use Rattle.integer_bits.proofs.Ripple.{map-push}
use Rattle.integer_bits.specs.Numbers.{bit, integer_of, integer_at, IsCongruent, StandsFor}
use Rattle.integer_bits.specs.Steps.{IsMasked, IsNarrowed}
use Rattle.integer_bits.specs.Totals.{where_true}

integer_of-masked : (h : Bool) (bs : List Bool) → integer_of (map (λ b. h && b) bs) ≡ where_true h (integer_of bs)
integer_of-masked true [] = refl
integer_of-masked true (b ∷ []) = refl
integer_of-masked true (b ∷ c ∷ bs) = ap (λ z. pos (bit b) +ℤ pos 2 *ℤ z) (integer_of-masked true (c ∷ bs))
integer_of-masked false [] = refl
integer_of-masked false (b ∷ []) = refl
integer_of-masked false (b ∷ c ∷ bs) = ap (λ z. pos 0 +ℤ pos 2 *ℤ z) (integer_of-masked false (c ∷ bs))

pub none_masked : (old : List Gate) (here : Wire) → IsMasked old here [] old []
none_masked old here = record { extends = extends_none old 0; wires = λ k d l. absurd (omega arith); size = refl; values = λ bits. refl }

one_masked : (old mid new : List Gate) (here : Wire) (a : List Wire) (x w : Wire) (masked : List Wire) → IsMasked old here a mid masked → IsWireOf old here → IsWireOf old x → Extends mid new 1 → IsWireOf new w
    → ((bits : List Bool) → wire_value new w bits ≡ (wire_value mid here bits && wire_value mid x bits)) → IsMasked old here (a ++ x ∷ []) new (masked ++ w ∷ [])
one_masked old mid new here a x w masked f oh ox ext ww v = record {
  extends = (let z : length (a ++ x ∷ []) ≡ length a + 1 = length_push a x in rw z (extends_trans old mid new (length a) 1 f.extends ext));
  wires = All-push (IsWireOf new) masked w (wires_stay mid new 1 masked ext f.wires) ww;
  size = length_push masked w ∙ ap (λ k. k + 1) f.size ∙ sym (length_push a x);
  values = λ bits.
      let both : Bool → Bool = λ b. wire_value old here bits && b in
      map-push (λ w. wire_value new w bits) masked w
      ∙ ap (λ t. t ++ wire_value new w bits ∷ []) (wire_values_stay mid new 1 masked bits ext f.wires ∙ f.values bits)
      ∙ ap (λ t. map both (wire_values old a bits) ++ t ∷ []) (v bits ∙ ap (λ h. h && wire_value mid x bits) (f.extends.keeps here oh bits) ∙ ap both (f.extends.keeps x ox bits))
      ∙ sym (ap (map both) (map-push (λ w. wire_value old w bits) a x) ∙ map-push both (wire_values old a bits) (wire_value old x bits));
}

-- as the loop has it
pub masked_pushed : (old mid new : List Gate) (here : Wire) (a : List Wire) (i : ℕ) (x w : Wire) (masked more : List Wire) → IsMasked old here (take i a) mid masked → AreWiresOf old a → IsWireOf old here → i < length a → slice_get a i ≡ Some x → Extends mid new 1 → IsWireOf new w
    → ((bits : List Bool) → wire_value new w bits ≡ (wire_value mid here bits && wire_value mid x bits)) → more ≡ masked ++ w ∷ [] → IsMasked old here (take (i + 1) a) new more
masked_pushed old mid new here a i x w masked more f wa oh la ex ext ww v e =
    let at : get_or a i x ≡ x = get_or_from_slice_get a i x x ex in
    let t : take (i + 1) a ≡ take i a ++ x ∷ [] = take_more a i x la ∙ ap (λ y. take i a ++ y ∷ []) at in
    rw (e, t) (one_masked old mid new here (take i a) x w masked f oh (subst (IsWireOf old) at (wa i x la)) ext ww v)

congruent_where : (w : ℕ) (h : Bool) (x y : ℤ) → IsCongruent w x y → IsCongruent w (where_true h x) (where_true h y)
congruent_where w true x y c = c
congruent_where w false x y c = congruent_same w (pos 0) (pos 0) refl

pub where_stands : (w : ℕ) (old new : List Gate) (here : Wire) (a few masked : List Wire) → IsNarrowed w a few → IsMasked old here few new masked → StandsFor w new (λ bits. where_true (wire_value old here bits) (integer_at old a bits)) masked
where_stands w old new here a few masked n m = record {
  number = record { wires = m.wires; some = omega (arith, m.size, n.some); few = omega (arith, m.size, n.few) };
  value = λ bits.
      let e : integer_at new masked bits ≡ where_true (wire_value old here bits) (integer_at old few bits) = ap integer_of (m.values bits) ∙ integer_of-masked (wire_value old here bits) (wire_values old few bits) in
      subst (λ z. IsCongruent w z (where_true (wire_value old here bits) (integer_at old a bits))) (sym e) (congruent_where w (wire_value old here bits) _ _ (n.value old bits));
}
