-- The negative of a number: the bits above its lowest true one turned round.
use Rattle.std.proofs.Common.{◌≡◌, ℕ, ◌+◌, ◌*◌, ◌^◌, ◌<◌, Bool, true, false, ◌||◌, List, [], ◌∷◌, ◌++◌, length, take, get_or, slice_get, Some, refl, ap, ◌∙◌, subst, arith}
use Rattle.std.proofs.lemmas.Option.{get_or_from_slice_get}
use Rattle.std.proofs.lemmas.List.{length_push, take_more, length-take-le}
use Rattle.std.proofs.lemmas.List.Elements.{All-push}
use Rattle.bool_circuit.specs.declared.gate.Wire.{Wire}
use Rattle.bool_circuit.specs.declared.gate.Gate.{Gate}
use Rattle.bool_circuit.specs.Circuit.{bool_xor, wire_value, wire_values, IsWireOf, AreWiresOf, Extends}
use Rattle.bool_circuit.proofs.Extending.{extends_trans, wires_stay, wire_values_stay}
use Rattle.integer_bits.proofs.Ripple.{natural_of-values_push, pow_more}
use Rattle.integer_bits.specs.Numbers.{bit}
use Rattle.integer_bits.specs.Steps.{IsNegativeSoFar}

turned : (x s : Bool) → bit (bool_xor x s) + bit x + bit s ≡ 2 * bit (x || s)
turned true true = refl
turned true false = refl
turned false true = refl
turned false false = refl

step : (r a s t x u p q : ℕ) → q ≡ 2 * p → r + a ≡ s * p → t + x + s ≡ 2 * u → (r + t * p) + (a + x * p) ≡ u * q
step r a s t x u p q e h k =
    let m : (t + x + s) * p ≡ (2 * u) * p = ap (λ n. n * p) k in
    rw e (omega (arith, h, m))

pub turned_none : (old new : List Gate) (a : List Wire) (seen : Wire) → Extends old new 1 → IsWireOf new seen → ((bits : List Bool) → wire_value new seen bits ≡ false) → IsNegativeSoFar old a 0 new [] seen
turned_none old new a seen e w v = record {
  extends = e;
  size = refl;
  wires = λ k d l. absurd (omega arith);
  seen_wire = w;
  value = λ bits. let z : bit (wire_value new seen bits) ≡ 0 = ap bit (v bits) in rw z (omega arith);
}

-- as the loop has it: first the bit, then whether one is true
pub turned_more : (old mid next new : List Gate) (a : List Wire) (i : ℕ) (negative more : List Wire) (seen x t u : Wire) → IsNegativeSoFar old a i mid negative seen → i < length a → AreWiresOf old a → slice_get a i ≡ Some x
    → Extends mid next 1 → Extends next new 1 → IsWireOf next t → IsWireOf new u
    → ((bits : List Bool) → wire_value next t bits ≡ bool_xor (wire_value mid x bits) (wire_value mid seen bits))
    → ((bits : List Bool) → wire_value new u bits ≡ (wire_value next x bits || wire_value next seen bits))
    → more ≡ negative ++ t ∷ [] → IsNegativeSoFar old a (i + 1) new more u
turned_more old mid next new a i negative more seen x t u so la wa ex e f wt wu vt vu em =
    let at : get_or a i x ≡ x = get_or_from_slice_get a i x x ex in
    let wx : IsWireOf old x = subst (IsWireOf old) at (wa i x la) in
    let ext : Extends mid new 2 = extends_trans mid next new 1 1 e f in rw em (record {
      extends = (let z : 2 * (i + 1) + 1 ≡ (2 * i + 1) + 2 = omega arith in rw z (extends_trans old mid new (2 * i + 1) 2 so.extends ext));
      size = length_push negative t ∙ ap (λ k. k + 1) so.size;
      wires = All-push (IsWireOf new) negative t (wires_stay mid new 2 negative ext so.wires) (omega (arith, f.at_least));
      seen_wire = wu;
      value = λ bits.
          let vx : wire_value mid x bits ≡ wire_value old x bits = so.extends.keeps x wx bits in
          let vx' : wire_value next x bits ≡ wire_value old x bits = e.keeps x (omega (arith, so.extends.at_least)) bits ∙ vx in
          let vs' : wire_value next seen bits ≡ wire_value mid seen bits = e.keeps seen so.seen_wire bits in
          let t_is : wire_value new t bits ≡ bool_xor (wire_value old x bits) (wire_value mid seen bits) = f.keeps t wt bits ∙ vt bits ∙ ap (λ v. bool_xor v (wire_value mid seen bits)) vx in
          let u_is : wire_value new u bits ≡ (wire_value old x bits || wire_value mid seen bits) = vu bits ∙ ap (λ v. v || wire_value next seen bits) vx' ∙ ap (λ v. wire_value old x bits || v) vs' in
          let ta : wire_values old (take (i + 1) a) bits ≡ wire_values old (take i a ++ x ∷ []) bits = ap (λ t. wire_values old t bits) (take_more a i x la ∙ ap (λ y. take i a ++ y ∷ []) at) in
          let na = natural_of-values_push old (take i a) x bits i (length-take-le i a (omega arith)) in
          let nn = natural_of-values_push new negative t bits i so.size in
          let keep : wire_values new negative bits ≡ wire_values mid negative bits = wire_values_stay mid new 2 negative bits ext so.wires in
          let h = so.value bits in
          let pw : 2 ^ (i + 1) ≡ 2 * 2 ^ i = pow_more i in
          rw (ta, na, nn, keep, t_is, u_is) (step _ _ _ _ _ _ (2 ^ i) (2 ^ (i + 1)) pw h (turned (wire_value old x bits) (wire_value mid seen bits)));
    })
