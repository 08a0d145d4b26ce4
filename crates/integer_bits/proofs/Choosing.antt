-- Choices between two numbers.
use Rattle.std.proofs.Common.{◌≡◌, ℕ, ◌+◌, ◌*◌, ◌<◌, Bool, true, false, if◌then◌else◌, List, [], ◌∷◌, ◌++◌, length, take, slice_get, Some, refl, sym, ap, ◌∙◌, subst, arith}
use Rattle.std.proofs.lemmas.Option.{get_or_from_slice_get}
use Rattle.std.proofs.lemmas.List.{length_push, take_more}
use Rattle.std.proofs.lemmas.List.Elements.{All-push}
use Rattle.bool_circuit.specs.declared.gate.Wire.{Wire}
use Rattle.bool_circuit.specs.declared.gate.Gate.{Gate}
use Rattle.bool_circuit.specs.Circuit.{wire_value, wire_values, IsWireOf, AreWiresOf, Extends}
use Rattle.bool_circuit.proofs.Values.{extends_none}
use Rattle.bool_circuit.proofs.Extending.{extends_trans, wires_stay, wire_values_stay}
use Rattle.integer_bits.proofs.Cutting.{resized_cut}
use Rattle.integer_bits.proofs.Resizing.{length_values}
use Rattle.integer_bits.proofs.Ripple.{map-push}
use Rattle.integer_bits.proofs.Widening.{all_resized}
use Rattle.integer_bits.specs.Numbers.{integer_of, integer_at, cut, resized}
use Rattle.integer_bits.specs.Steps.{IsChosenSoFar}

same_either : {X : Type 0} (p : Bool) (x : X) → x ≡ (if p then x else x)
same_either true x = refl
same_either false x = refl

pub none_chosen : (old : List Gate) (pick : Wire) (a b : List Wire) → IsChosenSoFar old pick a b 0 old []
none_chosen old pick a b = record { extends = extends_none old (3 * 0); size = refl; wires = λ k d l. absurd (omega arith); values = λ bits. same_either (wire_value old pick bits) [] }

pushed_either : (p : Bool) (xs ys : List Bool) (x y : Bool) → (if p then xs else ys) ++ (if p then x else y) ∷ [] ≡ (if p then xs ++ x ∷ [] else ys ++ y ∷ [])
pushed_either true xs ys x y = refl
pushed_either false xs ys x y = refl

values_at : (gates : List Gate) (a : List Wire) (i : ℕ) (x : Wire) (bits : List Bool) → i < length a → slice_get a i ≡ Some x → wire_values gates (take i a) bits ++ wire_value gates x bits ∷ [] ≡ wire_values gates (take (i + 1) a) bits
values_at gates a i x bits l e =
    sym (ap (λ t. wire_values gates t bits) (take_more a i x l ∙ ap (λ y. take i a ++ y ∷ []) (get_or_from_slice_get a i x x e)) ∙ map-push (λ w. wire_value gates w bits) (take i a) x)

wire_at : (gates : List Gate) (a : List Wire) (i : ℕ) (x : Wire) → AreWiresOf gates a → i < length a → slice_get a i ≡ Some x → IsWireOf gates x
wire_at gates a i x h l e = subst (IsWireOf gates) (get_or_from_slice_get a i x x e) (h i x l)

pub chosen_pushed : (old mid new : List Gate) (pick : Wire) (a b : List Wire) (i : ℕ) (x y w : Wire) (chosen more : List Wire) → IsChosenSoFar old pick a b i mid chosen → IsWireOf old pick → AreWiresOf old a → AreWiresOf old b
    → i < length a → length b ≡ length a → slice_get a i ≡ Some x → slice_get b i ≡ Some y → Extends mid new 3 → IsWireOf new w
    → ((bits : List Bool) → wire_value new w bits ≡ (if wire_value mid pick bits then wire_value mid x bits else wire_value mid y bits)) → more ≡ chosen ++ w ∷ [] → IsChosenSoFar old pick a b (i + 1) new more
chosen_pushed old mid new pick a b i x y w chosen more f op oa ob la lb ex ey ext ww v e = rw e (record {
  extends = (let z : 3 * (i + 1) ≡ 3 * i + 3 = omega arith in rw z (extends_trans old mid new (3 * i) 3 f.extends ext));
  size = length_push chosen w ∙ ap (λ k. k + 1) f.size;
  wires = All-push (IsWireOf new) chosen w (wires_stay mid new 3 chosen ext f.wires) ww;
  values = λ bits.
      let lb' : i < length b = omega arith in
      let p : wire_value mid pick bits ≡ wire_value old pick bits = f.extends.keeps pick op bits in
      let vx : wire_value mid x bits ≡ wire_value old x bits = f.extends.keeps x (wire_at old a i x oa la ex) bits in
      let vy : wire_value mid y bits ≡ wire_value old y bits = f.extends.keeps y (wire_at old b i y ob lb' ey) bits in
      let one : wire_value new w bits ≡ (if wire_value old pick bits then wire_value old x bits else wire_value old y bits) =
      v bits ∙ ap (λ b. if b then wire_value mid x bits else wire_value mid y bits) p ∙ ap (λ t. if wire_value old pick bits then t else wire_value mid y bits) vx ∙ ap (λ t. if wire_value old pick bits then wire_value old x bits else t) vy in
      map-push (λ w. wire_value new w bits) chosen w
      ∙ ap (λ t. t ++ wire_value new w bits ∷ []) (wire_values_stay mid new 3 chosen bits ext f.wires ∙ f.values bits)
      ∙ ap (λ t. (if wire_value old pick bits then wire_values old (take i a) bits else wire_values old (take i b) bits) ++ t ∷ []) one
      ∙ pushed_either (wire_value old pick bits) (wire_values old (take i a) bits) (wire_values old (take i b) bits) (wire_value old x bits) (wire_value old y bits)
      ∙ ap (λ t. if wire_value old pick bits then t else wire_values old (take i b) bits ++ wire_value old y bits ∷ []) (values_at old a i x bits la ex)
      ∙ ap (λ t. if wire_value old pick bits then wire_values old (take (i + 1) a) bits else t) (values_at old b i y bits lb' ey);
})

pub chosen_cut : (w : ℕ) (old new : List Gate) (pick : Wire) (a b la lb r : List Wire) → 0 < w → 0 < length a → 0 < length b → la ≡ resized w a → lb ≡ resized w b → length lb ≡ length la → IsChosenSoFar old pick la lb (length la) new r
    → (bits : List Bool) → integer_at new r bits ≡ cut w (if wire_value old pick bits then integer_at old a bits else integer_at old b bits)
chosen_cut w old new pick a b la lb r l sa sb ea eb same s bits = ap integer_of (s.values bits) ∙ by (wire_value old pick bits)
  where
    by : (p : Bool) → integer_of (if p then wire_values old (take (length la) la) bits else wire_values old (take (length la) lb) bits) ≡ cut w (if p then integer_at old a bits else integer_at old b bits)
    by true = ap integer_of (all_resized old w a la bits (length la) ea (omega arith)) ∙ resized_cut w (wire_values old a bits) l (omega (arith, length_values old a bits))
    by false = ap integer_of (all_resized old w b lb bits (length la) eb (omega arith)) ∙ resized_cut w (wire_values old b bits) l (omega (arith, length_values old b bits))
