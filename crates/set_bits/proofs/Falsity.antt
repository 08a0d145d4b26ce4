-- Counting the false wires.
use Rattle.std.proofs.Common.{◌≡◌, ℕ, ◌+◌, ◌-◌, ◌*◌, ◌<◌, ◌≤◌, Bool, true, false, not, List, [], ◌∷◌, ◌++◌, length, map, take, get_or, slice_get, Some, refl, sym, ap, ◌∙◌, subst, arith}
use Rattle.std.specs.Prelude.{nat_le}
use Rattle.std.proofs.Math.Nat.{mul-le-mul_left}
use Rattle.std.proofs.lemmas.Bool.Decides.{nat_tests}
use Rattle.std.proofs.lemmas.Option.{get_or_from_slice_get}
use Rattle.std.proofs.lemmas.List.{take_more, length-map, length_push}
use Rattle.std.proofs.lemmas.List.Elements.{All-push}
use Rattle.bool_circuit.specs.declared.gate.Wire.{Wire}
use Rattle.bool_circuit.specs.declared.gate.Gate.{Gate}
use Rattle.bool_circuit.specs.Circuit.{wire_value, wire_values, IsWireOf, AreWiresOf, Extends}
use Rattle.bool_circuit.proofs.Values.{extends_none}
use Rattle.bool_circuit.proofs.Extending.{extends_trans, wires_stay, wire_values_stay}
use Rattle.integer_bits.specs.Totals.{count_true}
use Rattle.set_bits.specs.Counts.{IsNegated}

map-push : {X Y : Type 0} (f : X → Y) → (xs : List X) (x : X) → map f (xs ++ x ∷ []) ≡ map f xs ++ f x ∷ []
map-push f [] x = refl
map-push f (y ∷ xs) x = ap (λ t. f y ∷ t) (map-push f xs x)

pub none_negated : (old : List Gate) → IsNegated old [] old []
none_negated old = record { extends = extends_none old 0; wires = λ k d l. absurd (omega arith); values = λ bits. refl }

pub one_negated : (old mid new : List Gate) (a : List Wire) (x w : Wire) (negated : List Wire) → IsNegated old a mid negated → IsWireOf old x → Extends mid new 1 → IsWireOf new w
    → ((bits : List Bool) → wire_value new w bits ≡ not (wire_value mid x bits)) → IsNegated old (a ++ x ∷ []) new (negated ++ w ∷ [])
one_negated old mid new a x w negated f ox ext ww v = record {
  extends = (let z : length (a ++ x ∷ []) ≡ length a + 1 = length_push a x in rw z (extends_trans old mid new (length a) 1 f.extends ext));
  wires = All-push (IsWireOf new) negated w (wires_stay mid new 1 negated ext f.wires) ww;
  values = λ bits.
      map-push (λ w. wire_value new w bits) negated w
      ∙ ap (λ t. t ++ wire_value new w bits ∷ []) (wire_values_stay mid new 1 negated bits ext f.wires ∙ f.values bits)
      ∙ ap (λ t. map not (wire_values old a bits) ++ t ∷ []) (v bits ∙ ap not (f.extends.keeps x ox bits))
      ∙ sym (ap (map not) (map-push (λ w. wire_value old w bits) a x) ∙ map-push not (wire_values old a bits) (wire_value old x bits));
}

-- as the loop has it
pub negated_pushed : (old mid new : List Gate) (a : List Wire) (i : ℕ) (x w : Wire) (negated more : List Wire) → IsNegated old (take i a) mid negated → AreWiresOf old a → i < length a → slice_get a i ≡ Some x → Extends mid new 1 → IsWireOf new w
    → ((bits : List Bool) → wire_value new w bits ≡ not (wire_value mid x bits)) → more ≡ negated ++ w ∷ [] → IsNegated old (take (i + 1) a) new more
negated_pushed old mid new a i x w negated more f wa la ex ext ww v e =
    let at : get_or a i x ≡ x = get_or_from_slice_get a i x x ex in
    let t : take (i + 1) a ≡ take i a ++ x ∷ [] = take_more a i x la ∙ ap (λ y. take i a ++ y ∷ []) at in
    rw (e, t) (one_negated old mid new (take i a) x w negated f (subst (IsWireOf old) at (wa i x la)) ext ww v)

-- ---- how many are false

count_both : (bs : List Bool) → count_true (map not bs) + count_true bs ≡ length bs
count_both [] = refl
count_both (true ∷ bs) = omega (arith, count_both bs)
count_both (false ∷ bs) = omega (arith, count_both bs)

false_test : (n c d l : ℕ) → c + d ≡ l → nat_le n c ≡ nat_le (d + n) l
false_test n c d l e = grind (arith, nat_tests)

pub many_negated : (old new : List Gate) (ws negated : List Wire) (n : ℕ) (bits : List Bool) → IsNegated old ws new negated → nat_le n (count_true (wire_values new negated bits)) ≡ nat_le (count_true (wire_values old ws bits) + n) (length ws)
many_negated old new ws negated n bits f =
    ap (λ t. nat_le n (count_true t)) (f.values bits) ∙ false_test n (count_true (map not (wire_values old ws bits))) (count_true (wire_values old ws bits)) (length ws) (count_both (wire_values old ws bits) ∙ length-map ws (λ w. wire_value old w bits))

pub few_left : (n l c : ℕ) → n ≤ l → not (nat_le (c + (l - n + 1)) l) ≡ nat_le n c
few_left n l c h = grind (arith, nat_tests)

pub many_left : (n l c : ℕ) → n ≤ l → nat_le (c + (l - n)) l ≡ nat_le c n
many_left n l c h = grind (arith, nat_tests)

pub room_for_false : (m l n : ℕ) → m ≤ n → l + (2 * m * l + 3) ≤ 2 * l * (n + 1) + 3
room_for_false m l n h = let p = mul-le-mul_left (2 * l) h in omega (arith, p)
