-- Edges that are compared, one after another.
use Rattle.std.proofs.Common.{◌≡◌, ℕ, ◌+◌, ◌*◌, Bool, true, false, not, ◌&&◌, ◌||◌, List, [], ◌∷◌, take, Some, None, refl, sym, ap, ◌∙◌, arith}
use Rattle.std.specs.Prelude.{slice_get}
use Rattle.std.specs.List.{All, list_any, list_all}
use Rattle.std.proofs.lemmas.List.Folds.{list_any-append}
use Rattle.bool_circuit.specs.declared.gate.Wire.{Wire}
use Rattle.bool_circuit.specs.declared.gate.Gate.{Gate}
use Rattle.bool_circuit.specs.Circuit.{wire_value, entry, IsWireOf, Extends}
use Rattle.bool_circuit.proofs.Extending.{extends_trans, extends_within}
use Rattle.clf_tree.specs.Lists.{numbers_below}
use Rattle.set_bits.specs.declared.layout.Edge.{Edge}
use Rattle.set_bits.specs.Sets.{is_here}
use Rattle.set_bits.proofs.Combining.{or_false}
use Rattle.shape_encoder.specs.Reading.{IsBit}
use Rattle.shape_encoder.proofs.Steps.{all_item, and_true, take_item, list_all-push, numbers-push}
use Rattle.canonical_encoder.specs.declared.parents.Compared.{Compared}
use Rattle.canonical_encoder.specs.Slots.{has_begun}
use Rattle.canonical_encoder.specs.Comparing.{IsNext, IsComparedSoFar, begins_below}

pub and_assoc : (a b c : Bool) → ((a && b) && c) ≡ (a && (b && c))
and_assoc true b c = refl
and_assoc false b c = refl

begun_more : (bits : List Bool) (edges : List Edge) (n : ℕ) (e : Edge) → slice_get edges n ≡ Some e
    → has_begun edges bits (n + 1) ≡ (has_begun edges bits n || entry bits e.here)
begun_more bits edges n e get =
    ap (list_any (λ (x : Edge). entry bits x.here)) (take_item edges n e get)
    ∙ list_any-append (λ (x : Edge). entry bits x.here) (take n edges) (e ∷ [])
    ∙ ap (λ b. has_begun edges bits n || b) (or_false (entry bits e.here))

pub none_compared : (old : List Gate) (earlier later : List Edge) (all : Wire) → IsWireOf old all
    → IsComparedSoFar old earlier later all 0 old (record { earlier = None; later = None; right = all })
none_compared old earlier later all w = record {
  extends = record { at_least = omega arith; at_most = omega arith; same_inputs = refl; keeps = λ v h bits. refl };
  wires = record { earlier = tt; later = tt; right = w };
  earlier_begun = λ bits. refl;
  later_begun = λ bits. refl;
  value = λ bits. sym (and_true (wire_value old all bits));
}

pub compared_more : (old mid new : List Gate) (earlier later : List Edge) (all : Wire) (n : ℕ) (e l : Edge) (before c : Compared)
    → All (λ x. IsBit old x.here) earlier → All (λ x. IsBit old x.here) later → slice_get earlier n ≡ Some e → slice_get later n ≡ Some l
    → IsComparedSoFar old earlier later all n mid before → Extends mid new 5 → IsNext mid before e l new c
    → IsComparedSoFar old earlier later all (n + 1) new c
compared_more old mid new earlier later all n e l before c all_e all_l get_e get_l s x next = record {
  extends = extends_within old new (5 * n + 5) (5 * (n + 1)) (omega arith) (extends_trans old mid new (5 * n) 5 s.extends x);
  wires = next.wires;
  earlier_begun = first;
  later_begun = second;
  value = λ bits.
      next.right bits ∙ ap (λ b. b && (not (is_here new c.later bits) || is_here new c.earlier bits)) (s.value bits)
      ∙ ap (λ b. (wire_value old all bits && begins_below earlier later bits n) && (not b || is_here new c.earlier bits)) (second bits)
      ∙ ap (λ b. (wire_value old all bits && begins_below earlier later bits n) && (not (has_begun later bits (n + 1)) || b)) (first bits)
      ∙ and_assoc (wire_value old all bits) (begins_below earlier later bits n) (test bits n)
      ∙ ap (λ b. wire_value old all bits && b)
      (sym (ap (list_all (test bits)) (numbers-push n) ∙ list_all-push (test bits) (numbers_below n) n));
}
  where
    test : List Bool → ℕ → Bool
    test bits k = not (has_begun later bits (k + 1)) || has_begun earlier bits (k + 1)

    bit : (w : Wire) → IsBit old w → (bits : List Bool) → wire_value mid w bits ≡ entry bits w
    bit w b bits = s.extends.keeps w b.wire bits ∙ b.value bits

    first : (bits : List Bool) → is_here new c.earlier bits ≡ has_begun earlier bits (n + 1)
    first bits =
        next.earlier bits ∙ ap (λ b. b || wire_value mid e.here bits) (s.earlier_begun bits)
        ∙ ap (λ b. has_begun earlier bits n || b) (bit e.here (all_item (λ (y : Edge). IsBit old y.here) earlier n e all_e get_e) bits)
        ∙ sym (begun_more bits earlier n e get_e)

    second : (bits : List Bool) → is_here new c.later bits ≡ has_begun later bits (n + 1)
    second bits =
        next.later bits ∙ ap (λ b. b || wire_value mid l.here bits) (s.later_begun bits)
        ∙ ap (λ b. has_begun later bits n || b) (bit l.here (all_item (λ (y : Edge). IsBit old y.here) later n l all_l get_l) bits)
        ∙ sym (begun_more bits later n l get_l)
