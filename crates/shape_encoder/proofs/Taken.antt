-- Edges that are taken, one after another.
use Rattle.std.proofs.Common.{◌≡◌, ℕ, ◌+◌, ◌*◌, Bool, true, false, not, ◌&&◌, ◌||◌, List, [], ◌∷◌, ◌++◌, take, Option, Some, refl, sym, ap, ◌∙◌, arith}
use Rattle.std.specs.Prelude.{slice_get, nat_eq}
use Rattle.std.specs.List.{All, list_all}
use Rattle.std.proofs.lemmas.List.Folds.{list_any-append}
use Rattle.bool_circuit.specs.declared.gate.Wire.{Wire}
use Rattle.bool_circuit.specs.declared.gate.Gate.{Gate}
use Rattle.bool_circuit.specs.Circuit.{wire_value, entry, IsWireOf, Extends}
use Rattle.bool_circuit.proofs.Extending.{extends_trans, extends_within}
use Rattle.clf_tree.specs.Lists.{each_two}
use Rattle.set_bits.specs.declared.layout.Edge.{Edge}
use Rattle.set_bits.specs.Sets.{is_here}
use Rattle.set_bits.specs.Reaching.{wire_at, IsTableOf}
use Rattle.set_bits.proofs.Combining.{or_false}
use Rattle.shown_instance.specs.Shown.{is_taken}
use Rattle.shown_instance.specs.Consistent.{has_taken, are_single}
use Rattle.shape_encoder.specs.Reading.{IsBit}
use Rattle.shape_encoder.specs.Taking.{AreTaken}
use Rattle.shape_encoder.proofs.Steps.{all_item, take_item, list_all-push}

pub each_two-push : {X : Type 0} (t : X → X → Bool) (xs : List X) (x : X) → each_two t (xs ++ x ∷ []) ≡ (each_two t xs && list_all (λ y. t y x) xs)
each_two-push t [] x = refl
each_two-push t (y ∷ ys) x =
    ap (λ b. b && each_two t (ys ++ x ∷ [])) (list_all-push (t y) ys x) ∙ ap (λ b. (list_all (t y) ys && t y x) && b) (each_two-push t ys x)
    ∙ shuffle (list_all (t y) ys) (t y x) (each_two t ys) (list_all (λ z. t z x) ys)
  where
    shuffle : (a b c d : Bool) → ((a && b) && (c && d)) ≡ ((a && c) && (b && d))
    shuffle false b c d = refl
    shuffle true true c d = refl
    shuffle true false true d = refl
    shuffle true false false d = refl

none_twice : (bits : List Bool) (x : Edge) (ys : List Edge) → list_all (λ y. not (is_taken bits x.from y && entry bits x.here)) ys ≡ not (has_taken ys bits x.from && entry bits x.here)
none_twice bits x [] = refl
none_twice bits x (y ∷ ys) = ap (λ b. not (is_taken bits x.from y && entry bits x.here) && b) (none_twice bits x ys) ∙ join (is_taken bits x.from y) (has_taken ys bits x.from) (entry bits x.here)
  where
    join : (a b c : Bool) → (not (a && c) && not (b && c)) ≡ not ((a || b) && c)
    join false b c = refl
    join true false true = refl
    join true false false = refl
    join true true true = refl
    join true true false = refl

pub taken_more : (old mid new : List Gate) (edges : List Edge) (at : ℕ) (e : Edge) (table next : List (Option Wire)) (single once : Wire) → All (λ x. IsBit old x.here) edges → slice_get edges at ≡ Some e → AreTaken old edges at mid table single
    → Extends mid new 4 → IsWireOf new once → IsTableOf new next
    → ((bits : List Bool) → wire_value new once bits ≡ (wire_value mid single bits && not (is_here mid (wire_at table e.from) bits && wire_value mid e.here bits)))
    → ((bits : List Bool) (k : ℕ) → is_here new (wire_at next k) bits ≡ (is_here mid (wire_at table k) bits || (nat_eq e.from k && wire_value mid e.here bits)))
    → AreTaken old edges (at + 1) new next once
taken_more old mid new edges at e table next single once all get t x w tb sv tv = record {
  extends = extends_within old new ((4 * at + 1) + 4) (4 * (at + 1) + 1) (omega arith) (extends_trans old mid new (4 * at + 1) 4 t.extends x);
  wires = tb;
  single_wire = w;
  taken = λ bits i.
      tv bits i ∙ ap (λ b. b || (nat_eq e.from i && wire_value mid e.here bits)) (t.taken bits i) ∙ ap (λ b. has_taken (take at edges) bits i || (nat_eq e.from i && b)) (here bits)
      ∙ sym (ap (λ es. has_taken es bits i) (take_item edges at e get) ∙ list_any-append (is_taken bits i) (take at edges) (e ∷ []) ∙ ap (λ b. has_taken (take at edges) bits i || b) (or_false (is_taken bits i e)));
  apart = λ bits.
      sv bits ∙ ap (λ b. b && not (is_here mid (wire_at table e.from) bits && wire_value mid e.here bits)) (t.apart bits)
      ∙ ap (λ b. are_single (take at edges) bits && not (b && wire_value mid e.here bits)) (t.taken bits e.from)
      ∙ ap (λ b. are_single (take at edges) bits && not (has_taken (take at edges) bits e.from && b)) (here bits)
      ∙ sym (ap (λ es. are_single es bits) (take_item edges at e get) ∙ each_two-push (λ y z. not (is_taken bits z.from y && entry bits z.here)) (take at edges) e ∙ ap (λ b. are_single (take at edges) bits && b) (none_twice bits e (take at edges)));
}
  where
    mine : IsBit old e.here
    mine = all_item (λ (y : Edge). IsBit old y.here) edges at e all get

    here : (bits : List Bool) → wire_value mid e.here bits ≡ entry bits e.here
    here bits = t.extends.keeps e.here mine.wire bits ∙ mine.value bits

pub edge_wire : (old mid : List Gate) (n : ℕ) (edges : List Edge) (at : ℕ) (e : Edge) → All (λ x. IsBit old x.here) edges → slice_get edges at ≡ Some e → Extends old mid n → IsWireOf mid e.here
edge_wire old mid n edges at e all get x = let i = (all_item (λ (y : Edge). IsBit old y.here) edges at e all get).wire in omega (arith, i, x.at_least)
