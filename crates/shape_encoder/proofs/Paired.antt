-- Slots that are compared two by two, one after another.
use Rattle.std.proofs.Common.{◌≡◌, ℕ, ◌+◌, ◌*◌, ◌<◌, ◌≤◌, Bool, true, false, not, ◌&&◌, List, [], length, take, get_or, Option, Some, refl, sym, ap, ◌∙◌, subst, arith}
use Rattle.std.specs.Prelude.{slice_get}
use Rattle.std.specs.List.{All, list_all, list_any, sum_by}
use Rattle.std.proofs.lemmas.List.{get_or_read, take_more}
use Rattle.std.proofs.lemmas.Option.{get_or_from_slice_get}
use Rattle.bool_circuit.specs.declared.gate.Wire.{Wire}
use Rattle.bool_circuit.specs.declared.gate.Gate.{Gate}
use Rattle.bool_circuit.specs.Circuit.{wire_value, IsWireOf, Extends}
use Rattle.bool_circuit.proofs.Extending.{extends_trans, extends_within}
use Rattle.clf_tree.specs.Lists.{each_two}
use Rattle.set_bits.specs.declared.layout.Edge.{Edge}
use Rattle.shape_encoder.specs.Reading.{IsBit}
use Rattle.shape_encoder.specs.Comparing.{list_at, joins, meet, IsMadeOf, AreTies, are_twins, twin_cost, place_cost, twins_cost, HasNoTwinSoFar, AreAloneSoFar}
use Rattle.shape_encoder.proofs.Steps.{and_true, list_all-push, all_item, take_item, sum-push, sum-before, bit_stays}
use Rattle.shape_encoder.proofs.Taken.{each_two-push}
use Rattle.shape_encoder.proofs.Compared.{wire_stays, made_stays, joined_meet, sum_below-push, sum_below-room}

-- ---- what the edges of slots keep

pub ties_stay : (old new : List Gate) (n : ℕ) (kin : List ℕ) (parents targets : List (List Edge)) → Extends old new n → AreTies old kin parents targets → AreTies new kin parents targets
ties_stay old new n kin parents targets x t = record {
  parents_known = t.parents_known;
  targets_known = t.targets_known;
  parent_bits = λ i m k d l. bit_stays old new n (get_or (list_at parents i) k d).here x (t.parent_bits i m k d l);
  target_bits = λ i m k d l. bit_stays old new n (get_or (list_at targets i) k d).here x (t.target_bits i m k d l);
}

-- the list of a table at a place
pub list_here : (table : List (List Edge)) (i : ℕ) (list : List Edge) → i < length table → list ≡ get_or table i list → list ≡ list_at table i
list_here table i list l e = get_or_read table i list l e []

pub here_bits : (gates : List Gate) (table : List (List Edge)) (i : ℕ) (list : List Edge) → i < length table → list ≡ get_or table i list → ((j : ℕ) → j < length table → All (λ e. IsBit gates e.here) (list_at table j)) → All (λ e. IsBit gates e.here) list
here_bits gates table i list l e h = subst (λ xs. All (λ (x : Edge). IsBit gates x.here) xs) (sym (list_here table i list l e)) (h i l)

pub kin_place : (count : ℕ) (kin : List ℕ) (n slot : ℕ) → All (λ i. i < count) kin → slice_get kin n ≡ Some slot → slot < count
kin_place count kin n slot a e = all_item (λ i. i < count) kin n slot a e

pub slot_is : (kin : List ℕ) (n slot : ℕ) → slice_get kin n ≡ Some slot → get_or kin n 0 ≡ slot
slot_is kin n slot e = get_or_from_slice_get kin n slot 0 e

pub and_moves : (a b c : Bool) → ((a && b) && c) ≡ (a && (b && c))
and_moves true b c = refl
and_moves false b c = refl

-- ---- a slot and those before it

pub record AreComparedSoFar (parents targets : List (List Edge)) (old : List Gate) (kin : List ℕ) (ups ontos : List Edge) (all : Wire) (n : ℕ) (new : List Gate) (up onto : List (Option Wire)) (wire : Wire) : Type 0 where
  pub alone : HasNoTwinSoFar parents targets old kin ups ontos all n new wire
  pub parents_by : IsMadeOf new ups up
  pub targets_by : IsMadeOf new ontos onto

pub none_before : (parents targets : List (List Edge)) (old new : List Gate) (kin : List ℕ) (ups ontos : List Edge) (up onto : List (Option Wire)) (all : Wire) → Extends old new (length ups + length ontos) → IsMadeOf new ups up → IsMadeOf new ontos onto → IsWireOf old all
    → AreComparedSoFar parents targets old kin ups ontos all 0 new up onto all
none_before parents targets old new kin ups ontos up onto all x p t w = record {
  alone = record {
    extends = extends_within old new (length ups + length ontos) (length ups + length ontos + sum_by (twin_cost parents targets) (take 0 kin)) (omega arith) x;
    is_wire = wire_stays old new (length ups + length ontos) (Some all) x w;
    value = λ bits. x.keeps all w bits ∙ sym (and_true (wire_value old all bits));
  };
  parents_by = p;
  targets_by = t;
}

pub twins_more : (parents targets : List (List Edge)) (old mid new : List Gate) (kin : List ℕ) (ups ontos : List Edge) (all : Wire) (n earlier : ℕ) (up onto : List (Option Wire)) (ps ts : List Edge) (right wire : Wire) → slice_get kin n ≡ Some earlier
    → ps ≡ list_at parents earlier → ts ≡ list_at targets earlier → AreComparedSoFar parents targets old kin ups ontos all n mid up onto right → Extends mid new (2 * length ps + 2 * length ts + 5) → IsWireOf new wire
    → ((bits : List Bool) → wire_value new wire bits ≡ (wire_value mid right bits && not (list_any (joins mid up bits) ps && list_any (joins mid onto bits) ts)))
    → AreComparedSoFar parents targets old kin ups ontos all (n + 1) new up onto wire
twins_more parents targets old mid new kin ups ontos all n earlier up onto ps ts right wire get p t s x w v = record {
  alone = record {
    extends = extends_within old new ((length ups + length ontos + sum_by (twin_cost parents targets) (take n kin)) + (2 * length ps + 2 * length ts + 5)) (length ups + length ontos + sum_by (twin_cost parents targets) (take (n + 1) kin)) (omega (arith, next, cost))
        (extends_trans old mid new (length ups + length ontos + sum_by (twin_cost parents targets) (take n kin)) (2 * length ps + 2 * length ts + 5) s.alone.extends x);
    is_wire = w;
    value = λ bits.
        v bits
        ∙ ap (λ b. wire_value mid right bits && not (b && list_any (joins mid onto bits) ts)) (joined_meet mid up ups ps bits s.parents_by ∙ ap (λ es. meet bits es ups) p)
        ∙ ap (λ b. wire_value mid right bits && not (meet bits (list_at parents earlier) ups && b)) (joined_meet mid onto ontos ts bits s.targets_by ∙ ap (λ es. meet bits es ontos) t)
        ∙ ap (λ b. b && apart bits earlier) (s.alone.value bits) ∙ and_moves (wire_value old all bits) (list_all (apart bits) (take n kin)) (apart bits earlier)
        ∙ ap (λ b. wire_value old all bits && b) (sym (ap (list_all (apart bits)) (take_item kin n earlier get) ∙ list_all-push (apart bits) (take n kin) earlier));
  };
  parents_by = made_stays mid new (2 * length ps + 2 * length ts + 5) ups up x s.parents_by;
  targets_by = made_stays mid new (2 * length ps + 2 * length ts + 5) ontos onto x s.targets_by;
}
  where
    apart : List Bool → ℕ → Bool
    apart bits j = not (meet bits (list_at parents j) ups && meet bits (list_at targets j) ontos)

    next : sum_by (twin_cost parents targets) (take (n + 1) kin) ≡ sum_by (twin_cost parents targets) (take n kin) + twin_cost parents targets earlier
    next = sum-push (twin_cost parents targets) kin n earlier get

    cost : 2 * length ps + 2 * length ts + 5 ≡ twin_cost parents targets earlier
    cost = ap (λ es. 2 * length es + 2 * length ts + 5) p ∙ ap (λ es. 2 * length (list_at parents earlier) + 2 * length es + 5) t

-- a pair within the cost of all
pub twin_within : (parents targets : List (List Edge)) (kin : List ℕ) (n place earlier : ℕ) (ps ts : List Edge) → slice_get kin n ≡ Some earlier → n < place → ps ≡ list_at parents earlier → ts ≡ list_at targets earlier
    → sum_by (twin_cost parents targets) (take n kin) + (2 * length ps + 2 * length ts + 5) ≤ sum_by (twin_cost parents targets) (take place kin)
twin_within parents targets kin n place earlier ps ts get l p t =
    let r = sum-before (twin_cost parents targets) kin n place earlier get l in
    let f : 2 * length ps + 2 * length ts + 5 ≡ twin_cost parents targets earlier = ap (λ es. 2 * length es + 2 * length ts + 5) p ∙ ap (λ es. 2 * length (list_at parents earlier) + 2 * length es + 5) t in
    omega (arith, r, f)

-- ---- a slot

-- ---- all slots

pub none_alone : (parents targets : List (List Edge)) (old : List Gate) (kin : List ℕ) (all : Wire) → IsWireOf old all → Extends old old 0 → AreAloneSoFar parents targets old kin all 0 0 old all
none_alone parents targets old kin all w x = record { extends = x; is_wire = w; value = λ bits. sym (and_true (wire_value old all bits)) }

pub alone_more : (parents targets : List (List Edge)) (old mid new : List Gate) (kin : List ℕ) (all : Wire) (n cost more total : ℕ) (right wire : Wire) → n < length kin → cost + more ≤ total → AreAloneSoFar parents targets old kin all n cost mid right → Extends mid new more → IsWireOf new wire
    → ((bits : List Bool) → wire_value new wire bits ≡ (wire_value mid right bits && list_all (λ j. not (are_twins parents targets bits j (get_or kin n 0))) (take n kin)))
    → AreAloneSoFar parents targets old kin all (n + 1) total new wire
alone_more parents targets old mid new kin all n cost more total right wire l h s x w v = record {
  extends = extends_within old new (cost + more) total h (extends_trans old mid new cost more s.extends x);
  is_wire = w;
  value = λ bits.
      v bits ∙ ap (λ b. b && list_all (λ j. not (are_twins parents targets bits j (get_or kin n 0))) (take n kin)) (s.value bits)
      ∙ and_moves (wire_value old all bits) (each_two (λ j i. not (are_twins parents targets bits j i)) (take n kin)) (list_all (λ j. not (are_twins parents targets bits j (get_or kin n 0))) (take n kin))
      ∙ ap (λ b. wire_value old all bits && b) (sym (ap (each_two (λ j i. not (are_twins parents targets bits j i))) (take_more kin n 0 l) ∙ each_two-push (λ j i. not (are_twins parents targets bits j i)) (take n kin) (get_or kin n 0)));
}

pub twins_cost-push : (parents targets : List (List Edge)) (kin : List ℕ) (n : ℕ) → twins_cost parents targets kin (n + 1) ≡ twins_cost parents targets kin n + place_cost parents targets kin n
twins_cost-push parents targets kin n = sum_below-push (place_cost parents targets kin) n

pub twins_cost-room : (parents targets : List (List Edge)) (kin : List ℕ) (n : ℕ) → n < length kin → twins_cost parents targets kin n + place_cost parents targets kin n ≤ twins_cost parents targets kin (length kin)
twins_cost-room parents targets kin n l = sum_below-room (place_cost parents targets kin) n (length kin) l
