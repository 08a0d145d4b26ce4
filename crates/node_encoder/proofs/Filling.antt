-- Tables that are filled item by item.
use Rattle.std.proofs.Common.{◌≡◌, ℕ, zero, suc, ◌+◌, ◌<◌, Bool, true, false, cond, inl, inr, List, [], ◌∷◌, ◌++◌, length, take, map, get_or, set, Option, Some, None, refl, sym, ap, ◌∙◌, subst, arith, append-nil}
use Rattle.std.specs.Prelude.{nat_eq, slice_get, slice_index_or, is_some}
use Rattle.std.specs.Option.{option_and_then, option_or}
use Rattle.std.specs.List.{filter, find, range_with_len}
use Rattle.std.proofs.lemmas.Bool.{cases_eq, true≢false}
use Rattle.std.proofs.lemmas.Grind.{common_steps}
use Rattle.std.proofs.lemmas.List.{get_or-set_same, get_or-set_other, length-map, map-append}
use Rattle.std.proofs.lemmas.List.FromFn.{length-range_with_len}
use Rattle.std.proofs.lemmas.List.Elements.{filter-append}
use Rattle.std.proofs.lemmas.List.Folds.{find-append}
use Rattle.std.proofs.lemmas.Option.{get_or_from_slice_get, slice_get_within}
use Rattle.bool_circuit.specs.declared.gate.Wire.{Wire}
use Rattle.clf_tree.specs.declared.instance.Node.{Node}
use Rattle.clf_tree.specs.Lists.{numbers_below}
use Rattle.set_bits.specs.declared.layout.Edge.{Edge}
use Rattle.set_bits.specs.declared.layout.SlotBits.{SlotBits}
use Rattle.set_bits.specs.Fitting.{slot_clafer}
use Rattle.shown_instance.specs.Shown.{is_at}
use Rattle.told_constraints.specs.Told.{turned}
use Rattle.node_encoder.specs.Tables.{AreBySlot}
use Rattle.node_encoder.proofs.Loops.{take_item, numbers_more}

itself : (n : ℕ) → nat_eq n n ≡ true
itself n = grind (arith, common_steps)

others : (m n : ℕ) → (m ≡ n → ⊥) → nat_eq m n ≡ false
others m n h = grind (arith, common_steps)

-- ---- one item

pub pushed_empty : {X : Type 0} (table : List (List X)) (k : ℕ) → slice_index_or (table ++ [] ∷ []) k [] ≡ slice_index_or table k []
pushed_empty [] zero = refl
pushed_empty [] (suc k) = refl
pushed_empty (x ∷ xs) zero = refl
pushed_empty (x ∷ xs) (suc k) = pushed_empty xs k

pub pushed_none : {X : Type 0} (table : List (Option X)) (k : ℕ) → slice_index_or (table ++ None ∷ []) k None ≡ slice_index_or table k None
pushed_none [] zero = refl
pushed_none [] (suc k) = refl
pushed_none (x ∷ xs) zero = refl
pushed_none (x ∷ xs) (suc k) = pushed_none xs k

-- an item more in a list of the table
pub list_added : {X : Type 0} (old table : List (List X)) (i : ℕ) (x : X) (list new : List X) → i < length table → list ≡ get_or table i [] → new ≡ list ++ x ∷ [] → ((k : ℕ) → slice_index_or table k [] ≡ slice_index_or old k []) → (k : ℕ)
    → slice_index_or (set table i new) k [] ≡ slice_index_or old k [] ++ cond (nat_eq i k) (x ∷ []) []
list_added old table i x list new l was is same k = elim (cases_eq k i) [
  | inl e ↦
      ap (λ n. get_or (set table i new) n []) e ∙ get_or-set_same table i new [] l ∙ is ∙ ap (λ xs. xs ++ x ∷ []) (was ∙ same i)
      ∙ sym (ap (λ n. slice_index_or old n [] ++ cond (nat_eq i n) (x ∷ []) []) e ∙ ap (λ b. slice_index_or old i [] ++ cond b (x ∷ []) []) (itself i))
  | inr other ↦
      get_or-set_other table i k new [] other ∙ same k
      ∙ sym (ap (λ b. slice_index_or old k [] ++ cond b (x ∷ []) []) (others i k (λ s. other (sym s))) ∙ append-nil (slice_index_or old k []))
]

-- a place given where there is none
pub first_given : {X : Type 0} (old table : List (Option X)) (i : ℕ) (was new : Option X) (x : X) → i < length table → was ≡ get_or table i None → new ≡ option_or was (Some x) → ((k : ℕ) → slice_index_or table k None ≡ slice_index_or old k None) → (k : ℕ)
    → slice_index_or (set table i new) k None ≡ cond (nat_eq i k) (option_or (slice_index_or old k None) (Some x)) (slice_index_or old k None)
first_given old table i was new x l w n same k = elim (cases_eq k i) [
  | inl e ↦
      ap (λ j. get_or (set table i new) j None) e ∙ get_or-set_same table i new None l ∙ n ∙ ap (λ o. option_or o (Some x)) (w ∙ same i)
      ∙ sym (ap (λ j. cond (nat_eq i j) (option_or (slice_index_or old j None) (Some x)) (slice_index_or old j None)) e ∙ ap (λ b. cond b (option_or (slice_index_or old i None) (Some x)) (slice_index_or old i None)) (itself i))
  | inr other ↦
      get_or-set_other table i k new None other ∙ same k
      ∙ sym (ap (λ b. cond b (option_or (slice_index_or old k None) (Some x)) (slice_index_or old k None)) (others i k (λ s. other (sym s))))
]

-- ---- edges by slot

pub no_edges : (table : List (List Edge)) → table ≡ [] → AreBySlot [] table
no_edges table e = subst (AreBySlot []) (sym e) (record { at = λ s. refl })

edge_more : (edges : List Edge) (e : Edge) (old new : List (List Edge)) → AreBySlot edges old → ((k : ℕ) → slice_index_or new k [] ≡ slice_index_or old k [] ++ cond (nat_eq e.from k) (e ∷ []) []) → AreBySlot (edges ++ e ∷ []) new
edge_more edges e old new t h = record { at = λ k. h k ∙ ap (λ es. es ++ cond (nat_eq e.from k) (e ∷ []) []) (t.at k) ∙ sym (filter-append (λ (x : Edge). nat_eq x.from k) edges (e ∷ [])) }

pub from_more : (edges : List Edge) (i : ℕ) (e : Edge) (old new : List (List Edge)) → slice_get edges i ≡ Some e → AreBySlot (take i edges) old → ((k : ℕ) → slice_index_or new k [] ≡ slice_index_or old k [] ++ cond (nat_eq e.from k) (e ∷ []) [])
    → AreBySlot (take (i + 1) edges) new
from_more edges i e old new get t h = subst (λ es. AreBySlot es new) (sym (take_item edges i e get)) (edge_more (take i edges) e old new t h)

pub to_more : (edges : List Edge) (i : ℕ) (e : Edge) (old new : List (List Edge)) → slice_get edges i ≡ Some e → AreBySlot (map turned (take i edges)) old
    → ((k : ℕ) → slice_index_or new k [] ≡ slice_index_or old k [] ++ cond (nat_eq e.to k) (turned e ∷ []) []) → AreBySlot (map turned (take (i + 1) edges)) new
to_more edges i e old new get t h =
    subst (λ es. AreBySlot es new) (sym (ap (map turned) (take_item edges i e get) ∙ map-append turned (take i edges) (e ∷ []))) (edge_more (map turned (take i edges)) (turned e) old new t h)

-- ---- slots by clafer

-- by clafer, those of the first n slots
pub record AreBelowByClafer (slots : List Node) (n : ℕ) (table : List (List ℕ)) : Type 0 where
  pub at : (k : ℕ) → slice_index_or table k [] ≡ filter (λ s. nat_eq (slot_clafer slots s) k) (numbers_below n)

pub no_slots : (slots : List Node) (table : List (List ℕ)) → table ≡ [] → AreBelowByClafer slots 0 table
no_slots slots table e = subst (AreBelowByClafer slots 0) (sym e) (record { at = λ s. refl })

pub slot_more : (slots : List Node) (i : ℕ) (node : Node) (slot : ℕ) (old new : List (List ℕ)) → slice_get slots i ≡ Some node → slot ≡ i → AreBelowByClafer slots i old
    → ((k : ℕ) → slice_index_or new k [] ≡ slice_index_or old k [] ++ cond (nat_eq node.clafer k) (slot ∷ []) []) → AreBelowByClafer slots (i + 1) new
slot_more slots i node slot old new get same t h = record {
  at = λ k.
      h k ∙ ap (λ xs. xs ++ cond (nat_eq node.clafer k) (slot ∷ []) []) (t.at k)
      ∙ ap (λ c. filter (λ s. nat_eq (slot_clafer slots s) k) (numbers_below i) ++ cond (nat_eq c k) (slot ∷ []) []) (sym mine)
      ∙ ap (λ x. filter (λ s. nat_eq (slot_clafer slots s) k) (numbers_below i) ++ cond (nat_eq (slot_clafer slots i) k) (x ∷ []) []) same
      ∙ sym (ap (filter (λ s. nat_eq (slot_clafer slots s) k)) (more i) ∙ filter-append (λ s. nat_eq (slot_clafer slots s) k) (numbers_below i) (i ∷ []));
}
  where
    mine : slot_clafer slots i ≡ node.clafer
    mine = ap (λ (n : Node). n.clafer) (get_or_from_slice_get slots i node (record { clafer = 0; number = 0 }) get)

    more : (i : ℕ) → numbers_below (i + 1) ≡ numbers_below i ++ i ∷ []
    more i = let e : 0 + i ≡ i = omega arith in numbers_more 0 i ∙ ap (λ k. numbers_below i ++ k ∷ []) e

-- the wire of a slot is numbered as the slot
pub wire_of_slot : (live : List Wire) (n i : ℕ) (w : Wire) → map (λ w. w.number) live ≡ numbers_below n → slice_get live i ≡ Some w → w.number ≡ i
wire_of_slot live n i w e get = let z : 0 + i ≡ i = omega arith in from live 0 n i e get ∙ z
  where
    from : (ws : List Wire) (a m i : ℕ) → map (λ (w : Wire). w.number) ws ≡ range_with_len a m → slice_get ws i ≡ Some w → w.number ≡ a + i
    from [] a m i e get = absurd cc
    from (v ∷ vs) a zero i e get = absurd cc
    from (v ∷ vs) a (suc m) zero e get =
        let first : v.number ≡ a = cc in
        let same : v ≡ w = cc in
        let z : a ≡ a + 0 = omega arith in
        sym (ap (λ (x : Wire). x.number) same) ∙ first ∙ z
    from (v ∷ vs) a (suc m) (suc i) e get =
        let rest : map (λ (w : Wire). w.number) vs ≡ range_with_len (a + 1) m = cc in
        let z : (a + 1) + i ≡ a + suc i = omega arith in
        from vs (a + 1) m i rest get ∙ z

pub wire_there : (slots : List Node) (live : List Wire) (i : ℕ) (node : Node) → map (λ w. w.number) live ≡ numbers_below (length slots) → slice_get slots i ≡ Some node → i < length live
wire_there slots live i node e get =
    let l = slice_get_within slots i node get in
    let m : length live ≡ length slots = sym (length-map live (λ (w : Wire). w.number)) ∙ ap length e ∙ length-range_with_len 0 (length slots) in
    omega (arith, l, m)

-- ---- integers by slot

-- the places of the first n integers
pub record ArePlaces (values : List SlotBits) (n : ℕ) (table : List (Option ℕ)) : Type 0 where
  pub at : (s : ℕ) → option_and_then (slice_get values) (slice_index_or table s None) ≡ find (is_at s) (take n values)
  pub placed : (s : ℕ) → is_some (slice_index_or table s None) ≡ is_some (find (is_at s) (take n values))

pub no_places : (values : List SlotBits) (table : List (Option ℕ)) → table ≡ [] → ArePlaces values 0 table
no_places values table e = subst (ArePlaces values 0) (sym e) (record { at = λ s. refl; placed = λ s. refl })

pub place_more : (values : List SlotBits) (i : ℕ) (v : SlotBits) (old new : List (Option ℕ)) → slice_get values i ≡ Some v → ArePlaces values i old
    → ((k : ℕ) → slice_index_or new k None ≡ cond (nat_eq v.slot k) (option_or (slice_index_or old k None) (Some i)) (slice_index_or old k None)) → ArePlaces values (i + 1) new
place_more values i v old new get t h = record {
  at = λ k. ap (option_and_then (slice_get values)) (h k) ∙ at k (nat_eq v.slot k) (slice_index_or old k None) (find (is_at k) (take i values)) (t.at k) (t.placed k) ∙ sym (found k);
  placed = λ k. ap is_some (h k) ∙ placed k (nat_eq v.slot k) (slice_index_or old k None) (find (is_at k) (take i values)) (t.placed k) ∙ sym (ap is_some (found k));
}
  where
    found : (k : ℕ) → find (is_at k) (take (i + 1) values) ≡ option_or (find (is_at k) (take i values)) (cond (nat_eq v.slot k) (Some v) None)
    found k = ap (find (is_at k)) (take_item values i v get) ∙ find-append (is_at k) (take i values) (v ∷ [])

    at : (k : ℕ) (b : Bool) (o : Option ℕ) (f : Option SlotBits) → option_and_then (slice_get values) o ≡ f → is_some o ≡ is_some f
        → option_and_then (slice_get values) (cond b (option_or o (Some i)) o) ≡ option_or f (cond b (Some v) None)
    at k true None None e p = get
    at k true None (Some w) e p = absurd (true≢false (sym p))
    at k true (Some j) None e p = absurd (true≢false p)
    at k true (Some j) (Some w) e p = e
    at k false None None e p = e
    at k false None (Some w) e p = e
    at k false (Some j) None e p = absurd (true≢false p)
    at k false (Some j) (Some w) e p = e

    placed : (k : ℕ) (b : Bool) (o : Option ℕ) (f : Option SlotBits) → is_some o ≡ is_some f → is_some (cond b (option_or o (Some i)) o) ≡ is_some (option_or f (cond b (Some v) None))
    placed k true None None p = refl
    placed k true None (Some w) p = absurd (true≢false (sym p))
    placed k true (Some j) None p = absurd (true≢false p)
    placed k true (Some j) (Some w) p = refl
    placed k false None None p = refl
    placed k false None (Some w) p = p
    placed k false (Some j) None p = p
    placed k false (Some j) (Some w) p = refl
