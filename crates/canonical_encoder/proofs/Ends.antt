-- The edges of slots of one clafer lead to the same slots, which ascend.
use Rattle.std.proofs.Common.{◌≡◌, ◌≢◌, ℕ, zero, suc, ◌+◌, ◌<◌, ◌≤◌, Bool, true, false, cond, ◌&&◌, ◌⊎◌, inl, inr, List, [], ◌∷◌, ◌++◌, length, map, refl, ap, ◌∙◌, arith, append-nil, Option, Some, None}
use Rattle.std.specs.Prelude.{nat_eq, nat_lt}
use Rattle.std.specs.Option.{option_map_or}
use Rattle.std.specs.List.{filter, find, flat_map, list_all, range_with_len}
use Rattle.std.proofs.lemmas.Bool.{true≢false}
use Rattle.std.proofs.lemmas.Bool.Decides.{nat_tests, eqb_tells}
use Rattle.std.proofs.lemmas.List.{map-append}
use Rattle.std.proofs.lemmas.List.Elements.{filter-append}
use Rattle.clf_tree.specs.declared.model.Clafer.{Clafer}
use Rattle.clf_tree.specs.declared.scopes.Scopes.{Scopes}
use Rattle.clf_tree.specs.Hierarchy.{owners, parent_of, concrete_below}
use Rattle.clf_tree.specs.Lists.{numbers_below, has, each_two}
use Rattle.set_bits.specs.declared.layout.Edge.{Edge}
use Rattle.set_bits.specs.declared.layout.Layout.{Layout}
use Rattle.set_bits.specs.Fitting.{Fits, slot_clafer, ends}
use Rattle.shown_instance.proofs.Differing.{each_from}
use Rattle.shown_instance.proofs.Order.{both, together}
use Rattle.canonical_encoder.specs.Slots.{edges_of}

-- the far ends of the pairs that begin at a number
abbrev far_ends : ℕ → List (ℕ × ℕ) → List ℕ
far_ends s ps = map (λ p. p.1) (filter (λ p. nat_eq p.0 s) ps)

abbrev pairs_from : ℕ → List ℕ → List (ℕ × ℕ)
pairs_from i js = map (λ j. (i, j)) js

far_ends-append : (s : ℕ) (xs ys : List (ℕ × ℕ)) → far_ends s (xs ++ ys) ≡ far_ends s xs ++ far_ends s ys
far_ends-append s xs ys =
    ap (map (λ (p : ℕ × ℕ). p.1)) (filter-append (λ (p : ℕ × ℕ). nat_eq p.0 s) xs ys)
    ∙ map-append (λ (p : ℕ × ℕ). p.1) (filter (λ (p : ℕ × ℕ). nat_eq p.0 s) xs) (filter (λ (p : ℕ × ℕ). nat_eq p.0 s) ys)

pick : (s i j : ℕ) (js : List ℕ) (b : Bool) → nat_eq i s ≡ b
    → far_ends s (pairs_from i (j ∷ js)) ≡ cond b (j ∷ far_ends s (pairs_from i js)) (far_ends s (pairs_from i js))
pick s i j js true e = ap (λ b. map (λ (p : ℕ × ℕ). p.1)
    (cond b ((i, j) ∷ filter (λ (p : ℕ × ℕ). nat_eq p.0 s) (pairs_from i js)) (filter (λ (p : ℕ × ℕ). nat_eq p.0 s) (pairs_from i js)))) e
pick s i j js false e = ap (λ b. map (λ (p : ℕ × ℕ). p.1)
    (cond b ((i, j) ∷ filter (λ (p : ℕ × ℕ). nat_eq p.0 s) (pairs_from i js)) (filter (λ (p : ℕ × ℕ). nat_eq p.0 s) (pairs_from i js)))) e

own_ends : (s i : ℕ) (js : List ℕ) → nat_eq i s ≡ true → far_ends s (pairs_from i js) ≡ js
own_ends s i [] h = refl
own_ends s i (j ∷ js) h = pick s i j js true h ∙ ap (λ xs. j ∷ xs) (own_ends s i js h)

other_ends : (s i : ℕ) (js : List ℕ) → nat_eq i s ≡ false → far_ends s (pairs_from i js) ≡ []
other_ends s i [] h = refl
other_ends s i (j ∷ js) h = pick s i j js false h ∙ other_ends s i js h

none_behind : (js : ℕ → List ℕ) (s a m : ℕ) → s < a → far_ends s (flat_map (λ i. pairs_from i (js i)) (range_with_len a m)) ≡ []
none_behind js s a zero l = refl
none_behind js s a (suc m) l =
    far_ends-append s (pairs_from a (js a)) (flat_map (λ i. pairs_from i (js i)) (range_with_len (a + 1) m))
    ∙ ap (λ xs. xs ++ far_ends s (flat_map (λ i. pairs_from i (js i)) (range_with_len (a + 1) m))) (other_ends s a (js a) (apart a s l))
    ∙ none_behind js s (a + 1) m (omega (arith, l))
  where
    apart : (a s : ℕ) → s < a → nat_eq a s ≡ false
    apart a s l = grind (arith, nat_tests)

ends_at : (js : ℕ → List ℕ) (s a m : ℕ) → a ≤ s → s < a + m → far_ends s (flat_map (λ i. pairs_from i (js i)) (range_with_len a m)) ≡ js s
ends_at js s a zero low high = absurd (omega (arith, low, high))
ends_at js s a (suc m) low high =
    far_ends-append s (pairs_from a (js a)) (flat_map (λ i. pairs_from i (js i)) (range_with_len (a + 1) m))
    ∙ by (eqb_tells a s) (ends_at js s (a + 1) m)
  where
    rest : List ℕ
    rest = far_ends s (flat_map (λ i. pairs_from i (js i)) (range_with_len (a + 1) m))

    by : ((nat_eq a s ≡ true) × (a ≡ s)) ⊎ ((nat_eq a s ≡ false) × (a ≢ s)) → (a + 1 ≤ s → s < (a + 1) + m → rest ≡ js s)
        → far_ends s (pairs_from a (js a)) ++ rest ≡ js s
    by (inl e) more =
        let f = e.1 in
        ap (λ xs. xs ++ rest) (own_ends s a (js a) e.0) ∙ ap (λ xs. js a ++ xs) (none_behind js s (a + 1) m (omega (arith, f)))
        ∙ append-nil (js a) ∙ ap js f
    by (inr e) more = ap (λ xs. xs ++ rest) (other_ends s a (js a) e.0) ∙ more (omega (arith, low, e.1)) (omega (arith, high))

-- the far ends of a slot's edges
edge_ends : (s : ℕ) (edges : List Edge) → map (λ e. e.to) (filter (λ e. nat_eq e.from s) edges) ≡ far_ends s (ends edges)
edge_ends s [] = refl
edge_ends s (e ∷ es) = by (nat_eq e.from s) (edge_ends s es)
  where
    by : (b : Bool) → map (λ (x : Edge). x.to) (filter (λ (x : Edge). nat_eq x.from s) es) ≡ far_ends s (ends es)
        → map (λ (x : Edge). x.to) (cond b (e ∷ filter (λ (x : Edge). nat_eq x.from s) es) (filter (λ (x : Edge). nat_eq x.from s) es))
        ≡ map (λ (p : ℕ × ℕ). p.1) (cond b ((e.from, e.to) ∷ filter (λ (p : ℕ × ℕ). nat_eq p.0 s) (ends es))
        (filter (λ (p : ℕ × ℕ). nat_eq p.0 s) (ends es)))
    by true rest = ap (λ xs. e.to ∷ xs) rest
    by false rest = rest

-- the slots of the owners of a clafer
abbrev pub owner_slots : List Clafer → Layout → ℕ → List ℕ
owner_slots clafers layout c = filter (λ j. has (owners clafers c) (slot_clafer layout.slots j)) (numbers_below (length layout.slots))

pub slot_ends : (clafers : List Clafer) (scopes : Scopes) (layout : Layout) (s : ℕ) → Fits clafers scopes layout → s < length layout.slots
    → map (λ e. e.to) (edges_of layout s) ≡ owner_slots clafers layout (slot_clafer layout.slots s)
slot_ends clafers scopes layout s f l =
    edge_ends s layout.parents ∙ ap (far_ends s) f.parents
    ∙ ends_at (λ i. owner_slots clafers layout (slot_clafer layout.slots i)) s 0 (length layout.slots) (omega arith) (omega (arith, l))

-- ---- they ascend

all_kept : (p t : ℕ → Bool) (xs : List ℕ) → list_all t xs ≡ true → list_all t (filter p xs) ≡ true
all_kept p t [] h = refl
all_kept p t (x ∷ xs) h = by (p x) (both (t x) (list_all t xs) h) (all_kept p t xs)
  where
    by : (b : Bool) → (t x ≡ true) × (list_all t xs ≡ true) → (list_all t xs ≡ true → list_all t (filter p xs) ≡ true)
        → list_all t (cond b (x ∷ filter p xs) (filter p xs)) ≡ true
    by true a rest = together (t x) (list_all t (filter p xs)) a.0 (rest a.1)
    by false a rest = rest a.1

ascend_kept : (p : ℕ → Bool) (xs : List ℕ) → each_two nat_lt xs ≡ true → each_two nat_lt (filter p xs) ≡ true
ascend_kept p [] h = refl
ascend_kept p (x ∷ xs) h = by (p x) (both (list_all (nat_lt x) xs) (each_two nat_lt xs) h) (ascend_kept p xs)
  where
    by : (b : Bool) → (list_all (nat_lt x) xs ≡ true) × (each_two nat_lt xs ≡ true)
        → (each_two nat_lt xs ≡ true → each_two nat_lt (filter p xs) ≡ true)
        → each_two nat_lt (cond b (x ∷ filter p xs) (filter p xs)) ≡ true
    by true a rest = together (list_all (nat_lt x) (filter p xs)) (each_two nat_lt (filter p xs)) (all_kept p (nat_lt x) xs a.0) (rest a.1)
    by false a rest = rest a.1

pub owner_slots_ascend : (clafers : List Clafer) (layout : Layout) (c : ℕ) → each_two nat_lt (owner_slots clafers layout c) ≡ true
owner_slots_ascend clafers layout c =
    ascend_kept (λ j. has (owners clafers c) (slot_clafer layout.slots j)) (numbers_below (length layout.slots))
    (each_from nat_lt 0 (length layout.slots) (λ i j low less high. less_true i j less))
  where
    less_true : (i j : ℕ) → i < j → nat_lt i j ≡ true
    less_true i j h = grind (arith, nat_tests)

-- ---- a clafer without parent

no_slots : (xs : List ℕ) → filter (λ j. false) xs ≡ []
no_slots [] = refl
no_slots (x ∷ xs) = no_slots xs

none_mapped : (xs : List Edge) → map (λ (e : Edge). e.to) xs ≡ [] → xs ≡ []
none_mapped [] h = refl
none_mapped (x ∷ xs) h = absurd (true≢false (ap is_empty h))
  where
    is_empty : List ℕ → Bool
    is_empty [] = false
    is_empty (y ∷ ys) = true

pub top_has_no_edges : (clafers : List Clafer) (scopes : Scopes) (layout : Layout) (s : ℕ) → Fits clafers scopes layout
    → s < length layout.slots
    → parent_of clafers (slot_clafer layout.slots s) ≡ None → edges_of layout s ≡ []
top_has_no_edges clafers scopes layout s f l top =
    none_mapped (edges_of layout s)
    (slot_ends clafers scopes layout s f l
    ∙ ap (λ (o : Option ℕ). filter (λ j. has (option_map_or (concrete_below clafers) o []) (slot_clafer layout.slots j))
    (numbers_below (length layout.slots))) top
    ∙ no_slots (numbers_below (length layout.slots)))

-- ---- the first edge that is taken

pub find_kept : {X : Type 0} (p t : X → Bool) (xs : List X) → find t (filter p xs) ≡ find (λ x. p x && t x) xs
find_kept p t [] = refl
find_kept p t (x ∷ xs) = by (p x) (find_kept p t xs)
  where
    by : (b : Bool) → find t (filter p xs) ≡ find (λ y. p y && t y) xs
        → find t (cond b (x ∷ filter p xs) (filter p xs)) ≡ cond (b && t x) (Some x) (find (λ y. p y && t y) xs)
    by true rest = ap (λ o. cond (t x) (Some x) o) rest
    by false rest = rest
