-- Slots of one clafer, the nodes with smaller numbers, and the parents of live slots.
use Rattle.std.proofs.Common.{◌≡◌, ◌≢◌, ℕ, zero, suc, ◌+◌, ◌<◌, ◌≤◌, Bool, true, false, cond, not, ◌&&◌, ◌||◌, ◌⊎◌, inl, inr, List, [], ◌∷◌, length, map, Option, Some, None, refl, sym, ap, ◌∙◌, subst, arith, get_or}
use Rattle.std.specs.Prelude.{slice_get, nat_eq, nat_lt, ◌==◌, is_some}
use Rattle.std.specs.Option.{option_and_then}
use Rattle.std.specs.List.{filter, find, flat_map, list_any, list_all, range_with_len}
use Rattle.std.proofs.lemmas.Bool.{true≢false}
use Rattle.std.proofs.lemmas.Bool.Decides.{nat_tests, eqb_tells}
use Rattle.std.proofs.lemmas.Grind.{common_steps}
use Rattle.std.proofs.lemmas.List.Folds.{list_any-append}
use Rattle.std.proofs.lemmas.List.FromFn.{get_or-range_with_len, length-range_with_len}
use Rattle.bool_circuit.specs.Circuit.{entry}
use Rattle.clf_tree.specs.declared.model.Clafer.{Clafer}
use Rattle.clf_tree.specs.declared.instance.Node.{Node}
use Rattle.clf_tree.specs.declared.instance.Entry.{Entry}
use Rattle.clf_tree.specs.declared.scopes.Scopes.{Scopes}
use Rattle.clf_tree.specs.Hierarchy.{owners, parent_of}
use Rattle.clf_tree.specs.Lists.{numbers_below, each_two}
use Rattle.clf_tree.specs.Nodes.{same_node, is_before, has_node, scope_of}
use Rattle.set_bits.specs.declared.layout.Edge.{Edge}
use Rattle.set_bits.specs.declared.layout.Layout.{Layout}
use Rattle.set_bits.specs.Fitting.{Fits, slot, slot_clafer, nodes_below}
use Rattle.shown_instance.specs.Consistent.{is_consistent, are_edges, are_integers, lead_from_live, are_single, has_taken}
use Rattle.shown_instance.specs.Placed.{have_parents, have_taken, lead_to_live}
use Rattle.shown_instance.specs.Shown.{is_live, is_taken, leads_to}
use Rattle.shown_instance.proofs.Adapting.{any_passes}
use Rattle.shown_instance.proofs.Belonging.{any_map, any_range, HasSlot, slot_of}
use Rattle.shown_instance.proofs.Counts.{IsSound, found_has}
use Rattle.shown_instance.proofs.Order.{both, together, same_nodes, same_itself, before_irrefl}
use Rattle.shown_instance.proofs.Placing.{any_find, implied}
use Rattle.shown_instance.proofs.Telling.{slot_at, slot_before}
use Rattle.shown_instance.proofs.Whole.{numbers_at, sound_edges}
use Rattle.canonical_encoder.specs.Slots.{edges_of}
use Rattle.canonical_encoder.proofs.Ends.{find_kept}

pub equal_test : (a b : ℕ) → a ≡ b → (a == b) ≡ true
equal_test a b e = grind (arith, common_steps)

-- ---- nodes with smaller numbers

-- of one clafer
smaller_here : (d n c k m : ℕ) → k < m → has_node (nodes_below d n) (record { clafer = c; number = m }) ≡ true
    → has_node (nodes_below d n) (record { clafer = c; number = k }) ≡ true
smaller_here d n c k m less h =
    let test : ℕ → ℕ → Bool = λ i j. same_node (record { clafer = c; number = i }) (record { clafer = d; number = j }) in
    let passing = any_passes (test m) (numbers_below n)
    (sym (any_map (same_node (record { clafer = c; number = m })) (λ j. record { clafer = d; number = j }) (numbers_below n)) ∙ h) in
    let same = same_nodes (record { clafer = c; number = m }) (record { clafer = d; number = passing.it }) passing.passes in
    let clafer : c ≡ d = ap (λ (x : Node). x.clafer) same in
    let number : m ≡ passing.it = ap (λ (x : Node). x.number) same in
    let long = length-range_with_len 0 n in
    let within = passing.within in
    let here : get_or (numbers_below n) passing.place passing.it
    ≡ 0 + passing.place = get_or-range_with_len 0 n passing.place passing.it (omega (arith, long, within)) in
    let there = passing.there in
    any_map (same_node (record { clafer = c; number = k })) (λ j. record { clafer = d; number = j }) (numbers_below n)
    ∙ any_range (test k) 0 n k (omega arith) (omega (arith, less, number, here, there, long, within))
    (ap (λ e. same_node (record { clafer = c; number = k }) (record { clafer = e; number = k })) (sym clafer)
    ∙ same_itself (record { clafer = c; number = k }))

or_true : (a b : Bool) → b ≡ true → (a || b) ≡ true
or_true true b h = refl
or_true false b h = h

smaller_from : (f : ℕ → ℕ) (a n c k m : ℕ) → k < m
    → has_node (flat_map (λ d. nodes_below d (f d)) (range_with_len a n)) (record { clafer = c; number = m }) ≡ true
    → has_node (flat_map (λ d. nodes_below d (f d)) (range_with_len a n)) (record { clafer = c; number = k }) ≡ true
smaller_from f a zero c k m less h = absurd (true≢false (sym h))
smaller_from f a (suc n) c k m less h =
    list_any-append (same_node (record { clafer = c; number = k })) (nodes_below a (f a))
    (flat_map (λ d. nodes_below d (f d)) (range_with_len (a + 1) n))
    ∙ by (here m) refl
    (sym (list_any-append (same_node (record { clafer = c; number = m })) (nodes_below a (f a))
    (flat_map (λ d. nodes_below d (f d)) (range_with_len (a + 1) n))) ∙ h)
    (smaller_from f (a + 1) n c k m less)
  where
    here : ℕ → Bool
    here i = has_node (nodes_below a (f a)) (record { clafer = c; number = i })

    rest : ℕ → Bool
    rest i = has_node (flat_map (λ d. nodes_below d (f d)) (range_with_len (a + 1) n)) (record { clafer = c; number = i })

    by : (b : Bool) → here m ≡ b → (here m || rest m) ≡ true → (rest m ≡ true → rest k ≡ true) → (here k || rest k) ≡ true
    by true e t more = ap (λ b. b || rest k) (smaller_here a (f a) c k m less e)
    by false e t more = or_true (here k) (rest k) (more (sym (ap (λ b. b || rest m) e) ∙ t))

-- the slot of the node of a slot's clafer with a smaller number
pub smaller_slot : (clafers : List Clafer) (scopes : Scopes) (layout : Layout) (i k : ℕ) → Fits clafers scopes layout
    → i < length layout.slots → k < (slot layout.slots i).number
    → HasSlot layout.slots (record { clafer = slot_clafer layout.slots i; number = k })
smaller_slot clafers scopes layout i k f l less =
    let n : Node = slot layout.slots i in
    slot_of layout.slots (record { clafer = n.clafer; number = k })
    (ap (λ ns. has_node ns (record { clafer = n.clafer; number = k })) f.slots
    ∙ smaller_from (scope_of scopes) 0 (length clafers) n.clafer k n.number less
    (sym (ap (λ ns. has_node ns n) f.slots) ∙ slot_in layout.slots i l))
  where
    slot_in : (xs : List Node) (i : ℕ) → i < length xs → has_node xs (slot xs i) ≡ true
    slot_in [] i l = absurd (omega (arith, l))
    slot_in (x ∷ xs) zero l = ap (λ b. b || has_node xs x) (same_itself x)
    slot_in (x ∷ xs) (suc i) l = or_true (same_node (slot xs i) x) (has_node xs (slot xs i)) (slot_in xs i (omega (arith, l)))

-- ---- the order of slots

module _ (slots : List Node) (asc : each_two is_before slots ≡ true) where
  -- slots are ordered as their nodes are
  pub earlier_slot : (i j : ℕ) → i < length slots → j < length slots → is_before (slot slots i) (slot slots j) ≡ nat_lt i j
  earlier_slot i j l m = by (nat_lt i j) refl (eqb_tells i j)
    where
      below : (a b : ℕ) → nat_lt a b ≡ true → a < b
      below a b h = grind (arith, nat_tests)

      above : (a b : ℕ) → nat_lt a b ≡ false → a ≢ b → b < a
      above a b h d = grind (arith, nat_tests)

      not_after : (a b : Node) → is_before a b ≡ true → is_before b a ≡ false
      not_after a b h = grind (arith, nat_tests, common_steps)

      by : (b : Bool) → nat_lt i j ≡ b → ((nat_eq i j ≡ true) × (i ≡ j)) ⊎ ((nat_eq i j ≡ false) × (i ≢ j))
          → is_before (slot slots i) (slot slots j) ≡ nat_lt i j
      by true e c = slot_before slots i j asc (below i j e) m ∙ sym e
      by false e (inl s) = ap (λ k. is_before (slot slots k) (slot slots j)) s.1 ∙ before_irrefl (slot slots j) ∙ sym e
      by false e (inr d) = not_after (slot slots j) (slot slots i) (slot_before slots j i asc (above i j e d.1) l) ∙ sym e

  -- clafers do not fall
  clafers_rise : (i j : ℕ) → i < j → j < length slots → slot_clafer slots i ≤ slot_clafer slots j
  clafers_rise i j less l = rise (slot slots i) (slot slots j) (slot_before slots i j asc less l)
    where
      rise : (m n : Node) → is_before m n ≡ true → m.clafer ≤ n.clafer
      rise m n h = grind (arith, nat_tests, common_steps)

  pub numbers_rise : (i j : ℕ) → i < j → j < length slots → slot_clafer slots i ≡ slot_clafer slots j
      → (slot slots i).number < (slot slots j).number
  numbers_rise i j less l same = rise (slot slots i) (slot slots j) (slot_before slots i j asc less l) same
    where
      rise : (m n : Node) → is_before m n ≡ true → m.clafer ≡ n.clafer → m.number < n.number
      rise m n h e = grind (arith, nat_tests, common_steps)

  -- what lies between slots of one clafer is of it
  pub same_behind : (i d : ℕ) → i + suc d < length slots → slot_clafer slots i ≡ slot_clafer slots (i + suc d)
      → slot_clafer slots i ≡ slot_clafer slots (i + d)
  same_behind i zero l same = let e : i ≡ i + 0 = omega arith in ap (slot_clafer slots) e
  same_behind i (suc d) l same =
      let a = clafers_rise i (i + suc d) (omega arith) (omega (arith, l)) in
      let b = clafers_rise (i + suc d) (i + suc (suc d)) (omega arith) (omega (arith, l)) in
      omega (arith, a, b, same)

-- ---- what is told of live slots

-- what holds of all entries that are told holds of that of each live slot
pub told_each : (p : Entry → Bool) (g : ℕ → Entry) (l : ℕ → Bool) (a m i : ℕ) → list_all p (map g (filter l (range_with_len a m))) ≡ true
    → a ≤ i → i < a + m → l i ≡ true → p (g i) ≡ true
told_each p g l a zero i t low high u = absurd (omega (arith, low, high))
told_each p g l a (suc m) i t low high u = by (l a) refl (eqb_tells a i) t
    (λ more next. told_each p g l (a + 1) m i more next (omega (arith, high)) u)
  where
    rest : List Entry
    rest = map g (filter l (range_with_len (a + 1) m))

    by : (b : Bool) → l a ≡ b → (((a == i) ≡ true) × (a ≡ i)) ⊎ (((a == i) ≡ false) × (a ≢ i))
        → list_all p (map g (cond b (a ∷ filter l (range_with_len (a + 1) m)) (filter l (range_with_len (a + 1) m)))) ≡ true
        → (list_all p rest ≡ true → a + 1 ≤ i → p (g i) ≡ true) → p (g i) ≡ true
    by true e (inl q) s more = subst (λ j. p (g j) ≡ true) q.1 (both (p (g a)) (list_all p rest) s).0
    by true e (inr q) s more = more (both (p (g a)) (list_all p rest) s).1 (omega (arith, low, q.1))
    by false e (inl q) s more = absurd (true≢false (sym u ∙ ap l (sym q.1) ∙ e))
    by false e (inr q) s more = more s (omega (arith, low, q.1))

-- ---- the parents of live slots

-- the first taken edge of a slot
pub record HasFirst (layout : Layout) (bits : List Bool) (i : ℕ) : Type 0 where
  pub edge : Edge
  pub found : find (λ e. entry bits e.here) (edges_of layout i) ≡ Some edge
  pub to_in : edge.to < length layout.slots
  pub leads : leads_to layout.slots layout.parents bits i ≡ Some (slot layout.slots edge.to)

module _ (clafers : List Clafer) (scopes : Scopes) (layout : Layout) (bits : List Bool) (fits : Fits clafers scopes layout)
    (consistent : is_consistent scopes layout bits ≡ true) where
  parents_right : (lead_from_live layout layout.parents bits ≡ true) × (are_single layout.parents bits ≡ true)
  parents_right =
      let whole = both (are_edges layout layout.parents bits && are_edges layout layout.targets bits)
      (are_integers scopes layout bits) consistent in
      let halves = both (are_edges layout layout.parents bits) (are_edges layout layout.targets bits) whole.0 in
      both (lead_from_live layout layout.parents bits) (are_single layout.parents bits) halves.0

  -- a live slot of a nested clafer has one
  pub first_of : (i : ℕ) → have_parents clafers layout bits ≡ true → i < length layout.slots → is_live layout bits i ≡ true
      → is_some (parent_of clafers (slot_clafer layout.slots i)) ≡ true
      → HasFirst layout bits i
  first_of i parents l live nested =
      by (find (is_taken bits i) layout.parents) refl
    where
      asks : ℕ → Bool
      asks c = is_some (parent_of clafers c)

      taken : has_taken layout.parents bits i ≡ true
      taken =
          implied (is_live layout bits i && asks (slot_clafer layout.slots i)) (has_taken layout.parents bits i)
          (numbers_at (λ j. not (is_live layout bits j && asks (slot_clafer layout.slots j)) || has_taken layout.parents bits j) 0
          (length layout.slots) i
          (both (have_taken asks layout layout.parents bits) (lead_to_live layout layout.parents bits) parents).0 (omega arith)
          (omega (arith, l)))
          (together (is_live layout bits i) (asks (slot_clafer layout.slots i)) live nested)

      by : (o : Option Edge) → find (is_taken bits i) layout.parents ≡ o → HasFirst layout bits i
      by None e = absurd (true≢false (sym taken ∙ any_find (is_taken bits i) layout.parents ∙ ap is_some e))
      by (Some x) e =
          let sound = found_has (is_taken bits i) (IsSound layout bits) layout.parents x e
          (sound_edges (owners clafers) layout layout.parents bits fits.parents parents_right.0) in
          record {
            edge = x;
            found = find_kept (λ (y : Edge). nat_eq y.from i) (λ (y : Edge). entry bits y.here) layout.parents ∙ e;
            to_in = sound.1.to_in;
            leads = ap (option_and_then (λ (y : Edge). slice_get layout.slots y.to)) e ∙ slot_at layout.slots x.to sound.1.to_in;
          }

  -- a dead slot has none
  pub none_taken : (i : ℕ) → i < length layout.slots → is_live layout bits i ≡ false
      → list_any (λ e. entry bits e.here) (edges_of layout i) ≡ false
  none_taken i l dead =
      any_find (λ (e : Edge). entry bits e.here) (edges_of layout i)
      ∙ ap is_some (find_kept (λ (e : Edge). nat_eq e.from i) (λ (e : Edge). entry bits e.here) layout.parents)
      ∙ sym (any_find (is_taken bits i) layout.parents)
      ∙ by (has_taken layout.parents bits i) refl
    where
      by : (b : Bool) → has_taken layout.parents bits i ≡ b → has_taken layout.parents bits i ≡ false
      by false e = e
      by true e =
          absurd (true≢false (sym (implied (has_taken layout.parents bits i) (is_live layout bits i)
          (numbers_at (λ j. not (has_taken layout.parents bits j) || is_live layout bits j) 0 (length layout.slots) i parents_right.0
          (omega arith) (omega (arith, l))) e) ∙ dead))
