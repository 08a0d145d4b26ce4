-- At bits that tell an instance with its parents, the test of the slots is that of the instance.
use Rattle.std.proofs.Common.{◌≡◌, ℕ, zero, suc, ◌+◌, ◌-◌, ◌<◌, ◌≤◌, Bool, true, false, not, ◌&&◌, ◌||◌, List, [], ◌∷◌, length, Option, Some, refl, sym, ap, ◌∙◌, arith}
use Rattle.std.specs.Prelude.{nat_lt, ◌==◌, is_some}
use Rattle.std.specs.Option.{option_map_or}
use Rattle.std.specs.List.{find, list_all}
use Rattle.bool_circuit.specs.Circuit.{entry}
use Rattle.std.proofs.lemmas.Bool.{true≢false}
use Rattle.std.proofs.lemmas.Bool.Decides.{nat_tests}
use Rattle.std.proofs.lemmas.Grind.{common_steps}
use Rattle.clf_tree.specs.declared.model.Clafer.{Clafer}
use Rattle.clf_tree.specs.declared.instance.Node.{Node}
use Rattle.clf_tree.specs.declared.instance.Entry.{Entry}
use Rattle.clf_tree.specs.declared.scopes.Scopes.{Scopes}
use Rattle.clf_tree.specs.Hierarchy.{is_concrete, parent_of}
use Rattle.clf_tree.specs.Lists.{numbers_below, each_two}
use Rattle.clf_tree.specs.Named.{contains_itself}
use Rattle.clf_tree.specs.Nodes.{is_before, has_node, nodes_of, is_tree, has_its_parent, ends_within, named_by}
use Rattle.clf_tree.specs.Shape.{has_shape}
use Rattle.set_bits.specs.declared.layout.Edge.{Edge}
use Rattle.set_bits.specs.declared.layout.Layout.{Layout}
use Rattle.set_bits.specs.Fitting.{Fits, slot, slot_clafer}
use Rattle.set_bits.specs.Showing.{Shows}
use Rattle.shown_instance.specs.Bounds.{have_bounds}
use Rattle.shown_instance.specs.Consistent.{is_consistent}
use Rattle.shown_instance.specs.Distinct.{have_sets}
use Rattle.shown_instance.specs.Placed.{have_parents, have_targets}
use Rattle.shown_instance.specs.Shaped.{is_shaped}
use Rattle.shown_instance.specs.Shown.{shown, entry_at, is_live, leads_to}
use Rattle.shown_instance.proofs.Belonging.{HasSlot}
use Rattle.shown_instance.proofs.Consistent.{shown_live}
use Rattle.shown_instance.proofs.Differing.{each_from, each_at, told_two, implies}
use Rattle.shown_instance.proofs.Fitted.{slots_ascend, shows_only}
use Rattle.shown_instance.proofs.Hinge.{all_told}
use Rattle.shown_instance.proofs.Order.{both, together}
use Rattle.shown_instance.proofs.Placing.{same_truth, same_number, implied, parents_told}
use Rattle.shown_instance.proofs.Whole.{numbers_from, numbers_at, shown_bits_consistent}
use Rattle.canonical_instances.specs.Canonical.{fills_numbers, follows_parents, is_no_later, keep_order, is_canonical}
use Rattle.canonical_encoder.specs.Slots.{begins_no_later, edges_of, follows_slot, are_canonical}
use Rattle.canonical_encoder.proofs.Ends.{slot_ends, owner_slots, owner_slots_ascend}
use Rattle.canonical_encoder.proofs.Firsts.{begins_where_none, begins_as_found}
use Rattle.canonical_encoder.proofs.Placed.{equal_test, told_each, HasFirst, first_of, none_taken, smaller_slot, earlier_slot, numbers_rise, same_behind}

not_less : (a b : ℕ) → not (nat_lt a b) ≡ true → b ≤ a
not_less a b h = grind (arith, nat_tests)

not_after : (a b : ℕ) → b ≤ a → not (nat_lt a b) ≡ true
not_after a b h = grind (arith, nat_tests)

-- the slot of a node of a slot's clafer with a smaller number stands before it
place_before : (slots : List Node) → each_two is_before slots ≡ true → (i k : ℕ) → i < length slots → k < (slot slots i).number
    → (s : HasSlot slots (record { clafer = slot_clafer slots i; number = k })) → s.place < i
place_before slots asc i k l less s = by (nat_lt s.place i) refl
  where
    ordered : (c a b : ℕ) → a < b → is_before (record { clafer = c; number = a }) (record { clafer = c; number = b }) ≡ true
    ordered c a b h = grind (arith, nat_tests, common_steps)

    below : (a b : ℕ) → nat_lt a b ≡ true → a < b
    below a b h = grind (arith, nat_tests)

    by : (b : Bool) → nat_lt s.place i ≡ b → s.place < i
    by true e = below s.place i e
    by false e =
        absurd (true≢false (sym (sym (earlier_slot slots asc s.place i s.within l) ∙ ap (λ n. is_before n (slot slots i)) s.is
        ∙ ordered (slot slots i).clafer k (slot slots i).number less) ∙ e))

-- a test of two neighbours
abbrev follows : (same first second asked third : Bool) → Bool
follows same first second asked third = not same || ((not second || first) && (not asked || third))

follows_live : (same first second asked third : Bool) → follows same first second asked third ≡ true → same ≡ true → second ≡ true
    → first ≡ true
follows_live same first second asked third h s t =
    implied second first (both (not second || first) (not asked || third)
    (implied same ((not second || first) && (not asked || third)) h s)).0 t

follows_begun : (same first second asked third : Bool) → follows same first second asked third ≡ true → same ≡ true → asked ≡ true
    → third ≡ true
follows_begun same first second asked third h s t =
    implied asked third (both (not second || first) (not asked || third)
    (implied same ((not second || first) && (not asked || third)) h s)).1 t

follows_from : (same first second asked third : Bool) → (same ≡ true → second ≡ true → first ≡ true)
    → (same ≡ true → asked ≡ true → third ≡ true) → follows same first second asked third ≡ true
follows_from same first second asked third f g =
    implies same ((not second || first) && (not asked || third))
    (λ s. together (not second || first) (not asked || third) (implies second first (f s)) (implies asked third (g s)))

module _ (clafers : List Clafer) (scopes : Scopes) (layout : Layout) (bits : List Bool) (fits : Fits clafers scopes layout)
    (consistent : is_consistent scopes layout bits ≡ true) (parents : have_parents clafers layout bits ≡ true) where
  abbrev clafer : ℕ → ℕ
  clafer i = slot_clafer layout.slots i

  abbrev live : ℕ → Bool
  live i = is_live layout bits i

  abbrev count : ℕ
  count = length layout.slots

  abbrev begins : ℕ → Bool
  begins i = begins_no_later (edges_of layout i) (edges_of layout (i + 1)) bits

  asc : each_two is_before layout.slots ≡ true
  asc = ap (each_two is_before) fits.slots ∙ slots_ascend clafers scopes

  opened : (i : ℕ) → follows_slot clafers layout bits i
      ≡ follows (clafer i == clafer (i + 1)) (live i) (live (i + 1)) (follows_parents clafers (clafer i)) (begins i)
  unfolding follows_slot
  opened i = refl

  -- the slot to which the first taken edge of a slot leads
  first_to : ℕ → ℕ
  first_to i = option_map_or (λ (e : Edge). e.to) (find (λ (e : Edge). entry bits e.here) (edges_of layout i)) 0

  first_is : (i : ℕ) (a : HasFirst layout bits i) → a.edge.to ≡ first_to i
  unfolding first_to
  first_is i a = sym (ap (λ (o : Option Edge). option_map_or (λ (e : Edge). e.to) o 0) a.found)

  -- the parents of live slots of one clafer compare as those slots
  parents_compare : (i j : ℕ) → HasFirst layout bits i → HasFirst layout bits j
      → is_no_later (leads_to layout.slots layout.parents bits i) (leads_to layout.slots layout.parents bits j)
      ≡ not (nat_lt (first_to j) (first_to i))
  parents_compare i j a b =
      ap (λ o. is_no_later o (leads_to layout.slots layout.parents bits j)) a.leads
      ∙ ap (is_no_later (Some (slot layout.slots a.edge.to))) b.leads
      ∙ ap not (earlier_slot layout.slots asc b.edge.to a.edge.to b.to_in a.to_in)
      ∙ ap (λ k. not (nat_lt b.edge.to k)) (first_is i a) ∙ ap (λ k. not (nat_lt k (first_to i))) (first_is j b)

  begins_compare : (i : ℕ) → i + 1 < count → clafer i ≡ clafer (i + 1) → HasFirst layout bits i → HasFirst layout bits (i + 1)
      → begins i ≡ not (nat_lt (first_to (i + 1)) (first_to i))
  begins_compare i l same a b =
      let mine = slot_ends clafers scopes layout i fits (omega (arith, l)) in
      let next = slot_ends clafers scopes layout (i + 1) fits l in
      begins_as_found bits (edges_of layout i) (edges_of layout (i + 1)) a.edge b.edge
      (mine ∙ ap (owner_slots clafers layout) same ∙ sym next)
      (ap (each_two nat_lt) next ∙ owner_slots_ascend clafers layout (clafer (i + 1)))
      a.found b.found
      ∙ ap (λ k. not (nat_lt b.edge.to k)) (first_is i a) ∙ ap (λ k. not (nat_lt k (first_to i))) (first_is (i + 1) b)

  nested : (i : ℕ) → follows_parents clafers (clafer i) ≡ true → is_some (parent_of clafers (clafer i)) ≡ true
  nested i h = (both (is_some (parent_of clafers (clafer i))) (not (contains_itself clafers (clafer i))) h).0

  first_at : (i : ℕ) → i < count → live i ≡ true → follows_parents clafers (clafer i) ≡ true → HasFirst layout bits i
  first_at i l h n = first_of clafers scopes layout bits fits consistent i parents l h (nested i n)

  -- ---- from slots to entries

  module _ (slots_right : (i : ℕ) → i + 1 < count → follows_slot clafers layout bits i ≡ true) where
    live_before : (i : ℕ) → i + 1 < count → clafer i ≡ clafer (i + 1) → live (i + 1) ≡ true → live i ≡ true
    live_before i l same h =
        follows_live (clafer i == clafer (i + 1)) (live i) (live (i + 1)) (follows_parents clafers (clafer i)) (begins i)
        (sym (opened i) ∙ slots_right i l) (equal_test (clafer i) (clafer (i + 1)) same) h

    begun_before : (i : ℕ) → i + 1 < count → clafer i ≡ clafer (i + 1) → follows_parents clafers (clafer i) ≡ true → begins i ≡ true
    begun_before i l same n =
        follows_begun (clafer i == clafer (i + 1)) (live i) (live (i + 1)) (follows_parents clafers (clafer i)) (begins i)
        (sym (opened i) ∙ slots_right i l) (equal_test (clafer i) (clafer (i + 1)) same) n

    -- below a live slot those of its clafer are live
    live_below : (d i : ℕ) → i + d < count → clafer i ≡ clafer (i + d) → live (i + d) ≡ true → live i ≡ true
    live_below zero i l same h = let e : i + 0 ≡ i = omega arith in sym (ap live e) ∙ h
    live_below (suc d) i l same h =
        let e : i + suc d ≡ i + d + 1 = omega arith in
        let near = same_behind layout.slots asc i d l same in
        live_below d i (omega (arith, l)) near
        (live_before (i + d) (omega (arith, l)) (sym near ∙ same ∙ ap clafer e) (sym (ap live e) ∙ h))

    filled : (i : ℕ) → i < count → live i ≡ true → fills_numbers (shown layout bits) (entry_at layout bits i) ≡ true
    filled i l h =
        numbers_from (λ k. has_node (nodes_of (shown layout bits)) (record { clafer = clafer i; number = k })) 0
        (slot layout.slots i).number (λ k low high. there k (omega (arith, high)))
      where
        there : (k : ℕ) → k < (slot layout.slots i).number
            → has_node (nodes_of (shown layout bits)) (record { clafer = clafer i; number = k }) ≡ true
        there k less =
            let s = smaller_slot clafers scopes layout i k fits l less in
            let before = place_before layout.slots asc i k l less s in
            let e : s.place + (i - s.place) ≡ i = omega (arith, before) in
            ap (has_node (nodes_of (shown layout bits))) (sym s.is) ∙ sym (shown_live layout bits s.place asc s.within)
            ∙ live_below (i - s.place) s.place (omega (arith, e, l)) (ap (λ (n : Node). n.clafer) s.is ∙ sym (ap clafer e)) (ap live e ∙ h)

    -- the first taken edges do not go back
    begun_on : (i : ℕ) → i + 1 < count → clafer i ≡ clafer (i + 1) → follows_parents clafers (clafer i) ≡ true → live (i + 1) ≡ true
        → first_to i ≤ first_to (i + 1)
    begun_on i l same n h =
        let a = first_at i (omega (arith, l)) (live_before i l same h) n in
        let b = first_at (i + 1) l h (sym (ap (follows_parents clafers) same) ∙ n) in
        not_less (first_to (i + 1)) (first_to i) (sym (begins_compare i l same a b) ∙ begun_before i l same n)

    rise : (d i : ℕ) → i + d < count → clafer i ≡ clafer (i + d) → follows_parents clafers (clafer i) ≡ true → live (i + d) ≡ true
        → first_to i ≤ first_to (i + d)
    rise zero i l same n h = let e : i + 0 ≡ i = omega arith in let p : first_to (i + 0) ≡ first_to i = ap first_to e in omega (arith, p)
    rise (suc d) i l same n h =
        let e : i + suc d ≡ i + d + 1 = omega arith in
        let near = same_behind layout.slots asc i d l same in
        let step = sym near ∙ same ∙ ap clafer e in
        let last = sym (ap live e) ∙ h in
        let p = rise d i (omega (arith, l)) near n (live_before (i + d) (omega (arith, l)) step last) in
        let q = begun_on (i + d) (omega (arith, l)) step (sym (ap (follows_parents clafers) near) ∙ n) last in
        let r : first_to (i + suc d) ≡ first_to (i + d + 1) = ap first_to e in
        omega (arith, p, q, r)

    kept : (i j : ℕ) → i < j → j < count → live i ≡ true → live j ≡ true
        → keep_order clafers (entry_at layout bits i) (entry_at layout bits j) ≡ true
    kept i j less l h m =
        implies ((clafer i == clafer j) && follows_parents clafers (clafer i))
        (is_no_later (leads_to layout.slots layout.parents bits i) (leads_to layout.slots layout.parents bits j))
        (λ t. ordered (both (clafer i == clafer j) (follows_parents clafers (clafer i)) t))
      where
        ordered : ((clafer i == clafer j) ≡ true) × (follows_parents clafers (clafer i) ≡ true)
            → is_no_later (leads_to layout.slots layout.parents bits i) (leads_to layout.slots layout.parents bits j) ≡ true
        ordered (s, n) =
            let same = same_number (clafer i) (clafer j) s in
            let e : i + (j - i) ≡ j = omega (arith, less) in
            let a = first_at i (omega (arith, less, l)) h n in
            let b = first_at j l m (sym (ap (follows_parents clafers) same) ∙ n) in
            let p = rise (j - i) i (omega (arith, e, l)) (same ∙ sym (ap clafer e)) n (ap live e ∙ m) in
            let q : first_to (i + (j - i)) ≡ first_to j = ap first_to e in
            parents_compare i j a b ∙ not_after (first_to j) (first_to i) (omega (arith, p, q))

    instance_canonical : is_canonical clafers (shown layout bits) ≡ true
    instance_canonical =
        together (list_all (fills_numbers (shown layout bits)) (shown layout bits)) (each_two (keep_order clafers) (shown layout bits))
        (all_told (fills_numbers (shown layout bits)) (entry_at layout bits) live 0 count
        (λ i low high h. filled i (omega (arith, high)) h))
        (told_two (keep_order clafers) (entry_at layout bits) live (numbers_below count)
        ∙ each_from (λ i j. not (live i && live j) || keep_order clafers (entry_at layout bits i) (entry_at layout bits j)) 0 count
        (λ i j low less high. implies (live i && live j) (keep_order clafers (entry_at layout bits i) (entry_at layout bits j))
        (λ t. let p = both (live i) (live j) t in kept i j less (omega (arith, high)) p.0 p.1)))

  -- ---- from entries to slots

  module _ (canonical : is_canonical clafers (shown layout bits) ≡ true) where
    halves : (list_all (fills_numbers (shown layout bits)) (shown layout bits) ≡ true)
        × (each_two (keep_order clafers) (shown layout bits) ≡ true)
    halves = both (list_all (fills_numbers (shown layout bits)) (shown layout bits))
        (each_two (keep_order clafers) (shown layout bits)) canonical

    lives : (i : ℕ) → i + 1 < count → clafer i ≡ clafer (i + 1) → live (i + 1) ≡ true → live i ≡ true
    lives i l same h =
        let less = numbers_rise layout.slots asc i (i + 1) (omega arith) l same in
        let full = told_each (fills_numbers (shown layout bits)) (entry_at layout bits) live 0 count (i + 1) halves.0 (omega arith)
        (omega (arith, l)) h in
        shown_live layout bits i asc (omega (arith, l))
        ∙ ap (λ c. has_node (nodes_of (shown layout bits)) (record { clafer = c; number = (slot layout.slots i).number })) same
        ∙ numbers_at (λ k. has_node (nodes_of (shown layout bits)) (record { clafer = clafer (i + 1); number = k })) 0
        (slot layout.slots (i + 1)).number (slot layout.slots i).number full (omega arith) (omega (arith, less))

    begun : (i : ℕ) → i + 1 < count → clafer i ≡ clafer (i + 1) → follows_parents clafers (clafer i) ≡ true → begins i ≡ true
    begun i l same n = by (live (i + 1)) refl
      where
        by : (b : Bool) → live (i + 1) ≡ b → begins i ≡ true
        by false e = begins_where_none bits (edges_of layout i) (edges_of layout (i + 1))
            (none_taken clafers scopes layout bits fits consistent (i + 1) l e)
        by true e =
            let h = lives i l same e in
            let a = first_at i (omega (arith, l)) h n in
            let b = first_at (i + 1) l e (sym (ap (follows_parents clafers) same) ∙ n) in
            let two = each_at (λ j k. not (live j && live k)
            || keep_order clafers (entry_at layout bits j) (entry_at layout bits k)) 0 count i (i + 1)
            (sym (told_two (keep_order clafers) (entry_at layout bits) live (numbers_below count)) ∙ halves.1) (omega arith) (omega arith)
            (omega (arith, l)) in
            let kept_two = implied (live i && live (i + 1)) (keep_order clafers (entry_at layout bits i) (entry_at layout bits (i + 1))) two
            (together (live i) (live (i + 1)) h e) in
            begins_compare i l same a b ∙ sym (parents_compare i (i + 1) a b)
            ∙ implied ((clafer i == clafer (i + 1)) && follows_parents clafers (clafer i))
            (is_no_later (leads_to layout.slots layout.parents bits i) (leads_to layout.slots layout.parents bits (i + 1))) kept_two
            (together (clafer i == clafer (i + 1)) (follows_parents clafers (clafer i)) (equal_test (clafer i) (clafer (i + 1)) same) n)

    slot_right : (i : ℕ) → i + 1 < count → follows_slot clafers layout bits i ≡ true
    slot_right i l =
        opened i
        ∙ follows_from (clafer i == clafer (i + 1)) (live i) (live (i + 1)) (follows_parents clafers (clafer i)) (begins i)
        (λ s. lives i l (same_number (clafer i) (clafer (i + 1)) s)) (λ s. begun i l (same_number (clafer i) (clafer (i + 1)) s))

  -- both ways
  slots_told : are_canonical clafers layout bits ≡ is_canonical clafers (shown layout bits)
  unfolding are_canonical
  slots_told =
      same_truth (are_canonical clafers layout bits) (is_canonical clafers (shown layout bits))
      (λ t. instance_canonical (λ i l. numbers_at (follows_slot clafers layout bits) 0 (count - 1) i t (omega arith) (omega (arith, l))))
      (λ t. numbers_from (follows_slot clafers layout bits) 0 (count - 1) (λ i low high. slot_right t i (omega (arith, high))))

pub told : (clafers : List Clafer) (scopes : Scopes) (layout : Layout) (bits : List Bool) → Fits clafers scopes layout
    → is_shaped clafers scopes layout bits ≡ true → are_canonical clafers layout bits ≡ is_canonical clafers (shown layout bits)
told clafers scopes layout bits f s =
    let sets = both (is_consistent scopes layout bits && have_parents clafers layout bits && have_targets clafers layout bits
    && have_bounds clafers layout bits) (have_sets clafers layout bits) s in
    let bounds = both (is_consistent scopes layout bits && have_parents clafers layout bits && have_targets clafers layout bits)
    (have_bounds clafers layout bits) sets.0 in
    let targets = both (is_consistent scopes layout bits && have_parents clafers layout bits) (have_targets clafers layout bits) bounds.0 in
    let parents = both (is_consistent scopes layout bits) (have_parents clafers layout bits) targets.0 in
    slots_told clafers scopes layout bits f parents.0 parents.1

-- entries of a tree have their parents
tree_parents : (clafers : List Clafer) (es : List Entry) (all : List Entry)
    → list_all (λ e. list_all (λ n. is_concrete clafers n.clafer) (named_by e) && has_its_parent clafers all e
    && ends_within (length all) all e.parent) es ≡ true
    → list_all (has_its_parent clafers all) es ≡ true
tree_parents clafers [] all h = refl
tree_parents clafers (e ∷ es) all h =
    let test : Entry → Bool = λ x. list_all (λ n. is_concrete clafers n.clafer) (named_by x) && has_its_parent clafers all x
    && ends_within (length all) all x.parent in
    let p = both (test e) (list_all test es) h in
    let q = both (list_all (λ n. is_concrete clafers n.clafer) (named_by e) && has_its_parent clafers all e)
    (ends_within (length all) all e.parent) p.0 in
    together (has_its_parent clafers all e) (list_all (has_its_parent clafers all) es)
    (both (list_all (λ n. is_concrete clafers n.clafer) (named_by e)) (has_its_parent clafers all e) q.0).1
    (tree_parents clafers es all p.1)

pub shown_told : (clafers : List Clafer) (scopes : Scopes) (layout : Layout) (bits : List Bool) (entries : List Entry)
    → Fits clafers scopes layout → Shows clafers scopes layout bits entries → is_tree clafers entries ≡ true
    → has_shape clafers scopes entries ≡ true → are_canonical clafers layout bits ≡ is_canonical clafers entries
shown_told clafers scopes layout bits entries f s t h =
    let same = shows_only clafers scopes layout bits entries f s in
    let consistent = shown_bits_consistent clafers scopes layout bits entries f s in
    let tree = ap (is_tree clafers) (sym same) ∙ t in
    let parents = parents_told clafers scopes layout bits f consistent
    ∙ tree_parents clafers (shown layout bits) (shown layout bits) tree in
    slots_told clafers scopes layout bits f consistent parents ∙ ap (is_canonical clafers) (sym same)
