-- Bits show an instance exactly where they are consistent, and then it is the one that they tell.
use Rattle.std.proofs.Common.{◌≡◌, ℕ, zero, suc, ◌+◌, ◌<◌, ◌≤◌, Bool, true, false, not, cond, ◌&&◌, ◌||◌, List, [], ◌∷◌, ◌++◌, length, map, get_or, Option, Some, None, refl, sym, ap, ◌∙◌, subst, arith}
use Rattle.std.specs.Prelude.{slice_get, nat_le, nat_lt, ◌==◌, is_some, int_le, ℤ}
use Rattle.std.specs.Option.{option_map_or, option_and_then, option_to_list}
use Rattle.std.specs.List.{flat_map, find, list_all, All, range_with_len}
use Rattle.std.proofs.lemmas.Bool.{true≢false}
use Rattle.std.proofs.lemmas.Bool.Decides.{nat_tests, Decides-int_eq}
use Rattle.std.proofs.lemmas.Grind.{common_steps}
use Rattle.std.proofs.lemmas.List.Folds.{list_all-append}
use Rattle.bool_circuit.specs.Circuit.{entry}
use Rattle.clf_tree.specs.declared.model.Clafer.{Clafer}
use Rattle.clf_tree.specs.declared.instance.Node.{Node}
use Rattle.clf_tree.specs.declared.instance.Target.{Target}
use Rattle.clf_tree.specs.declared.instance.Target.TheVariants as target
use Rattle.clf_tree.specs.declared.instance.Entry.{Entry}
use Rattle.clf_tree.specs.declared.scopes.Scopes.{Scopes}
use Rattle.clf_tree.specs.Lists.{each_two}
use Rattle.clf_tree.specs.Hierarchy.{is_concrete, owners}
use Rattle.clf_tree.specs.Nodes.{is_before, scope_of, named_by, is_within, entry_of, parent_in, target_node, has_node, nodes_of, fits_range, same_node}
use Rattle.set_bits.specs.declared.layout.Edge.{Edge}
use Rattle.set_bits.specs.declared.layout.SlotBits.{SlotBits}
use Rattle.set_bits.specs.declared.layout.Layout.{Layout}
use Rattle.set_bits.specs.Fitting.{slot, nodes_below, referred, all_ends, ends, Fits, size}
use Rattle.integer_bits.specs.Numbers.{integer_of}
use Rattle.set_bits.specs.Showing.{Shows, is_tied, target_in, integer_in, target_integer, integer_target_in, is_value, value_bits, has_value_bits}
use Rattle.shown_instance.specs.Shown.{shown, entry_at, leads_to, is_taken, is_live, integer_at}
use Rattle.shown_instance.specs.Consistent.{abstract_are_empty, has_taken, lead_from_live, are_single, are_edges, is_integer, are_integers, is_consistent}
use Rattle.shown_instance.proofs.Order.{both, together, same_itself}
use Rattle.shown_instance.proofs.Telling.{slot_at, slot_before, IsTold, EntryFound, entry_found, entry_missing}
use Rattle.shown_instance.proofs.Fitted.{slots_ascend, told, edges_between, all_pass, told_at, values_inside}
use Rattle.shown_instance.proofs.Adapting.{all_same, any_passes, test_at}
use Rattle.shown_instance.proofs.Belonging.{any_at}
use Rattle.shown_instance.proofs.Counts.{IsSound}
use Rattle.shown_instance.proofs.Once.{edges_ascend, edges_once}
use Rattle.shown_instance.proofs.Sound.{told_sound, told_single, single_count, list_from}
use Rattle.shown_instance.proofs.Hinge.{consistent_shows, all_told, target_node_back}

-- ---- tests of lists

pub numbers_from : (p : ℕ → Bool) (a m : ℕ) → ((i : ℕ) → a ≤ i → i < a + m → p i ≡ true) → list_all p (range_with_len a m) ≡ true
numbers_from p a zero h = refl
numbers_from p a (suc m) h = together (p a) (list_all p (range_with_len (a + 1) m)) (h a (omega arith) (omega arith)) (numbers_from p (a + 1) m (λ i s t. h i (omega arith) (omega arith)))

pub numbers_at : (p : ℕ → Bool) (a m i : ℕ) → list_all p (range_with_len a m) ≡ true → a ≤ i → i < a + m → p i ≡ true
numbers_at p a zero i h s t = absurd (omega arith)
numbers_at p a (suc m) i h s t = by (nat_le i a) refl (numbers_at p (a + 1) m i (both (p a) (list_all p (range_with_len (a + 1) m)) h).1)
  where
    by : (b : Bool) → nat_le i a ≡ b → (a + 1 ≤ i → i < (a + 1) + m → p i ≡ true) → p i ≡ true
    by true e rest = let le : i ≤ a = grind (arith, nat_tests) in let same : a ≡ i = omega (arith, le) in subst (λ j. p j ≡ true) same (both (p a) (list_all p (range_with_len (a + 1) m)) h).0
    by false e rest = let lt : a < i = grind (arith, nat_tests) in rest (omega (arith, lt)) (omega arith)

list_all-at : {X : Type 0} (p : X → Bool) (xs : List X) (i : ℕ) (x : X) → list_all p xs ≡ true → slice_get xs i ≡ Some x → p x ≡ true
list_all-at p [] i x a e = absurd (true≢false (sym (ap is_some e)))
list_all-at p (y ∷ ys) zero x a e = sym (ap (λ o. option_map_or p o (p y)) e) ∙ (both (p y) (list_all p ys) a).0
list_all-at p (y ∷ ys) (suc i) x a e = list_all-at p ys i x (both (p y) (list_all p ys) a).1 e

-- ---- the slots are within the scopes

abbrev is_inside : List Clafer → Scopes → Node → Bool
is_inside clafers scopes n = is_concrete clafers n.clafer && nat_lt n.number (scope_of scopes n.clafer)

below_inside : (clafers : List Clafer) (scopes : Scopes) (c a m : ℕ) → (0 < scope_of scopes c → is_concrete clafers c ≡ true) → a + m ≤ scope_of scopes c → list_all (is_inside clafers scopes) (map (λ j. record { clafer = c; number = j }) (range_with_len a m)) ≡ true
below_inside clafers scopes c a zero h l = refl
below_inside clafers scopes c a (suc m) h l =
    together (is_inside clafers scopes (record { clafer = c; number = a })) (list_all (is_inside clafers scopes) (map (λ j. record { clafer = c; number = j }) (range_with_len (a + 1) m)))
    (together (is_concrete clafers c) (nat_lt a (scope_of scopes c)) (h (omega arith)) (lt a (scope_of scopes c) (omega arith))) (below_inside clafers scopes c (a + 1) m h (omega arith))
  where
    lt : (a b : ℕ) → a < b → nat_lt a b ≡ true
    lt a b h = grind (arith, nat_tests)

within_inside : (clafers : List Clafer) (scopes : Scopes) (a m : ℕ) → list_all (λ c. is_concrete clafers c || (scope_of scopes c == 0)) (range_with_len a m) ≡ true → a + m ≤ length clafers → list_all (is_inside clafers scopes) (flat_map (λ c. nodes_below c (scope_of scopes c)) (range_with_len a m)) ≡ true
within_inside clafers scopes a zero h l = refl
within_inside clafers scopes a (suc m) h l =
    let p = both (is_concrete clafers a || (scope_of scopes a == 0)) (list_all (λ c. is_concrete clafers c || (scope_of scopes c == 0)) (range_with_len (a + 1) m)) h in
    list_all-append (is_inside clafers scopes) (nodes_below a (scope_of scopes a)) (flat_map (λ c. nodes_below c (scope_of scopes c)) (range_with_len (a + 1) m))
    ∙ together (list_all (is_inside clafers scopes) (nodes_below a (scope_of scopes a))) (list_all (is_inside clafers scopes) (flat_map (λ c. nodes_below c (scope_of scopes c)) (range_with_len (a + 1) m)))
    (below_inside clafers scopes a 0 (scope_of scopes a) (λ q. by (is_concrete clafers a) refl q p.0) (omega arith)) (within_inside clafers scopes (a + 1) m p.1 (omega arith))
  where
    none : (n : ℕ) → (n == 0) ≡ true → n ≡ 0
    none n h = grind (arith, common_steps)

    by : (b : Bool) → is_concrete clafers a ≡ b → 0 < scope_of scopes a → (is_concrete clafers a || (scope_of scopes a == 0)) ≡ true → is_concrete clafers a ≡ true
    by true e q w = e
    by false e q w = let z = none (scope_of scopes a) (sym (ap (λ b. b || (scope_of scopes a == 0)) e) ∙ w) in absurd (omega (arith, z, q))

leads_inside : (test : Node → Bool) (slots : List Node) (o : Option Edge) → list_all test slots ≡ true → list_all test (option_to_list (option_and_then (λ (e : Edge). slice_get slots e.to) o)) ≡ true
leads_inside test slots None h = refl
leads_inside test slots (Some e) h = by (slice_get slots e.to) refl
  where
    by : (o : Option Node) → slice_get slots e.to ≡ o → list_all test (option_to_list (slice_get slots e.to)) ≡ true
    by None s = ap (λ o. list_all test (option_to_list o)) s
    by (Some n) s = ap (λ o. list_all test (option_to_list o)) s ∙ together (test n) true (list_all-at test slots e.to n h s) refl

pub shown_within : (clafers : List Clafer) (scopes : Scopes) (layout : Layout) (bits : List Bool) → list_all (is_inside clafers scopes) layout.slots ≡ true → is_within clafers scopes (shown layout bits) ≡ true
shown_within clafers scopes layout bits h =
    all_told (λ (e : Entry). list_all (is_inside clafers scopes) (named_by e)) (entry_at layout bits) (is_live layout bits) 0 (length layout.slots) (λ i s t u.
    together (is_inside clafers scopes (slot layout.slots i)) (list_all (is_inside clafers scopes) (option_to_list (leads_to layout.slots layout.parents bits i) ++ option_to_list (target_node (entry_at layout bits i))))
    (list_all-at (is_inside clafers scopes) layout.slots i (slot layout.slots i) h (slot_at layout.slots i (omega arith)))
    (list_all-append (is_inside clafers scopes) (option_to_list (leads_to layout.slots layout.parents bits i)) (option_to_list (target_node (entry_at layout bits i)))
    ∙ together (list_all (is_inside clafers scopes) (option_to_list (leads_to layout.slots layout.parents bits i))) (list_all (is_inside clafers scopes) (option_to_list (target_node (entry_at layout bits i))))
    (leads_inside (is_inside clafers scopes) layout.slots (find (is_taken bits i) layout.parents) h)
    (ap (λ o. list_all (is_inside clafers scopes) (option_to_list o)) (target_node_back (leads_to layout.slots layout.targets bits i) (integer_at layout.values bits i)) ∙ leads_inside (is_inside clafers scopes) layout.slots (find (is_taken bits i) layout.targets) h)))

-- ---- the whole

same_number : (a b : ℕ) → (a == b) ≡ true → a ≡ b
same_number a b h = grind (arith, common_steps)

itself : (n : ℕ) → (n == n) ≡ true
itself n = grind (arith, common_steps)

-- whether a slot of which an edge is taken is live
abbrev leads_from : Layout → List Edge → List Bool → ℕ → Bool
leads_from layout edges bits i = not (has_taken edges bits i) || is_live layout bits i

pub sound_edges : (near : ℕ → List ℕ) (layout : Layout) (edges : List Edge) (bits : List Bool) → ends edges ≡ all_ends near layout.slots → lead_from_live layout edges bits ≡ true → All (IsSound layout bits) edges
sound_edges near layout edges bits h live = λ k d l.
    let e : Edge = get_or edges k d in
    let w = told_at (length layout.slots) e.from e.to (all_pass (λ (x : Edge). nat_lt x.from (length layout.slots) && nat_lt x.to (length layout.slots)) edges k d (edges_between near layout.slots edges h) l) in
    record {
      from_in = w.0;
      to_in = w.1;
      lives = λ b. by (has_taken edges bits e.from) (is_live layout bits e.from) (numbers_at (leads_from layout edges bits) 0 (length layout.slots) e.from live (omega arith) (omega (arith, w.0)))
          (any_at (is_taken bits e.from) edges k d l (together (e.from == e.from) (entry bits e.here) (itself e.from) b));
    }
  where
    by : (a b : Bool) → (not a || b) ≡ true → a ≡ true → b ≡ true
    by true b h s = h
    by false b h s = absurd (true≢false (sym s))

-- the instance that bits tell is within the scopes
pub told_within : (clafers : List Clafer) (scopes : Scopes) (layout : Layout) (bits : List Bool) → Fits clafers scopes layout → abstract_are_empty clafers scopes ≡ true → is_within clafers scopes (shown layout bits) ≡ true
told_within clafers scopes layout bits f empty = shown_within clafers scopes layout bits (ap (list_all (is_inside clafers scopes)) f.slots ∙ within_inside clafers scopes 0 (length clafers) empty (omega arith))

-- consistent bits show the instance that they tell
pub consistent_bits_show : (clafers : List Clafer) (scopes : Scopes) (layout : Layout) (bits : List Bool) → Fits clafers scopes layout → abstract_are_empty clafers scopes ≡ true → length bits ≡ size layout → is_consistent scopes layout bits ≡ true
    → Shows clafers scopes layout bits (shown layout bits)
consistent_bits_show clafers scopes layout bits f empty sized c =
    let asc : each_two is_before layout.slots ≡ true = ap (each_two is_before) f.slots ∙ slots_ascend clafers scopes in
    let whole = both (are_edges layout layout.parents bits && are_edges layout layout.targets bits) (are_integers scopes layout bits) c in
    let halves = both (are_edges layout layout.parents bits) (are_edges layout layout.targets bits) whole.0 in
    let p = both (lead_from_live layout layout.parents bits) (are_single layout.parents bits) halves.0 in
    let t = both (lead_from_live layout layout.targets bits) (are_single layout.targets bits) halves.1 in
    let inside : list_all (is_inside clafers scopes) layout.slots ≡ true = ap (list_all (is_inside clafers scopes)) f.slots ∙ within_inside clafers scopes 0 (length clafers) empty (omega arith) in
    consistent_shows clafers scopes layout bits f asc (λ i j h l. slot_before layout.slots i j asc h l) sized (shown_within clafers scopes layout bits inside) whole.1
    (sound_edges (owners clafers) layout layout.parents bits f.parents p.0) (edges_once (owners clafers) layout.slots layout.parents f.parents) (λ i l. single_count bits i layout.parents p.1)
    (sound_edges (referred clafers) layout layout.targets bits f.targets t.0) (edges_once (referred clafers) layout.slots layout.targets f.targets) (λ i l. single_count bits i layout.targets t.1)

half : (near : ℕ → List ℕ) (layout : Layout) (bits : List Bool) (entries : List Entry) (of : Entry → Option Node) (edges : List Edge) → ends edges ≡ all_ends near layout.slots → each_two is_before layout.slots ≡ true
    → ((i : ℕ) → i < length layout.slots → is_live layout bits i ≡ has_node (nodes_of entries) (slot layout.slots i)) → All (IsTold (λ n. option_and_then of (entry_of entries n)) layout.slots bits) edges → are_edges layout edges bits ≡ true
half near layout bits entries of edges h asc live told_all =
    together (lead_from_live layout edges bits) (are_single edges bits)
    (numbers_from (leads_from layout edges bits) 0 (length layout.slots) (λ i a b. by i (has_taken edges bits i) refl))
    (told_single (λ n. option_and_then of (entry_of entries n)) layout.slots bits edges asc (edges_ascend near layout.slots edges h) told_all)
  where
    sound : All (IsSound layout bits) edges
    sound = told_sound layout bits entries of edges live told_all

    by : (i : ℕ) (b : Bool) → has_taken edges bits i ≡ b → leads_from layout edges bits i ≡ true
    by i false t = ap (λ b. not b || is_live layout bits i) t
    by i true t =
        let f = any_passes (is_taken bits i) edges t in
        let q = both (f.it.from == i) (entry bits f.it.here) f.passes in
        let here : IsSound layout bits f.it = subst (IsSound layout bits) f.there (sound f.place f.it f.within) in
        ap (λ b. not b || is_live layout bits i) t ∙ sym (ap (is_live layout bits) (same_number f.it.from i q.0)) ∙ here.lives q.1

-- ---- integers of an instance that is shown

-- what an entry says of its integer
record IsRanged (scopes : Scopes) (layout : Layout) (x : Entry) : Type 0 where
  in_range : option_map_or (fits_range scopes) x.target true ≡ true
  has_value : is_some (target_integer x) ≡ has_value_bits layout.slots layout.values x.node

shown_integer : (scopes : Scopes) (layout : Layout) (bits : List Bool) (entries : List Entry) (v : SlotBits) → is_live layout bits v.slot ≡ has_node (nodes_of entries) (slot layout.slots v.slot) → All (IsRanged scopes layout) entries
    → has_value_bits layout.slots layout.values (slot layout.slots v.slot) ≡ true → is_value (integer_target_in entries (slot layout.slots v.slot)) (value_bits bits v) ≡ true → is_integer scopes layout bits v ≡ true
shown_integer scopes layout bits entries v live ranged there value = by (is_live layout bits v.slot) refl
  where
    n : Node
    n = slot layout.slots v.slot

    z : ℤ
    z = integer_of (value_bits bits v)

    fits : ℤ → Bool
    fits y = int_le scopes.low y && int_le y scopes.high

    low_high : (o : Option Target) (y : ℤ) → option_and_then integer_in o ≡ Some y → option_map_or (fits_range scopes) o true ≡ true → fits y ≡ true
    low_high None y e h = absurd (true≢false (sym (ap is_some e)))
    low_high (Some (target.Node m)) y e h = absurd (true≢false (sym (ap is_some e)))
    low_high (Some (target.Int x)) y e h = sym (ap (λ o. option_map_or fits o true) e) ∙ h

    told : (o : Option ℤ) → integer_target_in entries n ≡ o → is_some o ≡ true → (y : ℤ) → o ≡ Some y → z ≡ y
    told o e s y f = (Decides-int_eq z y).0 (sym (ap (λ p. is_value p (value_bits bits v)) (e ∙ f)) ∙ value)

    alive : EntryFound (IsRanged scopes layout) entries n → fits z ≡ true
    alive x = pick (target_integer x.it) refl
      where
        some : is_some (target_integer x.it) ≡ true
        some = x.has.has_value ∙ ap (has_value_bits layout.slots layout.values) x.node_is ∙ there

        pick : (o : Option ℤ) → target_integer x.it ≡ o → fits z ≡ true
        pick None e = absurd (true≢false (sym some ∙ ap is_some e))
        pick (Some y) e = ap fits (told (target_integer x.it) (ap (option_and_then target_integer) x.found) some y e) ∙ low_high x.it.target y e x.has.in_range

    dead : has_node (nodes_of entries) n ≡ false → list_all not (value_bits bits v) ≡ true
    dead h = sym (ap (λ o. is_value (option_and_then target_integer o) (value_bits bits v)) (entry_missing entries n h)) ∙ value

    by : (b : Bool) → is_live layout bits v.slot ≡ b → cond (is_live layout bits v.slot) (fits z) (list_all not (value_bits bits v)) ≡ true
    by true e = ap (λ b. cond b (fits z) (list_all not (value_bits bits v))) e ∙ alive (entry_found (IsRanged scopes layout) entries n ranged (sym live ∙ e))
    by false e = ap (λ b. cond b (fits z) (list_all not (value_bits bits v))) e ∙ dead (sym live ∙ e)

shown_integers : (clafers : List Clafer) (scopes : Scopes) (layout : Layout) (bits : List Bool) (entries : List Entry) → Fits clafers scopes layout → Shows clafers scopes layout bits entries
    → ((i : ℕ) → i < length layout.slots → is_live layout bits i ≡ has_node (nodes_of entries) (slot layout.slots i)) → are_integers scopes layout bits ≡ true
shown_integers clafers scopes layout bits entries f s live =
    list_from (is_integer scopes layout bits) layout.values (λ k d l.
    let v : SlotBits = get_or layout.values k d in
    shown_integer scopes layout bits entries v
    (live v.slot (less v.slot (length layout.slots) (all_pass (λ (x : SlotBits). nat_lt x.slot (length layout.slots)) layout.values k d (values_inside clafers layout.slots layout.values f.values) l)))
    (λ j c m. record {
      in_range = all_pass (λ (e : Entry). option_map_or (fits_range scopes) e.target true) entries j c s.in_range m;
      has_value = all_same (λ (e : Entry). is_some (target_integer e)) (λ (e : Entry). has_value_bits layout.slots layout.values e.node) entries s.has_values j c m;
    })
    (any_at (λ (x : SlotBits). same_node (slot layout.slots x.slot) (slot layout.slots v.slot)) layout.values k d l (same_itself (slot layout.slots v.slot)))
    (all_pass (λ x. is_value (integer_target_in entries (slot layout.slots x.slot)) (value_bits bits x)) layout.values k d s.values l))
  where
    less : (a b : ℕ) → nat_lt a b ≡ true → a < b
    less a b h = grind (arith, nat_tests)

-- bits that show an instance are consistent
pub shown_bits_consistent : (clafers : List Clafer) (scopes : Scopes) (layout : Layout) (bits : List Bool) (entries : List Entry) → Fits clafers scopes layout → Shows clafers scopes layout bits entries → is_consistent scopes layout bits ≡ true
shown_bits_consistent clafers scopes layout bits entries f s =
    together (are_edges layout layout.parents bits && are_edges layout layout.targets bits) (are_integers scopes layout bits)
    (together (are_edges layout layout.parents bits) (are_edges layout layout.targets bits)
    (half (owners clafers) layout bits entries (λ e. e.parent) layout.parents f.parents asc live
    (told (owners clafers) (parent_in entries) layout.slots bits layout.parents f.parents (all_same (λ (e : Edge). entry bits e.here) (is_tied (parent_in entries) layout.slots) layout.parents s.parents)))
    (half (referred clafers) layout bits entries target_node layout.targets f.targets asc live
    (told (referred clafers) (target_in entries) layout.slots bits layout.targets f.targets (all_same (λ (e : Edge). entry bits e.here) (is_tied (target_in entries) layout.slots) layout.targets s.targets))))
    (shown_integers clafers scopes layout bits entries f s live)
  where
    asc : each_two is_before layout.slots ≡ true
    asc = ap (each_two is_before) f.slots ∙ slots_ascend clafers scopes

    live : (i : ℕ) → i < length layout.slots → is_live layout bits i ≡ has_node (nodes_of entries) (slot layout.slots i)
    live i h = test_at (entry bits) (has_node (nodes_of entries)) layout.live layout.slots i (slot layout.slots i) s.live (slot_at layout.slots i h)
