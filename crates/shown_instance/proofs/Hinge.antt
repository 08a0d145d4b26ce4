-- Consistent bits show exactly the instance that they tell.
use Rattle.std.proofs.Common.{◌≡◌, ℕ, zero, suc, ◌+◌, ◌<◌, ◌≤◌, Bool, true, false, cond, ◌&&◌, List, [], ◌∷◌, length, map, get_or, Option, Some, None, refl, sym, ap, ◌∙◌, arith}
use Rattle.std.specs.Prelude.{slice_get, ◌==◌, is_some, int_le, nat_lt, not, ℤ}
use Rattle.integer_bits.specs.Numbers.{integer_of}
use Rattle.bool_circuit.specs.declared.gate.Wire.{Wire}
use Rattle.std.proofs.lemmas.Bool.Decides.{Decides-int_eq, nat_tests}
use Rattle.std.proofs.lemmas.List.{length-map}
use Rattle.std.proofs.lemmas.List.FromFn.{length-range_with_len}
use Rattle.std.specs.Option.{option_map, option_map_or, option_and_then}
use Rattle.std.specs.List.{filter, find, All, Contains, range_with_len, count_by, list_all}
use Rattle.std.proofs.lemmas.Grind.{common_steps}
use Rattle.bool_circuit.specs.Circuit.{entry}
use Rattle.clf_tree.specs.declared.model.Clafer.{Clafer}
use Rattle.clf_tree.specs.declared.instance.Node.{Node}
use Rattle.clf_tree.specs.declared.instance.Target.TheVariants as target
use Rattle.clf_tree.specs.declared.instance.Entry.{Entry}
use Rattle.clf_tree.specs.declared.scopes.Scopes.{Scopes}
use Rattle.clf_tree.specs.Lists.{each_two}
use Rattle.clf_tree.specs.Nodes.{same_node, is_before, has_node, nodes_of, parent_in, target_node, node_in, is_within, fits_range}
use Rattle.set_bits.specs.declared.layout.Edge.{Edge}
use Rattle.set_bits.specs.declared.layout.Layout.{Layout}
use Rattle.set_bits.specs.Fitting.{slot, size, Fits}
use Rattle.set_bits.specs.declared.layout.SlotBits.{SlotBits}
use Rattle.set_bits.specs.Showing.{is_tied, Shows, target_in, has_edge, is_value, value_bits, integer_target_in, target_integer, has_value_bits}
use Rattle.shown_instance.specs.Shown.{shown, entry_at, leads_to, is_taken, is_live, is_at, integer_at, target_of}
use Rattle.shown_instance.specs.Consistent.{is_integer, are_integers}
use Rattle.shown_instance.proofs.Order.{both, together, same_itself}
use Rattle.shown_instance.proofs.Telling.{slot_at}
use Rattle.shown_instance.proofs.Counts.{IsSound, found_has}
use Rattle.shown_instance.proofs.Consistent.{shown_entry, shown_live, edge_tied, AreOnce}
use Rattle.shown_instance.proofs.Adapting.{all_pass}
use Rattle.shown_instance.proofs.Fitted.{values_inside}
use Rattle.shown_instance.proofs.Belonging.{any_at, all_of, map_same}
use Rattle.shown_instance.proofs.Valued.{own_integer, entry_integer, integer_bits_there}

-- a fact of each told entry is one of each live slot
pub all_told : (p : Entry → Bool) (g : ℕ → Entry) (l : ℕ → Bool) (a m : ℕ) → ((i : ℕ) → a ≤ i → i < a + m → l i ≡ true → p (g i) ≡ true) → list_all p (map g (filter l (range_with_len a m))) ≡ true
all_told p g l a zero h = refl
all_told p g l a (suc m) h = by (l a) refl (all_told p g l (a + 1) m (λ i s t u. h i (omega arith) (omega arith) u))
  where
    by : (b : Bool) → l a ≡ b → list_all p (map g (filter l (range_with_len (a + 1) m))) ≡ true → list_all p (map g (cond b (a ∷ filter l (range_with_len (a + 1) m)) (filter l (range_with_len (a + 1) m)))) ≡ true
    by true e rest = together (p (g a)) (list_all p (map g (filter l (range_with_len (a + 1) m)))) (h a (omega arith) (omega arith) e) rest
    by false e rest = rest

-- two tests that agree at each live slot agree at the told entries
pub same_told : (p q : Entry → Bool) (g : ℕ → Entry) (l : ℕ → Bool) (a m : ℕ) → ((i : ℕ) → a ≤ i → i < a + m → p (g i) ≡ q (g i)) → map p (map g (filter l (range_with_len a m))) ≡ map q (map g (filter l (range_with_len a m)))
same_told p q g l a zero h = refl
same_told p q g l a (suc m) h = by (l a) (same_told p q g l (a + 1) m (λ i s t. h i (omega arith) (omega arith)))
  where
    by : (b : Bool) → map p (map g (filter l (range_with_len (a + 1) m))) ≡ map q (map g (filter l (range_with_len (a + 1) m)))
        → map p (map g (cond b (a ∷ filter l (range_with_len (a + 1) m)) (filter l (range_with_len (a + 1) m)))) ≡ map q (map g (cond b (a ∷ filter l (range_with_len (a + 1) m)) (filter l (range_with_len (a + 1) m))))
    by true rest = ap (λ b. b ∷ map p (map g (filter l (range_with_len (a + 1) m)))) (h a (omega arith) (omega arith)) ∙ ap (λ bs. q (g a) ∷ bs) rest
    by false rest = rest

-- in order
ordered_told : (slots : List Node) (g : ℕ → Entry) (l : ℕ → Bool) (a m : ℕ) → ((j : ℕ) → (g j).node ≡ slot slots j) → ((i j : ℕ) → i < j → j < length slots → is_before (slot slots i) (slot slots j) ≡ true) → a + m ≤ length slots
    → each_two (λ (x y : Entry). is_before x.node y.node) (map g (filter l (range_with_len a m))) ≡ true
ordered_told slots g l a zero n asc t = refl
ordered_told slots g l a (suc m) n asc t = by (l a) (ordered_told slots g l (a + 1) m n asc (omega arith))
  where
    by : (b : Bool) → each_two (λ (x y : Entry). is_before x.node y.node) (map g (filter l (range_with_len (a + 1) m))) ≡ true → each_two (λ (x y : Entry). is_before x.node y.node) (map g (cond b (a ∷ filter l (range_with_len (a + 1) m)) (filter l (range_with_len (a + 1) m)))) ≡ true
    by true rest =
        together (list_all (λ (y : Entry). is_before (g a).node y.node) (map g (filter l (range_with_len (a + 1) m)))) (each_two (λ (x y : Entry). is_before x.node y.node) (map g (filter l (range_with_len (a + 1) m))))
        (all_told (λ (y : Entry). is_before (g a).node y.node) g l (a + 1) m (λ i s q u. ap (λ x. is_before x (g i).node) (n a) ∙ ap (is_before (slot slots a)) (n i) ∙ asc a i (omega arith) (omega arith))) rest
    by false rest = rest

get_same : {X : Type 0} (xs : List X) (j : ℕ) (d : X) → j < length xs → get_or xs j (get_or xs j d) ≡ get_or xs j d
get_same [] j d m = absurd (omega arith)
get_same (x ∷ xs) zero d m = refl
get_same (x ∷ xs) (suc j) d m = get_same xs j d (omega arith)

same_number : (a b : ℕ) → (a == b) ≡ true → a ≡ b
same_number a b h = grind (arith, common_steps)

-- what an entry is tied to has an edge
has_its_edge : (layout : Layout) (edges : List Edge) (bits : List Bool) (i : ℕ) → All (IsSound layout bits) edges → option_map_or (has_edge layout.slots edges (slot layout.slots i)) (leads_to layout.slots edges bits i) true ≡ true
has_its_edge layout edges bits i sound = by (find (is_taken bits i) edges) refl
  where
    lead : Option Edge → Option Node
    lead o = option_and_then (λ (x : Edge). slice_get layout.slots x.to) o

    tells : Option Node → Bool
    tells o = option_map_or (has_edge layout.slots edges (slot layout.slots i)) o true

    there : (f : Edge) → Contains edges f → f.from ≡ i → has_edge layout.slots edges (slot layout.slots i) (slot layout.slots f.to) ≡ true
    there f (k, l, at) s =
        any_at (λ (x : Edge). same_node (slot layout.slots x.from) (slot layout.slots i) && same_node (slot layout.slots x.to) (slot layout.slots f.to)) edges k f l
        (ap (λ (x : Edge). same_node (slot layout.slots x.from) (slot layout.slots i) && same_node (slot layout.slots x.to) (slot layout.slots f.to)) at
        ∙ together (same_node (slot layout.slots f.from) (slot layout.slots i)) (same_node (slot layout.slots f.to) (slot layout.slots f.to))
        (ap (λ j. same_node (slot layout.slots j) (slot layout.slots i)) s ∙ same_itself (slot layout.slots i)) (same_itself (slot layout.slots f.to)))

    by : (o : Option Edge) → find (is_taken bits i) edges ≡ o → tells (lead (find (is_taken bits i) edges)) ≡ true
    by None t = ap (λ o. tells (lead o)) t
    by (Some f) t =
        let w = found_has (is_taken bits i) (λ x. IsSound layout bits x × Contains edges x) edges f t (λ j d m. (sound j d m, (j, m, get_same edges j d m))) in
        let q = both (f.from == i) (entry bits f.here) w.0 in
        ap (λ o. tells (lead o)) t ∙ ap tells (slot_at layout.slots f.to w.1.0.to_in) ∙ there f w.1.1 (same_number f.from i q.0)

tied_all : (layout : Layout) (edges : List Edge) (bits : List Bool) (of : Node → Option Node) → each_two is_before layout.slots ≡ true → All (IsSound layout bits) edges → AreOnce edges → ((i : ℕ) → i < length layout.slots → count_by (is_taken bits i) edges ≤ 1)
    → ((i : ℕ) → i < length layout.slots → of (slot layout.slots i) ≡ cond (is_live layout bits i) (leads_to layout.slots edges bits i) None) → All (λ (e : Edge). entry bits e.here ≡ is_tied of layout.slots e) edges
tied_all layout edges bits of asc sound once single ofs = λ k d l.
    edge_tied layout edges bits of (get_or edges k d) asc sound once (single (get_or edges k d).from (sound k d l).from_in) (ofs (get_or edges k d).from (sound k d l).from_in) (k, l, get_same edges k d l)

pub target_node_back : (o : Option Node) (z : Option ℤ) → option_and_then node_in (target_of o z) ≡ o
target_node_back None None = refl
target_node_back None (Some z) = refl
target_node_back (Some n) z = refl

-- the bits of the slots
same_maps : (f : Wire → Bool) (g : Node → Bool) (xs : List Wire) (ys : List Node) → length xs ≡ length ys → ((i : ℕ) → i < length ys → option_map_or f (slice_get xs i) false ≡ g (slot ys i)) → map f xs ≡ map g ys
same_maps f g [] [] l h = refl
same_maps f g [] (y ∷ ys) l h = absurd (omega (arith, l))
same_maps f g (x ∷ xs) [] l h = absurd (omega (arith, l))
same_maps f g (x ∷ xs) (y ∷ ys) l h = ap (λ b. b ∷ map f xs) (h 0 (omega arith)) ∙ ap (λ bs. g y ∷ bs) (same_maps f g xs ys (omega (arith, l)) (λ i m. h (suc i) (omega (arith, m))))

live_bits : (clafers : List Clafer) (scopes : Scopes) (layout : Layout) (bits : List Bool) → Fits clafers scopes layout → each_two is_before layout.slots ≡ true → map (entry bits) layout.live ≡ map (has_node (nodes_of (shown layout bits))) layout.slots
live_bits clafers scopes layout bits f asc =
    same_maps (entry bits) (has_node (nodes_of (shown layout bits))) layout.live layout.slots
    (sym (length-map layout.live (λ (w : Wire). w.number)) ∙ ap length f.live ∙ length-range_with_len 0 (length layout.slots)) (λ i l. shown_live layout bits i asc l)

-- ---- integers

pub ranged : (scopes : Scopes) (layout : Layout) (bits : List Bool) (i : ℕ) → are_integers scopes layout bits ≡ true → is_live layout bits i ≡ true
    → option_map_or (fits_range scopes) (target_of (leads_to layout.slots layout.targets bits i) (integer_at layout.values bits i)) true ≡ true
ranged scopes layout bits i h live = by (leads_to layout.slots layout.targets bits i) (find (is_at i) layout.values) refl
  where
    spelled : Option SlotBits → Option ℤ
    spelled o = option_map (λ (v : SlotBits). integer_of (value_bits bits v)) o

    none : (o : Option Node) → option_map_or (fits_range scopes) (target_of o None) true ≡ true
    none None = refl
    none (Some n) = refl

    by : (o : Option Node) (v : Option SlotBits) → find (is_at i) layout.values ≡ v → option_map_or (fits_range scopes) (target_of o (spelled (find (is_at i) layout.values))) true ≡ true
    by (Some n) v t = refl
    by None None t = ap (λ o. option_map_or (fits_range scopes) (target_of None (spelled o)) true) t
    by None (Some v) t =
        let w = found_has (is_at i) (λ x. is_integer scopes layout bits x ≡ true) layout.values v t (all_pass (is_integer scopes layout bits) layout.values h) in
        ap (λ o. option_map_or (fits_range scopes) (target_of None (spelled o)) true) t
        ∙ sym (ap (λ b. cond b (fits_range scopes (target.Int (integer_of (value_bits bits v)))) (list_all not (value_bits bits v))) (ap (is_live layout bits) (same_number v.slot i w.0) ∙ live)) ∙ w.1

valued : (clafers : List Clafer) (scopes : Scopes) (layout : Layout) (bits : List Bool) → Fits clafers scopes layout → each_two is_before layout.slots ≡ true → are_integers scopes layout bits ≡ true → (k : ℕ) (d : SlotBits) → k < length layout.values
    → is_value (integer_target_in (shown layout bits) (slot layout.slots (get_or layout.values k d).slot)) (value_bits bits (get_or layout.values k d)) ≡ true
valued clafers scopes layout bits f asc h k d l =
    ap (λ o. is_value o (value_bits bits v)) (ap (option_and_then target_integer) (shown_entry layout bits v.slot asc inside)) ∙ by (is_live layout bits v.slot) refl
  where
    v : SlotBits
    v = get_or layout.values k d

    less : (a b : ℕ) → nat_lt a b ≡ true → a < b
    less a b h = grind (arith, nat_tests)

    inside : v.slot < length layout.slots
    inside = less v.slot (length layout.slots) (all_pass (λ (x : SlotBits). nat_lt x.slot (length layout.slots)) layout.values (values_inside clafers layout.slots layout.values f.values) k d l)

    by : (b : Bool) → is_live layout bits v.slot ≡ b → is_value (option_and_then target_integer (cond (is_live layout bits v.slot) (Some (entry_at layout bits v.slot)) None)) (value_bits bits v) ≡ true
    by true t =
        ap (λ b. is_value (option_and_then target_integer (cond b (Some (entry_at layout bits v.slot)) None)) (value_bits bits v)) t
        ∙ ap (λ z. is_value z (value_bits bits v)) (entry_integer clafers scopes layout bits v.slot f inside ∙ own_integer clafers scopes layout bits f k d l)
        ∙ (Decides-int_eq (integer_of (value_bits bits v)) (integer_of (value_bits bits v))).1 refl
    by false t =
        ap (λ b. is_value (option_and_then target_integer (cond b (Some (entry_at layout bits v.slot)) None)) (value_bits bits v)) t
        ∙ sym (ap (λ b. cond b (int_le scopes.low (integer_of (value_bits bits v)) && int_le (integer_of (value_bits bits v)) scopes.high) (list_all not (value_bits bits v))) t)
        ∙ all_pass (is_integer scopes layout bits) layout.values h k d l

pub consistent_shows : (clafers : List Clafer) (scopes : Scopes) (layout : Layout) (bits : List Bool) → Fits clafers scopes layout → each_two is_before layout.slots ≡ true → ((i j : ℕ) → i < j → j < length layout.slots → is_before (slot layout.slots i) (slot layout.slots j) ≡ true)
    → length bits ≡ size layout → is_within clafers scopes (shown layout bits) ≡ true → are_integers scopes layout bits ≡ true
    → All (IsSound layout bits) layout.parents → AreOnce layout.parents → ((i : ℕ) → i < length layout.slots → count_by (is_taken bits i) layout.parents ≤ 1)
    → All (IsSound layout bits) layout.targets → AreOnce layout.targets → ((i : ℕ) → i < length layout.slots → count_by (is_taken bits i) layout.targets ≤ 1)
    → Shows clafers scopes layout bits (shown layout bits)
consistent_shows clafers scopes layout bits f asc before sized inside numbers ps ponce psingle ts tonce tsingle = record {
  within = inside;
  in_range = all_told (λ (e : Entry). option_map_or (fits_range scopes) e.target true) (entry_at layout bits) (is_live layout bits) 0 (length layout.slots) (λ i s t u. ranged scopes layout bits i numbers u);
  ordered = ordered_told layout.slots (entry_at layout bits) (is_live layout bits) 0 (length layout.slots) (λ j. refl) before (omega arith);
  size = sized;
  live = live_bits clafers scopes layout bits f asc;
  parents = map_same (λ (e : Edge). entry bits e.here) (is_tied (parent_in (shown layout bits)) layout.slots) layout.parents
      (tied_all layout layout.parents bits (parent_in (shown layout bits)) asc ps ponce psingle (λ i h. ap (option_and_then (λ (e : Entry). e.parent)) (shown_entry layout bits i asc h) ∙ parent_at (is_live layout bits i) i));
  has_parents = all_told (λ (e : Entry). option_map_or (has_edge layout.slots layout.parents e.node) e.parent true) (entry_at layout bits) (is_live layout bits) 0 (length layout.slots) (λ i s t u. has_its_edge layout layout.parents bits i ps);
  targets = map_same (λ (e : Edge). entry bits e.here) (is_tied (target_in (shown layout bits)) layout.slots) layout.targets
      (tied_all layout layout.targets bits (target_in (shown layout bits)) asc ts tonce tsingle (λ i h. ap (option_and_then target_node) (shown_entry layout bits i asc h) ∙ target_at (is_live layout bits i) i));
  has_targets = all_told (λ (e : Entry). option_map_or (has_edge layout.slots layout.targets e.node) (target_node e) true) (entry_at layout bits) (is_live layout bits) 0 (length layout.slots)
      (λ i s t u. ap (λ o. option_map_or (has_edge layout.slots layout.targets (slot layout.slots i)) o true) (target_node_back (leads_to layout.slots layout.targets bits i) (integer_at layout.values bits i)) ∙ has_its_edge layout layout.targets bits i ts);
  values = all_of (λ v. is_value (integer_target_in (shown layout bits) (slot layout.slots v.slot)) (value_bits bits v)) layout.values (valued clafers scopes layout bits f asc numbers);
  has_values = same_told (λ (e : Entry). is_some (target_integer e)) (λ (e : Entry). has_value_bits layout.slots layout.values e.node) (entry_at layout bits) (is_live layout bits) 0 (length layout.slots)
      (λ i s t. integer_bits_there clafers scopes layout bits i f (omega (arith, t)));
}
  where
    parent_at : (b : Bool) (i : ℕ) → option_and_then (λ (e : Entry). e.parent) (cond b (Some (entry_at layout bits i)) None) ≡ cond b (leads_to layout.slots layout.parents bits i) None
    parent_at true i = refl
    parent_at false i = refl

    target_at : (b : Bool) (i : ℕ) → option_and_then target_node (cond b (Some (entry_at layout bits i)) None) ≡ cond b (leads_to layout.slots layout.targets bits i) None
    target_at true i = target_node_back (leads_to layout.slots layout.targets bits i) (integer_at layout.values bits i)
    target_at false i = refl
