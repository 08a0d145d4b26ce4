-- What holds of the slots and edges of a layout that fits, and the one instance that bits show.
use Rattle.std.proofs.Common.{◌≡◌, ℕ, zero, suc, ◌+◌, ◌<◌, ◌≤◌, Bool, true, false, cond, ◌&&◌, ◌||◌, List, [], ◌∷◌, ◌++◌, length, map, Option, Some, None, refl, sym, ap, ◌∙◌, subst, arith, get_or}
use Rattle.std.specs.Prelude.{slice_get, ◌==◌, nat_lt, not, is_some}
use Rattle.std.specs.Option.{option_map_or, option_to_list, IfSome}
use Rattle.std.specs.List.{filter, flat_map, list_all, All, range_with_len}
use Rattle.std.proofs.lemmas.Bool.{true≢false}
use Rattle.std.proofs.lemmas.Bool.Decides.{nat_tests}
use Rattle.std.proofs.lemmas.Grind.{common_steps}
use Rattle.std.proofs.lemmas.List.Folds.{list_all-append, list_any-append, list_all-map}
use Rattle.std.proofs.lemmas.Option.{slice_get_within}
use Rattle.bool_circuit.specs.Circuit.{entry}
use Rattle.clf_tree.specs.declared.model.Clafer.{Clafer}
use Rattle.clf_tree.specs.declared.instance.Node.{Node}
use Rattle.clf_tree.specs.declared.instance.Entry.{Entry}
use Rattle.clf_tree.specs.declared.scopes.Scopes.{Scopes}
use Rattle.clf_tree.specs.Lists.{each_two, numbers_below, has}
use Rattle.clf_tree.specs.Hierarchy.{is_concrete, owners, refers_to_int}
use Rattle.clf_tree.specs.Nodes.{same_node, is_before, has_node, nodes_of, named_by, scope_of, is_within, parent_in, target_node}
use Rattle.set_bits.specs.declared.layout.Edge.{Edge}
use Rattle.set_bits.specs.declared.layout.Layout.{Layout}
use Rattle.set_bits.specs.Fitting.{nodes_below, nodes_within, slot_clafer, ends, ends_from, all_ends, referred, Fits, slot, integer_slots}
use Rattle.set_bits.specs.declared.layout.SlotBits.{SlotBits}
use Rattle.set_bits.specs.Showing.{Shows, is_tied, target_in, target_integer, is_value, integer_target_in, has_edge, has_value_bits, value_bits}
use Rattle.shown_instance.specs.Shown.{shown}
use Rattle.shown_instance.proofs.Adapting.{all_same, any_passes, test_at}
use Rattle.shown_instance.proofs.Order.{both, together, same_nodes}
use Rattle.shown_instance.proofs.Telling.{shows_shown, IsTold, IsValued, HasEdge, slot_at}

-- ---- the slots ascend

ahead_same : (c k a n : ℕ) → k < a → list_all (is_before (record { clafer = c; number = k })) (map (λ j. record { clafer = c; number = j }) (range_with_len a n)) ≡ true
ahead_same c k a zero h = refl
ahead_same c k a (suc n) h =
    together (is_before (record { clafer = c; number = k }) (record { clafer = c; number = a })) (list_all (is_before (record { clafer = c; number = k })) (map (λ j. record { clafer = c; number = j }) (range_with_len (a + 1) n)))
    (here c k a h) (ahead_same c k (a + 1) n (omega arith))
  where
    here : (c k a : ℕ) → k < a → is_before (record { clafer = c; number = k }) (record { clafer = c; number = a }) ≡ true
    here c k a h = grind (arith, nat_tests, common_steps)

ascend_same : (c a n : ℕ) → each_two is_before (map (λ j. record { clafer = c; number = j }) (range_with_len a n)) ≡ true
ascend_same c a zero = refl
ascend_same c a (suc n) =
    together (list_all (is_before (record { clafer = c; number = a })) (map (λ j. record { clafer = c; number = j }) (range_with_len (a + 1) n))) (each_two is_before (map (λ j. record { clafer = c; number = j }) (range_with_len (a + 1) n)))
    (ahead_same c a (a + 1) n (omega arith)) (ascend_same c (a + 1) n)

ahead_later : (x : Node) (c : ℕ) (ks : List ℕ) → x.clafer < c → list_all (is_before x) (map (λ j. record { clafer = c; number = j }) ks) ≡ true
ahead_later x c [] h = refl
ahead_later x c (k ∷ ks) h =
    together (is_before x (record { clafer = c; number = k })) (list_all (is_before x) (map (λ j. record { clafer = c; number = j }) ks)) (here x c k h) (ahead_later x c ks h)
  where
    here : (x : Node) (c k : ℕ) → x.clafer < c → is_before x (record { clafer = c; number = k }) ≡ true
    here x c k h = grind (arith, nat_tests, common_steps)

ahead_all : (x : Node) (f : ℕ → ℕ) (a n : ℕ) → x.clafer < a → list_all (is_before x) (flat_map (λ c. nodes_below c (f c)) (range_with_len a n)) ≡ true
ahead_all x f a zero h = refl
ahead_all x f a (suc n) h =
    list_all-append (is_before x) (nodes_below a (f a)) (flat_map (λ c. nodes_below c (f c)) (range_with_len (a + 1) n))
    ∙ together (list_all (is_before x) (nodes_below a (f a))) (list_all (is_before x) (flat_map (λ c. nodes_below c (f c)) (range_with_len (a + 1) n))) (ahead_later x a (numbers_below (f a)) h) (ahead_all x f (a + 1) n (omega arith))

each_two-append : {X : Type 0} (t : X → X → Bool) (xs ys : List X) → each_two t xs ≡ true → each_two t ys ≡ true → list_all (λ x. list_all (t x) ys) xs ≡ true → each_two t (xs ++ ys) ≡ true
each_two-append t [] ys p q r = q
each_two-append t (x ∷ xs) ys p q r =
    let a = both (list_all (t x) xs) (each_two t xs) p in
    let b = both (list_all (t x) ys) (list_all (λ y. list_all (t y) ys) xs) r in
    together (list_all (t x) (xs ++ ys)) (each_two t (xs ++ ys)) (list_all-append (t x) xs ys ∙ together (list_all (t x) xs) (list_all (t x) ys) a.0 b.0) (each_two-append t xs ys a.1 q b.1)

all_ahead : (f : ℕ → ℕ) (c n : ℕ) (ks : List ℕ) → list_all (λ (x : Node). list_all (is_before x) (flat_map (λ d. nodes_below d (f d)) (range_with_len (c + 1) n))) (map (λ j. record { clafer = c; number = j }) ks) ≡ true
all_ahead f c n [] = refl
all_ahead f c n (k ∷ ks) =
    together (list_all (is_before (record { clafer = c; number = k })) (flat_map (λ d. nodes_below d (f d)) (range_with_len (c + 1) n)))
    (list_all (λ (x : Node). list_all (is_before x) (flat_map (λ d. nodes_below d (f d)) (range_with_len (c + 1) n))) (map (λ j. record { clafer = c; number = j }) ks))
    (ahead_all (record { clafer = c; number = k }) f (c + 1) n (omega arith)) (all_ahead f c n ks)

ascend_from : (f : ℕ → ℕ) (a n : ℕ) → each_two is_before (flat_map (λ c. nodes_below c (f c)) (range_with_len a n)) ≡ true
ascend_from f a zero = refl
ascend_from f a (suc n) = each_two-append is_before (nodes_below a (f a)) (flat_map (λ c. nodes_below c (f c)) (range_with_len (a + 1) n)) (ascend_same a 0 (f a)) (ascend_from f (a + 1) n) (all_ahead f a n (numbers_below (f a)))

pub slots_ascend : (clafers : List Clafer) (scopes : Scopes) → each_two is_before (nodes_within clafers scopes) ≡ true
slots_ascend clafers scopes = ascend_from (scope_of scopes) 0 (length clafers)

-- ---- each node within the scopes has a slot

pub or_right : (a b : Bool) → b ≡ true → (a || b) ≡ true
or_right true b h = refl
or_right false b h = h

has_same : (c k a n : ℕ) → a ≤ k → k < a + n → has_node (map (λ j. record { clafer = c; number = j }) (range_with_len a n)) (record { clafer = c; number = k }) ≡ true
has_same c k a zero h l = absurd (omega arith)
has_same c k a (suc n) h l = by (k == a) refl (has_same c k (a + 1) n)
  where
    yes_here : (c k a : ℕ) → (k == a) ≡ true → same_node (record { clafer = c; number = k }) (record { clafer = c; number = a }) ≡ true
    yes_here c k a e = grind (arith, common_steps)

    later : (k a : ℕ) → (k == a) ≡ false → a ≤ k → a + 1 ≤ k
    later k a e h = grind (arith, common_steps)

    by : (b : Bool) → (k == a) ≡ b → (a + 1 ≤ k → k < (a + 1) + n → has_node (map (λ j. record { clafer = c; number = j }) (range_with_len (a + 1) n)) (record { clafer = c; number = k }) ≡ true)
        → has_node (map (λ j. record { clafer = c; number = j }) (range_with_len a (suc n))) (record { clafer = c; number = k }) ≡ true
    by true e rest = ap (λ b. b || has_node (map (λ j. record { clafer = c; number = j }) (range_with_len (a + 1) n)) (record { clafer = c; number = k })) (yes_here c k a e)
    by false e rest = or_right (same_node (record { clafer = c; number = k }) (record { clafer = c; number = a })) (has_node (map (λ j. record { clafer = c; number = j }) (range_with_len (a + 1) n)) (record { clafer = c; number = k }))
        (rest (later k a e h) (omega arith))

has_from : (f : ℕ → ℕ) (c k a n : ℕ) → a ≤ c → c < a + n → k < f c → has_node (flat_map (λ d. nodes_below d (f d)) (range_with_len a n)) (record { clafer = c; number = k }) ≡ true
has_from f c k a zero h l s = absurd (omega arith)
has_from f c k a (suc n) h l s =
    list_any-append (same_node (record { clafer = c; number = k })) (nodes_below a (f a)) (flat_map (λ d. nodes_below d (f d)) (range_with_len (a + 1) n)) ∙ by (c == a) refl (has_from f c k (a + 1) n)
  where
    same : (c a : ℕ) → (c == a) ≡ true → c ≡ a
    same c a e = grind (arith, common_steps)

    later : (c a : ℕ) → (c == a) ≡ false → a ≤ c → a + 1 ≤ c
    later c a e h = grind (arith, common_steps)

    here : Bool
    here = has_node (nodes_below a (f a)) (record { clafer = c; number = k })

    rest_has : Bool
    rest_has = has_node (flat_map (λ d. nodes_below d (f d)) (range_with_len (a + 1) n)) (record { clafer = c; number = k })

    by : (b : Bool) → (c == a) ≡ b → (a + 1 ≤ c → c < (a + 1) + n → k < f c → rest_has ≡ true) → (here || rest_has) ≡ true
    by true e rest =
        let s2 : k < f a = subst (λ d. k < f d) (same c a e) s in
        let mine : has_node (nodes_below a (f a)) (record { clafer = a; number = k }) ≡ true = has_same a k 0 (f a) (omega arith) (omega arith) in
        ap (λ b. b || rest_has) (ap (λ d. has_node (nodes_below a (f a)) (record { clafer = d; number = k })) (same c a e) ∙ mine)
    by false e rest = or_right here rest_has (rest (later c a e h) (omega arith) s)

pub concrete_within : (clafers : List Clafer) (c : ℕ) → is_concrete clafers c ≡ true → c < length clafers
concrete_within clafers c h = by (slice_get clafers c) refl
  where
    by : (o : Option Clafer) → slice_get clafers c ≡ o → c < length clafers
    by None e = absurd (true≢false (sym (sym (ap (λ o. option_map_or (λ k. not k.is_abstract) o false) e) ∙ h)))
    by (Some k) e = slice_get_within clafers c k e

pub node_inside : (clafers : List Clafer) (scopes : Scopes) (n : Node) → (is_concrete clafers n.clafer && nat_lt n.number (scope_of scopes n.clafer)) ≡ true → has_node (nodes_within clafers scopes) n ≡ true
node_inside clafers scopes n h =
    let p = both (is_concrete clafers n.clafer) (nat_lt n.number (scope_of scopes n.clafer)) h in
    let l = concrete_within clafers n.clafer p.0 in
    has_from (scope_of scopes) n.clafer n.number 0 (length clafers) (omega arith) (omega arith) (below n.number (scope_of scopes n.clafer) p.1)
  where
    below : (a b : ℕ) → nat_lt a b ≡ true → a < b
    below a b h = grind (arith, nat_tests)

pub entries_inside : (clafers : List Clafer) (scopes : Scopes) (entries : List Entry) → is_within clafers scopes entries ≡ true → list_all (λ (e : Entry). has_node (nodes_within clafers scopes) e.node) entries ≡ true
entries_inside clafers scopes [] h = refl
entries_inside clafers scopes (e ∷ es) h =
    let test : Node → Bool = λ n. is_concrete clafers n.clafer && nat_lt n.number (scope_of scopes n.clafer) in
    let p = both (list_all test (named_by e)) (is_within clafers scopes es) h in
    together (has_node (nodes_within clafers scopes) e.node) (list_all (λ (x : Entry). has_node (nodes_within clafers scopes) x.node) es)
    (node_inside clafers scopes e.node (first_of test e p.0)) (entries_inside clafers scopes es p.1)
  where
    first_of : (test : Node → Bool) (e : Entry) → list_all test (named_by e) ≡ true → test e.node ≡ true
    first_of test e h = (both (test e.node) (list_all test (option_to_list e.parent ++ option_to_list (target_node e))) h).0

-- ---- each edge lies between slots

abbrev is_between : ℕ → ℕ × ℕ → Bool
is_between n p = nat_lt p.0 n && nat_lt p.1 n

lt_true : (a b : ℕ) → a < b → nat_lt a b ≡ true
lt_true a b h = grind (arith, nat_tests)

between_from : (n i : ℕ) (t : ℕ → Bool) (a m : ℕ) → i < n → a + m ≤ n → list_all (is_between n) (map (λ j. (i, j)) (filter t (range_with_len a m))) ≡ true
between_from n i t a zero h l = refl
between_from n i t a (suc m) h l = by (t a) (between_from n i t (a + 1) m h (omega arith))
  where
    by : (b : Bool) → list_all (is_between n) (map (λ j. (i, j)) (filter t (range_with_len (a + 1) m))) ≡ true
        → list_all (is_between n) (map (λ j. (i, j)) (cond b (a ∷ filter t (range_with_len (a + 1) m)) (filter t (range_with_len (a + 1) m)))) ≡ true
    by true rest = together (is_between n (i, a)) (list_all (is_between n) (map (λ j. (i, j)) (filter t (range_with_len (a + 1) m)))) (together (nat_lt i n) (nat_lt a n) (lt_true i n h) (lt_true a n (omega arith))) rest
    by false rest = rest

between_all : (near : ℕ → List ℕ) (slots : List Node) (a m : ℕ) → a + m ≤ length slots → list_all (is_between (length slots)) (flat_map (λ i. ends_from (near (slot_clafer slots i)) slots i (length slots)) (range_with_len a m)) ≡ true
between_all near slots a zero l = refl
between_all near slots a (suc m) l =
    list_all-append (is_between (length slots)) (ends_from (near (slot_clafer slots a)) slots a (length slots)) (flat_map (λ i. ends_from (near (slot_clafer slots i)) slots i (length slots)) (range_with_len (a + 1) m))
    ∙ together (list_all (is_between (length slots)) (ends_from (near (slot_clafer slots a)) slots a (length slots))) (list_all (is_between (length slots)) (flat_map (λ i. ends_from (near (slot_clafer slots i)) slots i (length slots)) (range_with_len (a + 1) m)))
    (between_from (length slots) a (λ j. has (near (slot_clafer slots a)) (slot_clafer slots j)) 0 (length slots) (omega arith) (omega arith)) (between_all near slots (a + 1) m (omega arith))

pub edges_between : (near : ℕ → List ℕ) (slots : List Node) (edges : List Edge) → ends edges ≡ all_ends near slots → list_all (λ (e : Edge). nat_lt e.from (length slots) && nat_lt e.to (length slots)) edges ≡ true
edges_between near slots edges h =
    sym (list_all-map (is_between (length slots)) (λ (e : Edge). (e.from, e.to)) edges) ∙ ap (list_all (is_between (length slots))) h ∙ between_all near slots 0 (length slots) (omega arith)

pub told_at : (n a b : ℕ) → (nat_lt a n && nat_lt b n) ≡ true → (a < n) × (b < n)
told_at n a b h =
    let p = both (nat_lt a n) (nat_lt b n) h in
    (by a n p.0, by b n p.1)
  where
    by : (a b : ℕ) → nat_lt a b ≡ true → a < b
    by a b h = grind (arith, nat_tests)

pub all_pass : {X : Type 0} (p : X → Bool) (xs : List X) (k : ℕ) (d : X) → list_all p xs ≡ true → k < length xs → p (get_or xs k d) ≡ true
all_pass p [] k d a h = absurd (omega arith)
all_pass p (x ∷ xs) zero d a h = (both (p x) (list_all p xs) a).0
all_pass p (x ∷ xs) (suc k) d a h = all_pass p xs k d (both (p x) (list_all p xs) a).1 (omega arith)

pub told : (near : ℕ → List ℕ) (of : Node → Option Node) (slots : List Node) (bits : List Bool) (edges : List Edge) → ends edges ≡ all_ends near slots → All (λ e. entry bits e.here ≡ is_tied of slots e) edges → All (IsTold of slots bits) edges
told near of slots bits edges h a = λ k d l.
    let e : Edge = get_or edges k d in
    let w = told_at (length slots) e.from e.to (all_pass (λ (x : Edge). nat_lt x.from (length slots) && nat_lt x.to (length slots)) edges k d (edges_between near slots edges h) l) in
    record { tied = a k d l; from_in = w.0; to_in = w.1 }

-- ---- what the equations of Shows say of each item

edge_there : (slots : List Node) (edges : List Edge) (n : Node) (o : Option Node) → option_map_or (has_edge slots edges n) o true ≡ true → IfSome o (HasEdge slots edges n)
edge_there slots edges n None h = tt
edge_there slots edges n (Some p) h =
    let f = any_passes (λ (e : Edge). same_node (slot slots e.from) n && same_node (slot slots e.to) p) edges h in
    let q = both (same_node (slot slots f.it.from) n) (same_node (slot slots f.it.to) p) f.passes in
    (f.it, (f.place, f.within, f.there), same_nodes (slot slots f.it.from) n q.0, same_nodes (slot slots f.it.to) p q.1)

filter_below : (p : ℕ → Bool) (m a n : ℕ) → a + n ≤ m → list_all (λ i. nat_lt i m) (filter p (range_with_len a n)) ≡ true
filter_below p m a zero h = refl
filter_below p m a (suc n) h = by (p a) (filter_below p m (a + 1) n (omega (arith, h)))
  where
    by : (b : Bool) → list_all (λ i. nat_lt i m) (filter p (range_with_len (a + 1) n)) ≡ true → list_all (λ i. nat_lt i m) (cond b (a ∷ filter p (range_with_len (a + 1) n)) (filter p (range_with_len (a + 1) n))) ≡ true
    by true rest = together (nat_lt a m) (list_all (λ i. nat_lt i m) (filter p (range_with_len (a + 1) n))) (lt_true a m (omega (arith, h))) rest
    by false rest = rest

pub values_inside : (clafers : List Clafer) (slots : List Node) (values : List SlotBits) → map (λ v. v.slot) values ≡ integer_slots clafers slots → list_all (λ (v : SlotBits). nat_lt v.slot (length slots)) values ≡ true
values_inside clafers slots values e =
    sym (list_all-map (λ i. nat_lt i (length slots)) (λ (v : SlotBits). v.slot) values) ∙ ap (list_all (λ i. nat_lt i (length slots))) e
    ∙ filter_below (λ i. refers_to_int clafers (slot_clafer slots i)) (length slots) 0 (length slots) (omega arith)

valued : (clafers : List Clafer) (entries : List Entry) (slots : List Node) (bits : List Bool) (values : List SlotBits) → map (λ v. v.slot) values ≡ integer_slots clafers slots
    → list_all (λ v. is_value (integer_target_in entries (slot slots v.slot)) (value_bits bits v)) values ≡ true → All (IsValued entries slots bits) values
valued clafers entries slots bits values e h = λ k d l. record {
  value = all_pass (λ (v : SlotBits). is_value (integer_target_in entries (slot slots v.slot)) (value_bits bits v)) values k d h l;
  slot_in = below (get_or values k d).slot (length slots) (all_pass (λ (v : SlotBits). nat_lt v.slot (length slots)) values k d (values_inside clafers slots values e) l);
}
  where
    below : (a b : ℕ) → nat_lt a b ≡ true → a < b
    below a b h = grind (arith, nat_tests)

-- bits show at most one instance
pub shows_only : (clafers : List Clafer) (scopes : Scopes) (layout : Layout) (bits : List Bool) (entries : List Entry) → Fits clafers scopes layout → Shows clafers scopes layout bits entries → entries ≡ shown layout bits
shows_only clafers scopes layout bits entries f s =
    shows_shown layout bits entries
    (ap (each_two is_before) f.slots ∙ slots_ascend clafers scopes)
    s.ordered
    (ap (λ slots. list_all (λ (e : Entry). has_node slots e.node) entries) f.slots ∙ entries_inside clafers scopes entries s.within)
    (λ i h. test_at (entry bits) (has_node (nodes_of entries)) layout.live layout.slots i (slot layout.slots i) s.live (slot_at layout.slots i h))
    (told (owners clafers) (parent_in entries) layout.slots bits layout.parents f.parents (all_same (λ (e : Edge). entry bits e.here) (is_tied (parent_in entries) layout.slots) layout.parents s.parents))
    (told (referred clafers) (target_in entries) layout.slots bits layout.targets f.targets (all_same (λ (e : Edge). entry bits e.here) (is_tied (target_in entries) layout.slots) layout.targets s.targets))
    (valued clafers entries layout.slots bits layout.values f.values s.values)
    (λ k d l. record {
      has_parent = edge_there layout.slots layout.parents (get_or entries k d).node (get_or entries k d).parent (all_pass (λ (e : Entry). option_map_or (has_edge layout.slots layout.parents e.node) e.parent true) entries k d s.has_parents l);
      has_target = edge_there layout.slots layout.targets (get_or entries k d).node (target_node (get_or entries k d)) (all_pass (λ (e : Entry). option_map_or (has_edge layout.slots layout.targets e.node) (target_node e) true) entries k d s.has_targets l);
      has_value = all_same (λ (e : Entry). is_some (target_integer e)) (λ (e : Entry). has_value_bits layout.slots layout.values e.node) entries s.has_values k d l;
    })
