-- The integers of the instance that bits tell.
use Rattle.std.proofs.Common.{◌≡◌, ◌≢◌, ℕ, zero, suc, ◌+◌, ◌<◌, Bool, true, false, cond, ◌&&◌, ◌||◌, List, [], ◌∷◌, length, map, get_or, Option, Some, None, refl, sym, ap, ◌∙◌, arith, ◌⊎◌, inl, inr}
use Rattle.std.specs.Prelude.{◌==◌, is_some, is_none, nat_lt, slice_get, ℤ}
use Rattle.std.specs.Option.{option_map, option_map_or, option_and_then}
use Rattle.std.specs.List.{filter, find, flat_map, list_all, list_any, range_with_len}
use Rattle.std.proofs.lemmas.Bool.{true≢false}
use Rattle.std.proofs.lemmas.Bool.Decides.{eqb_tells, nat_tests}
use Rattle.std.proofs.lemmas.Grind.{common_steps}
use Rattle.std.proofs.lemmas.List.Folds.{list_all-append, list_all-map}
use Rattle.std.proofs.lemmas.Map.Views.{any-filter_same}
use Rattle.bool_circuit.specs.Circuit.{entry}
use Rattle.integer_bits.specs.Numbers.{integer_of}
use Rattle.clf_tree.specs.declared.model.Clafer.{Clafer}
use Rattle.clf_tree.specs.declared.model.Reference.{Reference}
use Rattle.clf_tree.specs.declared.instance.Node.{Node}
use Rattle.clf_tree.specs.declared.scopes.Scopes.{Scopes}
use Rattle.clf_tree.specs.Lists.{each_two, numbers_below, has}
use Rattle.clf_tree.specs.Hierarchy.{refers_to_int, reference_of, concrete_below}
use Rattle.clf_tree.specs.Nodes.{same_node, has_node}
use Rattle.set_bits.specs.declared.layout.Edge.{Edge}
use Rattle.set_bits.specs.declared.layout.SlotBits.{SlotBits}
use Rattle.set_bits.specs.declared.layout.Layout.{Layout}
use Rattle.set_bits.specs.Fitting.{slot, slot_clafer, ends, ends_from, all_ends, referred, Fits}
use Rattle.set_bits.specs.Showing.{has_value_bits, value_bits, target_integer, integer_in}
use Rattle.shown_instance.specs.Shown.{entry_at, leads_to, is_taken, is_at, integer_at, target_of}
use Rattle.shown_instance.proofs.Order.{both, together, same_itself}
use Rattle.shown_instance.proofs.Fitted.{or_right}
use Rattle.shown_instance.proofs.Belonging.{any_map, any_range, value_where}

-- ---- edges lead to near clafers

abbrev is_near : (ℕ → List ℕ) → List Node → ℕ × ℕ → Bool
is_near near slots p = has (near (slot_clafer slots p.0)) (slot_clafer slots p.1)

near_from : (near : ℕ → List ℕ) (slots : List Node) (i a m : ℕ) → list_all (is_near near slots) (map (λ j. (i, j)) (filter (λ j. has (near (slot_clafer slots i)) (slot_clafer slots j)) (range_with_len a m))) ≡ true
near_from near slots i a zero = refl
near_from near slots i a (suc m) = by (has (near (slot_clafer slots i)) (slot_clafer slots a)) refl (near_from near slots i (a + 1) m)
  where
    rest : List ℕ
    rest = filter (λ j. has (near (slot_clafer slots i)) (slot_clafer slots j)) (range_with_len (a + 1) m)

    by : (b : Bool) → has (near (slot_clafer slots i)) (slot_clafer slots a) ≡ b → list_all (is_near near slots) (map (λ j. (i, j)) rest) ≡ true → list_all (is_near near slots) (map (λ j. (i, j)) (cond b (a ∷ rest) rest)) ≡ true
    by true e r = together (is_near near slots (i, a)) (list_all (is_near near slots) (map (λ j. (i, j)) rest)) e r
    by false e r = r

near_all : (near : ℕ → List ℕ) (slots : List Node) (a m : ℕ) → list_all (is_near near slots) (flat_map (λ i. ends_from (near (slot_clafer slots i)) slots i (length slots)) (range_with_len a m)) ≡ true
near_all near slots a zero = refl
near_all near slots a (suc m) =
    list_all-append (is_near near slots) (ends_from (near (slot_clafer slots a)) slots a (length slots)) (flat_map (λ i. ends_from (near (slot_clafer slots i)) slots i (length slots)) (range_with_len (a + 1) m))
    ∙ together (list_all (is_near near slots) (ends_from (near (slot_clafer slots a)) slots a (length slots))) (list_all (is_near near slots) (flat_map (λ i. ends_from (near (slot_clafer slots i)) slots i (length slots)) (range_with_len (a + 1) m)))
    (near_from near slots a 0 (length slots)) (near_all near slots (a + 1) m)

abbrev pub leads_near : (ℕ → List ℕ) → List Node → Edge → Bool
leads_near near slots e = has (near (slot_clafer slots e.from)) (slot_clafer slots e.to)

pub edges_near : (near : ℕ → List ℕ) (slots : List Node) (edges : List Edge) → ends edges ≡ all_ends near slots → list_all (leads_near near slots) edges ≡ true
edges_near near slots edges h = sym (list_all-map (is_near near slots) (λ (e : Edge). (e.from, e.to)) edges) ∙ ap (list_all (is_near near slots)) h ∙ near_all near slots 0 (length slots)

-- a slot near which no clafer is has no edge
pub no_edge : (near : ℕ → List ℕ) (slots : List Node) (edges : List Edge) (bits : List Bool) (i : ℕ) → list_all (leads_near near slots) edges ≡ true → near (slot_clafer slots i) ≡ [] → find (is_taken bits i) edges ≡ None
no_edge near slots [] bits i h n = refl
no_edge near slots (e ∷ es) bits i h n =
    let p = both (leads_near near slots e) (list_all (leads_near near slots) es) h in
    ap (λ b. cond b (Some e) (find (is_taken bits i) es)) (by (eqb_tells e.from i) p.0) ∙ no_edge near slots es bits i p.1 n
  where
    by : (((e.from == i) ≡ true) × (e.from ≡ i)) ⊎ (((e.from == i) ≡ false) × (e.from ≢ i)) → leads_near near slots e ≡ true → is_taken bits i e ≡ false
    by (inl s) t = absurd (true≢false (sym t ∙ ap (λ j. has (near (slot_clafer slots j)) (slot_clafer slots e.to)) s.1 ∙ ap (λ ks. has ks (slot_clafer slots e.to)) n))
    by (inr s) t = ap (λ b. b && entry bits e.here) s.0

-- a clafer that refers to integers refers to no clafer
pub int_refers_to_none : (clafers : List Clafer) (c : ℕ) → refers_to_int clafers c ≡ true → referred clafers c ≡ []
int_refers_to_none clafers c h = by (reference_of clafers c) refl
  where
    by : (o : Option Reference) → reference_of clafers c ≡ o → referred clafers c ≡ []
    by None e = absurd (true≢false (sym (sym (ap (λ o. option_map_or (λ (r : Reference). is_none r.to) o false) e) ∙ h)))
    by (Some r) e = to r.to refl
      where
        to : (o : Option ℕ) → r.to ≡ o → referred clafers c ≡ []
        to None s = ap (λ o. option_map_or (concrete_below clafers) (option_and_then (λ (q : Reference). q.to) o) []) e ∙ ap (λ o. option_map_or (concrete_below clafers) o []) s
        to (Some d) s = absurd (true≢false (sym (sym (ap is_none s) ∙ sym (ap (λ o. option_map_or (λ (q : Reference). is_none q.to) o false) e) ∙ h)))

-- ---- each slot that has an integer has one

ahead_of : (p : ℕ → Bool) (x a m : ℕ) → x < a → list_all (nat_lt x) (filter p (range_with_len a m)) ≡ true
ahead_of p x a zero h = refl
ahead_of p x a (suc m) h = by (p a) (ahead_of p x (a + 1) m (omega arith))
  where
    less : (x a : ℕ) → x < a → nat_lt x a ≡ true
    less x a h = grind (arith, nat_tests)

    by : (b : Bool) → list_all (nat_lt x) (filter p (range_with_len (a + 1) m)) ≡ true → list_all (nat_lt x) (cond b (a ∷ filter p (range_with_len (a + 1) m)) (filter p (range_with_len (a + 1) m))) ≡ true
    by true rest = together (nat_lt x a) (list_all (nat_lt x) (filter p (range_with_len (a + 1) m))) (less x a h) rest
    by false rest = rest

pub numbers_ascend : (p : ℕ → Bool) (a m : ℕ) → each_two nat_lt (filter p (range_with_len a m)) ≡ true
numbers_ascend p a zero = refl
numbers_ascend p a (suc m) = by (p a) (numbers_ascend p (a + 1) m)
  where
    by : (b : Bool) → each_two nat_lt (filter p (range_with_len (a + 1) m)) ≡ true → each_two nat_lt (cond b (a ∷ filter p (range_with_len (a + 1) m)) (filter p (range_with_len (a + 1) m))) ≡ true
    by true rest = together (list_all (nat_lt a) (filter p (range_with_len (a + 1) m))) (each_two nat_lt (filter p (range_with_len (a + 1) m))) (ahead_of p a (a + 1) m (omega arith)) rest
    by false rest = rest

own_found : (values : List SlotBits) → each_two nat_lt (map (λ v. v.slot) values) ≡ true → (k : ℕ) (d : SlotBits) → k < length values → find (is_at (get_or values k d).slot) values ≡ Some (get_or values k d)
own_found [] asc k d l = absurd (omega arith)
own_found (v ∷ vs) asc zero d l = ap (λ b. cond b (Some v) (find (is_at v.slot) vs)) (itself v.slot)
  where
    itself : (n : ℕ) → (n == n) ≡ true
    itself n = grind (arith, common_steps)
own_found (v ∷ vs) asc (suc k) d l =
    let p = both (list_all (nat_lt v.slot) (map (λ (x : SlotBits). x.slot) vs)) (each_two nat_lt (map (λ (x : SlotBits). x.slot) vs)) asc in
    ap (λ b. cond b (Some v) (find (is_at (get_or vs k d).slot) vs)) (other v.slot (get_or vs k d).slot (at vs k d (omega arith) p.0)) ∙ own_found vs p.1 k d (omega arith)
  where
    other : (a b : ℕ) → nat_lt a b ≡ true → (a == b) ≡ false
    other a b h = grind (arith, nat_tests, common_steps)

    at : (xs : List SlotBits) (j : ℕ) (d : SlotBits) → j < length xs → list_all (nat_lt v.slot) (map (λ (x : SlotBits). x.slot) xs) ≡ true → nat_lt v.slot (get_or xs j d).slot ≡ true
    at [] j d m h = absurd (omega arith)
    at (x ∷ xs) zero d m h = (both (nat_lt v.slot x.slot) (list_all (nat_lt v.slot) (map (λ (y : SlotBits). y.slot) xs)) h).0
    at (x ∷ xs) (suc j) d m h = at xs j d (omega arith) (both (nat_lt v.slot x.slot) (list_all (nat_lt v.slot) (map (λ (y : SlotBits). y.slot) xs)) h).1

-- the integer of a slot is what its bits spell
pub own_integer : (clafers : List Clafer) (scopes : Scopes) (layout : Layout) (bits : List Bool) → Fits clafers scopes layout → (k : ℕ) (d : SlotBits) → k < length layout.values → integer_at layout.values bits (get_or layout.values k d).slot ≡ Some (integer_of (value_bits bits (get_or layout.values k d)))
own_integer clafers scopes layout bits f k d l =
    ap (option_map (λ (v : SlotBits). integer_of (value_bits bits v)))
    (own_found layout.values (ap (each_two nat_lt) f.values ∙ numbers_ascend (λ i. refers_to_int clafers (slot_clafer layout.slots i)) 0 (length layout.slots)) k d l)

pub some_any : {X Y : Type 0} (p : X → Bool) (f : X → Y) (xs : List X) → is_some (option_map f (find p xs)) ≡ list_any p xs
some_any p f [] = refl
some_any p f (x ∷ xs) = by (p x) (some_any p f xs)
  where
    by : (b : Bool) → is_some (option_map f (find p xs)) ≡ list_any p xs → is_some (option_map f (cond b (Some x) (find p xs))) ≡ (b || list_any p xs)
    by true rest = refl
    by false rest = rest

-- a slot has an integer exactly where its clafer refers to integers
pub integer_where_referred : (clafers : List Clafer) (scopes : Scopes) (layout : Layout) (bits : List Bool) (i : ℕ) → Fits clafers scopes layout → i < length layout.slots → is_some (integer_at layout.values bits i) ≡ refers_to_int clafers (slot_clafer layout.slots i)
integer_where_referred clafers scopes layout bits i f l =
    some_any (is_at i) (λ (v : SlotBits). integer_of (value_bits bits v)) layout.values
    ∙ sym (any_map (λ k. k == i) (λ (v : SlotBits). v.slot) layout.values)
    ∙ ap (list_any (λ k. k == i)) f.values
    ∙ any-filter_same (λ k. k == i) (λ j. refers_to_int clafers (slot_clafer layout.slots j)) (refers_to_int clafers (slot_clafer layout.slots i)) (λ k t. ap (λ j. refers_to_int clafers (slot_clafer layout.slots j)) (same_number k i t)) (numbers_below (length layout.slots))
    ∙ ap (λ b. refers_to_int clafers (slot_clafer layout.slots i) && b) (any_range (λ k. k == i) 0 (length layout.slots) i (omega arith) (omega (arith, l)) (itself i))
    ∙ and_true (refers_to_int clafers (slot_clafer layout.slots i))
  where
    same_number : (a b : ℕ) → (a == b) ≡ true → a ≡ b
    same_number a b h = grind (arith, common_steps)

    itself : (n : ℕ) → (n == n) ≡ true
    itself n = grind (arith, common_steps)

    and_true : (b : Bool) → (b && true) ≡ b
    and_true true = refl
    and_true false = refl

slot_there : (xs : List Node) (i : ℕ) → i < length xs → has_node xs (slot xs i) ≡ true
slot_there [] i h = absurd (omega arith)
slot_there (x ∷ xs) zero h = ap (λ b. b || has_node xs x) (same_itself x)
slot_there (x ∷ xs) (suc i) h = or_right (same_node (slot xs i) x) (has_node xs (slot xs i)) (slot_there xs i (omega arith))

-- the integer of a slot is that of its entry
pub entry_integer : (clafers : List Clafer) (scopes : Scopes) (layout : Layout) (bits : List Bool) (i : ℕ) → Fits clafers scopes layout → i < length layout.slots → target_integer (entry_at layout bits i) ≡ integer_at layout.values bits i
entry_integer clafers scopes layout bits i f l = by (refers_to_int clafers (slot_clafer layout.slots i)) refl
  where
    node : Option Node
    node = leads_to layout.slots layout.targets bits i

    alone : (z : Option ℤ) → option_and_then integer_in (target_of None z) ≡ z
    alone None = refl
    alone (Some z) = refl

    beside : (o : Option Node) → option_and_then integer_in (target_of o None) ≡ None
    beside None = refl
    beside (Some n) = refl

    none : (z : Option ℤ) → is_some z ≡ false → z ≡ None
    none None h = refl
    none (Some z) h = absurd (true≢false h)

    by : (b : Bool) → refers_to_int clafers (slot_clafer layout.slots i) ≡ b → option_and_then integer_in (target_of node (integer_at layout.values bits i)) ≡ integer_at layout.values bits i
    by true e =
        let edge = no_edge (referred clafers) layout.slots layout.targets bits i (edges_near (referred clafers) layout.slots layout.targets f.targets) (int_refers_to_none clafers (slot_clafer layout.slots i) e) in
        ap (λ o. option_and_then integer_in (target_of (option_and_then (λ (x : Edge). slice_get layout.slots x.to) o) (integer_at layout.values bits i))) edge ∙ alone (integer_at layout.values bits i)
    by false e =
        let nothing = none (integer_at layout.values bits i) (integer_where_referred clafers scopes layout bits i f l ∙ e) in
        ap (λ z. option_and_then integer_in (target_of node z)) nothing ∙ beside node ∙ sym nothing

pub integer_bits_there : (clafers : List Clafer) (scopes : Scopes) (layout : Layout) (bits : List Bool) (i : ℕ) → Fits clafers scopes layout → i < length layout.slots → is_some (target_integer (entry_at layout bits i)) ≡ has_value_bits layout.slots layout.values (slot layout.slots i)
integer_bits_there clafers scopes layout bits i f l =
    ap is_some (entry_integer clafers scopes layout bits i f l) ∙ integer_where_referred clafers scopes layout bits i f l
    ∙ sym (value_where clafers layout.slots layout.values (slot layout.slots i) f.values (slot_there layout.slots i l))
