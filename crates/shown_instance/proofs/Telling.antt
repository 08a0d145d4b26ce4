-- The bits show at most one instance.
use Rattle.std.proofs.Common.{◌≡◌, ◌≢◌, ℕ, zero, suc, ◌+◌, ◌<◌, ◌≤◌, Bool, true, false, cond, ◌&&◌, ◌||◌, List, [], ◌∷◌, length, map, Option, Some, None, refl, sym, ap, ◌∙◌, subst, arith, get_or, ◌⊎◌, inl, inr}
use Rattle.std.specs.Prelude.{slice_get, ◌==◌, nat_lt, is_some, ℤ}
use Rattle.std.specs.Ordering.{int_eq}
use Rattle.integer_bits.specs.Numbers.{integer_of}
use Rattle.std.specs.Option.{option_map, option_map_or, option_and_then, IfSome}
use Rattle.std.specs.List.{filter, filter_map, cons_option, find, list_all, All, Contains, range_with_len}
use Rattle.std.proofs.Math.Nat.{eq-or-lt_of_le}
use Rattle.std.proofs.lemmas.Bool.{true≢false}
use Rattle.std.proofs.lemmas.Bool.Decides.{eqb_tells, nat_tests, Decides-int_eq}
use Rattle.std.proofs.lemmas.Grind.{common_steps}
use Rattle.std.proofs.lemmas.List.Elements.{All-head, All-tail}
use Rattle.bool_circuit.specs.Circuit.{entry}
use Rattle.clf_tree.specs.declared.instance.Node.{Node}
use Rattle.clf_tree.specs.declared.instance.Target.{Target}
use Rattle.clf_tree.specs.declared.instance.Target.TheVariants as target
use Rattle.clf_tree.specs.declared.instance.Entry.{Entry}
use Rattle.clf_tree.specs.Lists.{each_two}
use Rattle.clf_tree.specs.Nodes.{same_node, is_before, has_node, nodes_of, entry_of, parent_in, target_node, node_in}
use Rattle.set_bits.specs.declared.layout.Edge.{Edge}
use Rattle.set_bits.specs.declared.layout.Layout.{Layout}
use Rattle.set_bits.specs.Fitting.{slot}
use Rattle.set_bits.specs.declared.layout.SlotBits.{SlotBits}
use Rattle.set_bits.specs.Showing.{is_tied, target_in, target_integer, integer_in, integer_target_in, has_value_bits, value_bits, is_value}
use Rattle.shown_instance.specs.Shown.{shown, entry_at, leads_to, is_taken, is_live, is_at, integer_at, target_of}
use Rattle.shown_instance.proofs.Adapting.{any_passes, none_passes}
use Rattle.shown_instance.proofs.Order.{both, together, same_nodes, same_itself, before_irrefl}
use Rattle.shown_instance.proofs.Merging.{merged}

-- an edge leads from one node to the other
abbrev pub HasEdge : List Node → List Edge → Node → Node → Type 0
HasEdge slots edges m n = (e : Edge) × Contains edges e × (slot slots e.from ≡ m) × (slot slots e.to ≡ n)

-- ---- slots

pub slot_at : (xs : List Node) (i : ℕ) → i < length xs → slice_get xs i ≡ Some (slot xs i)
slot_at [] i h = absurd (omega arith)
slot_at (x ∷ xs) zero h = refl
slot_at (x ∷ xs) (suc i) h = slot_at xs i (omega arith)

slot_passes : (p : Node → Bool) (xs : List Node) (i : ℕ) → list_all p xs ≡ true → i < length xs → p (slot xs i) ≡ true
slot_passes p [] i a h = absurd (omega arith)
slot_passes p (x ∷ xs) zero a h = (both (p x) (list_all p xs) a).0
slot_passes p (x ∷ xs) (suc i) a h = slot_passes p xs i (both (p x) (list_all p xs) a).1 (omega arith)

pub slot_before : (xs : List Node) (i j : ℕ) → each_two is_before xs ≡ true → i < j → j < length xs → is_before (slot xs i) (slot xs j) ≡ true
slot_before [] i j a h l = absurd (omega arith)
slot_before (x ∷ xs) i zero a h l = absurd (omega arith)
slot_before (x ∷ xs) zero (suc j) a h l = slot_passes (is_before x) xs j (both (list_all (is_before x) xs) (each_two is_before xs) a).0 (omega arith)
slot_before (x ∷ xs) (suc i) (suc j) a h l = slot_before xs i j (both (list_all (is_before x) xs) (each_two is_before xs) a).1 (omega arith) (omega arith)

pub slot_once : (xs : List Node) (i j : ℕ) → each_two is_before xs ≡ true → i < length xs → j < length xs → slot xs i ≡ slot xs j → i ≡ j
slot_once xs i j a h l e = by (nat_lt i j) refl
  where
    by : (b : Bool) → nat_lt i j ≡ b → i ≡ j
    by true t =
        let less : i < j = grind (arith, nat_tests) in
        absurd (true≢false (sym (slot_before xs i j a less l) ∙ ap (λ n. is_before n (slot xs j)) e ∙ before_irrefl (slot xs j)))
    by false t =
        let le : j ≤ i = grind (arith, nat_tests) in
        elim (eq-or-lt_of_le {n = j} {m = i} le) [
          | inl s ↦ sym s
          | inr less ↦ absurd (true≢false (sym (slot_before xs j i a less h) ∙ ap (λ n. is_before (slot xs j) n) e ∙ before_irrefl (slot xs j)))
        ]

-- ---- entries

pub entry_missing : (es : List Entry) (n : Node) → has_node (nodes_of es) n ≡ false → entry_of es n ≡ None
entry_missing [] n h = refl
entry_missing (e ∷ es) n h = by (same_node n e.node) refl (entry_missing es n)
  where
    by : (b : Bool) → same_node n e.node ≡ b → (has_node (nodes_of es) n ≡ false → entry_of es n ≡ None) → entry_of (e ∷ es) n ≡ None
    by true t rest = absurd (true≢false (sym (ap (λ b. b || has_node (nodes_of es) n) t) ∙ h))
    by false t rest = ap (λ b. cond b (Some e) (entry_of es n)) t ∙ rest (sym (ap (λ b. b || has_node (nodes_of es) n) t) ∙ h)

-- the entry of a node, of which P holds as of all
pub record EntryFound (P : Entry → Type 0) (es : List Entry) (n : Node) : Type 0 where
  pub it : Entry
  pub found : entry_of es n ≡ Some it
  pub node_is : it.node ≡ n
  pub has : P it

pub entry_found : (P : Entry → Type 0) (es : List Entry) (n : Node) → All P es → has_node (nodes_of es) n ≡ true → EntryFound P es n
entry_found P [] n a h = absurd (true≢false (sym h))
entry_found P (e ∷ es) n a h = by (same_node n e.node) refl (entry_found P es n (All-tail P e es a))
  where
    by : (b : Bool) → same_node n e.node ≡ b → (has_node (nodes_of es) n ≡ true → EntryFound P es n) → EntryFound P (e ∷ es) n
    by true t rest = record { it = e; found = ap (λ b. cond b (Some e) (entry_of es n)) t; node_is = sym (same_nodes n e.node t); has = All-head P e es a }
    by false t rest =
        let r = rest (sym (ap (λ b. b || has_node (nodes_of es) n) t) ∙ h) in
        record { it = r.it; found = ap (λ b. cond b (Some e) (entry_of es n)) t ∙ r.found; node_is = r.node_is; has = r.has }

-- ---- edges

pub record Found {X : Type 0} (p : X → Bool) (P : X → Type 0) (xs : List X) : Type 0 where
  pub it : X
  pub found : find p xs ≡ Some it
  pub passes : p it ≡ true
  pub has : P it

pub find_some : {X : Type 0} (p : X → Bool) (P : X → Type 0) (xs : List X) (x : X) (k : ℕ) → k < length xs → get_or xs k x ≡ x → p x ≡ true → All P xs → Found p P xs
find_some p P [] x k l e t a = absurd (omega arith)
find_some p P (y ∷ ys) x zero l e t a = record { it = y; found = ap (λ b. cond b (Some y) (find p ys)) (ap p e ∙ t); passes = ap p e ∙ t; has = All-head P y ys a }
find_some p P (y ∷ ys) x (suc k) l e t a = by (p y) refl (find_some p P ys x k (omega arith) e t (All-tail P y ys a))
  where
    by : (b : Bool) → p y ≡ b → Found p P ys → Found p P (y ∷ ys)
    by true s rest = record { it = y; found = ap (λ b. cond b (Some y) (find p ys)) s; passes = s; has = All-head P y ys a }
    by false s rest = record { it = rest.it; found = ap (λ b. cond b (Some y) (find p ys)) s ∙ rest.found; passes = rest.passes; has = rest.has }

-- what is known of each edge of a shown instance
pub record IsTold (of : Node → Option Node) (slots : List Node) (bits : List Bool) (e : Edge) : Type 0 where
  pub tied : entry bits e.here ≡ is_tied of slots e
  pub from_in : e.from < length slots
  pub to_in : e.to < length slots

none_taken : (of : Node → Option Node) (slots : List Node) (edges : List Edge) (bits : List Bool) (i : ℕ) → All (IsTold of slots bits) edges → of (slot slots i) ≡ None → find (is_taken bits i) edges ≡ None
none_taken of slots [] bits i a n = refl
none_taken of slots (e ∷ es) bits i a n =
    let h = All-head (IsTold of slots bits) e es a in
    let rest = none_taken of slots es bits i (All-tail (IsTold of slots bits) e es a) n in
    ap (λ b. cond b (Some e) (find (is_taken bits i) es)) (pick h.tied (eqb_tells e.from i)) ∙ rest
  where
    pick : entry bits e.here ≡ is_tied of slots e → (((e.from == i) ≡ true) × (e.from ≡ i)) ⊎ (((e.from == i) ≡ false) × (e.from ≢ i)) → is_taken bits i e ≡ false
    pick t (inl s) = ap (λ b. b && entry bits e.here) s.0 ∙ t ∙ ap (λ j. option_map_or (same_node (slot slots e.to)) (of (slot slots j)) false) s.1 ∙ ap (λ o. option_map_or (same_node (slot slots e.to)) o false) n
    pick t (inr s) = ap (λ b. b && entry bits e.here) s.0

taken_leads : (of : Node → Option Node) (slots : List Node) (edges : List Edge) (bits : List Bool) (i : ℕ) (p : Node) → of (slot slots i) ≡ Some p → Found (is_taken bits i) (IsTold of slots bits) edges → leads_to slots edges bits i ≡ Some p
taken_leads of slots edges bits i p o f =
    let e : Edge = f.it in
    let q = both (e.from == i) (entry bits e.here) f.passes in
    let same : e.from ≡ i = same_number e.from i q.0 in
    let t : same_node (slot slots e.to) p ≡ true = sym (f.has.tied ∙ ap (λ j. option_map_or (same_node (slot slots e.to)) (of (slot slots j)) false) same ∙ ap (λ o. option_map_or (same_node (slot slots e.to)) o false) o) ∙ q.1 in
    ap (λ o. option_and_then (λ (x : Edge). slice_get slots x.to) o) f.found ∙ slot_at slots e.to f.has.to_in ∙ ap Some (same_nodes (slot slots e.to) p t)
  where
    same_number : (a b : ℕ) → (a == b) ≡ true → a ≡ b
    same_number a b h = grind (arith, common_steps)

-- the edges of a slot lead to what its node is tied to
pub leads : (of : Node → Option Node) (slots : List Node) (edges : List Edge) (bits : List Bool) (i : ℕ) (o : Option Node) → each_two is_before slots ≡ true → i < length slots → All (IsTold of slots bits) edges
    → of (slot slots i) ≡ o → IfSome o (HasEdge slots edges (slot slots i)) → leads_to slots edges bits i ≡ o
leads of slots edges bits i None asc h a n edge = ap (λ o. option_and_then (λ (x : Edge). slice_get slots x.to) o) (none_taken of slots edges bits i a n)
leads of slots edges bits i (Some p) asc h a n (e, (k, l, at), f, t) =
    let here : IsTold of slots bits e = subst (IsTold of slots bits) at (a k e l) in
    let same : e.from ≡ i = slot_once slots e.from i asc here.from_in h f in
    let bit : entry bits e.here ≡ true =
    here.tied ∙ ap (λ j. option_map_or (same_node (slot slots e.to)) (of (slot slots j)) false) same ∙ ap (λ o. option_map_or (same_node (slot slots e.to)) o false) n
    ∙ ap (λ m. same_node m p) t ∙ same_itself p in
    let first : (e.from == i) ≡ true = grind (arith, common_steps) in
    taken_leads of slots edges bits i p n (find_some (is_taken bits i) (IsTold of slots bits) edges e k l at (together (e.from == i) (entry bits e.here) first bit) a)

-- ---- lists

pub filter_map_at : (h : Node → Option Entry) (g : ℕ → Entry) (p : ℕ → Bool) (xs : List Node) (a : ℕ) → ((i : ℕ) → i < length xs → h (slot xs i) ≡ cond (p (a + i)) (Some (g (a + i))) None)
    → filter_map h xs ≡ map g (filter p (range_with_len a (length xs)))
filter_map_at h g p [] a f = refl
filter_map_at h g p (x ∷ xs) a f =
    let z : a + 0 ≡ a = omega arith in
    let first : h x ≡ cond (p a) (Some (g a)) None = subst (λ k. h x ≡ cond (p k) (Some (g k)) None) z (f 0 (omega arith)) in
    let rest = filter_map_at h g p xs (a + 1) (λ i l. let y : a + suc i ≡ (a + 1) + i = omega arith in subst (λ k. h (slot xs i) ≡ cond (p k) (Some (g k)) None) y (f (suc i) (omega arith))) in
    ap (λ o. cons_option o (filter_map h xs)) first ∙ ap (cons_option (cond (p a) (Some (g a)) None)) rest ∙ by (p a)
  where
    by : (b : Bool) → cons_option (cond b (Some (g a)) None) (map g (filter p (range_with_len (a + 1) (length xs)))) ≡ map g (cond b (a ∷ filter p (range_with_len (a + 1) (length xs))) (filter p (range_with_len (a + 1) (length xs))))
    by true = refl
    by false = refl

-- ---- integers

-- what is known of the value bits of a slot
pub record IsValued (entries : List Entry) (slots : List Node) (bits : List Bool) (v : SlotBits) : Type 0 where
  pub value : is_value (integer_target_in entries (slot slots v.slot)) (value_bits bits v) ≡ true
  pub slot_in : v.slot < length slots

same_place : (a b : ℕ) → (a == b) ≡ true → a ≡ b
same_place a b h = grind (arith, common_steps)

place_itself : (a b : ℕ) → a ≡ b → (a == b) ≡ true
place_itself a b e = grind (arith, common_steps)

integer_same : (a b : ℤ) → int_eq a b ≡ true → a ≡ b
integer_same a b h = (Decides-int_eq a b).0 h

find_none : {X : Type 0} (p : X → Bool) (xs : List X) → ((k : ℕ) (d : X) → k < length xs → p (get_or xs k d) ≡ false) → find p xs ≡ None
find_none p [] h = refl
find_none p (x ∷ xs) h = ap (λ b. cond b (Some x) (find p xs)) (h 0 x (omega arith)) ∙ find_none p xs (λ k d l. h (suc k) d (omega (arith, l)))

-- the integer of a slot is that of its entry
integer_told : (entries : List Entry) (slots : List Node) (values : List SlotBits) (bits : List Bool) (i : ℕ) (o : Option ℤ) → each_two is_before slots ≡ true → i < length slots → All (IsValued entries slots bits) values
    → integer_target_in entries (slot slots i) ≡ o → is_some o ≡ has_value_bits slots values (slot slots i) → integer_at values bits i ≡ o
integer_told entries slots values bits i None asc h told n has =
    let none = none_passes (λ (v : SlotBits). same_node (slot slots v.slot) (slot slots i)) values (sym has) in
    ap (option_map (λ (v : SlotBits). integer_of (value_bits bits v))) (find_none (is_at i) values (λ k d l. by (get_or values k d) (none k d l) (is_at i (get_or values k d)) refl))
  where
    by : (v : SlotBits) → same_node (slot slots v.slot) (slot slots i) ≡ false → (b : Bool) → is_at i v ≡ b → is_at i v ≡ false
    by v other false e = e
    by v other true e = absurd (true≢false (sym (sym other ∙ ap (λ j. same_node (slot slots j) (slot slots i)) (same_place v.slot i e) ∙ same_itself (slot slots i))))
integer_told entries slots values bits i (Some z) asc h told n has =
    let found = any_passes (λ (v : SlotBits). same_node (slot slots v.slot) (slot slots i)) values (sym has) in
    let w : IsValued entries slots bits found.it = subst (IsValued entries slots bits) found.there (told found.place found.it found.within) in
    let place : found.it.slot ≡ i = slot_once slots found.it.slot i asc w.slot_in h (same_nodes (slot slots found.it.slot) (slot slots i) found.passes) in
    let first = find_some (is_at i) (IsValued entries slots bits) values found.it found.place found.within found.there (place_itself found.it.slot i place) told in
    let here : first.it.slot ≡ i = same_place first.it.slot i first.passes in
    ap (option_map (λ (v : SlotBits). integer_of (value_bits bits v))) first.found
    ∙ ap Some (integer_same (integer_of (value_bits bits first.it)) z (ap (λ o. is_value o (value_bits bits first.it)) (sym (ap (λ j. integer_target_in entries (slot slots j)) here ∙ n)) ∙ first.has.value))

-- ---- the whole

-- what is known of each entry
pub record IsTied (layout : Layout) (x : Entry) : Type 0 where
  pub has_parent : IfSome x.parent (HasEdge layout.slots layout.parents x.node)
  pub has_target : IfSome (target_node x) (HasEdge layout.slots layout.targets x.node)
  pub has_value : is_some (target_integer x) ≡ has_value_bits layout.slots layout.values x.node

target_back : (o : Option Target) → target_of (option_and_then node_in o) (option_and_then integer_in o) ≡ o
target_back None = refl
target_back (Some (target.Node n)) = refl
target_back (Some (target.Int z)) = refl

entry_same : (x y : Entry) → x.node ≡ y.node → x.parent ≡ y.parent → x.target ≡ y.target → x ≡ y
entry_same x y a b c =
    let first : x ≡ record { node = y.node; parent = x.parent; target = x.target } = ap (λ n. record { node = n; parent = x.parent; target = x.target }) a in
    let second : record { node = y.node; parent = x.parent; target = x.target } ≡ record { node = y.node; parent = y.parent; target = x.target } = ap (λ p. record { node = y.node; parent = p; target = x.target }) b in
    let third : record { node = y.node; parent = y.parent; target = x.target } ≡ y = ap (λ t. record { node = y.node; parent = y.parent; target = t }) c in
    first ∙ second ∙ third

at_slot : (layout : Layout) (bits : List Bool) (entries : List Entry) (i : ℕ) → each_two is_before layout.slots ≡ true → i < length layout.slots
    → All (IsTold (parent_in entries) layout.slots bits) layout.parents → All (IsTold (target_in entries) layout.slots bits) layout.targets → All (IsValued entries layout.slots bits) layout.values
    → EntryFound (IsTied layout) entries (slot layout.slots i) → entry_of entries (slot layout.slots i) ≡ Some (entry_at layout bits i)
at_slot layout bits entries i asc h ps ts vs f =
    let x : Entry = f.it in
    let parent = leads (parent_in entries) layout.slots layout.parents bits i x.parent asc h ps (ap (option_and_then (λ (e : Entry). e.parent)) f.found)
    (subst (λ n. IfSome x.parent (HasEdge layout.slots layout.parents n)) f.node_is f.has.has_parent) in
    let goal = leads (target_in entries) layout.slots layout.targets bits i (target_node x) asc h ts (ap (option_and_then target_node) f.found)
    (subst (λ n. IfSome (target_node x) (HasEdge layout.slots layout.targets n)) f.node_is f.has.has_target) in
    let number = integer_told entries layout.slots layout.values bits i (target_integer x) asc h vs (ap (option_and_then target_integer) f.found)
    (f.has.has_value ∙ ap (has_value_bits layout.slots layout.values) f.node_is) in
    f.found ∙ ap Some (entry_same x (entry_at layout bits i) f.node_is (sym parent) (sym (ap (λ o. target_of o (integer_at layout.values bits i)) goal ∙ ap (target_of (target_node x)) number ∙ target_back x.target)))

-- the one instance that the bits can show
pub shows_shown : (layout : Layout) (bits : List Bool) (entries : List Entry) → each_two is_before layout.slots ≡ true → each_two (λ (a b : Entry). is_before a.node b.node) entries ≡ true
    → list_all (λ (e : Entry). has_node layout.slots e.node) entries ≡ true
    → ((i : ℕ) → i < length layout.slots → is_live layout bits i ≡ has_node (nodes_of entries) (slot layout.slots i))
    → All (IsTold (parent_in entries) layout.slots bits) layout.parents → All (IsTold (target_in entries) layout.slots bits) layout.targets → All (IsValued entries layout.slots bits) layout.values → All (IsTied layout) entries
    → entries ≡ shown layout bits
shows_shown layout bits entries asc ordered inside live ps ts vs tied =
    sym (merged entries layout.slots asc ordered inside)
    ∙ filter_map_at (entry_of entries) (entry_at layout bits) (is_live layout bits) layout.slots 0 (λ i h. let z : 0 + i ≡ i = omega arith in rw z (by i h (is_live layout bits i) refl))
  where
    by : (i : ℕ) → i < length layout.slots → (b : Bool) → is_live layout bits i ≡ b → entry_of entries (slot layout.slots i) ≡ cond (is_live layout bits i) (Some (entry_at layout bits i)) None
    by i h true t =
        at_slot layout bits entries i asc h ps ts vs (entry_found (IsTied layout) entries (slot layout.slots i) tied (sym (live i h) ∙ t))
        ∙ ap (λ b. cond b (Some (entry_at layout bits i)) None) (sym t)
    by i h false t = entry_missing entries (slot layout.slots i) (sym (live i h) ∙ t) ∙ ap (λ b. cond b (Some (entry_at layout bits i)) None) (sym t)
