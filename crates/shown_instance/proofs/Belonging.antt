-- An instance within the scopes, a tree and of the right shape has only facts for which a layout that fits has bits.
use Rattle.std.proofs.Common.{◌≡◌, ◌≢◌, ℕ, zero, suc, ◌+◌, ◌<◌, ◌≤◌, Bool, true, false, cond, ◌&&◌, ◌||◌, List, [], ◌∷◌, ◌++◌, length, map, get_or, Option, Some, None, refl, sym, ap, ◌∙◌, arith, ◌⊎◌, inl, inr}
use Rattle.std.specs.Prelude.{◌==◌, nat_lt, is_some, is_none}
use Rattle.std.specs.Option.{option_map_or, option_and_then, option_to_list}
use Rattle.std.specs.List.{filter, flat_map, list_all, list_any, All, range_with_len}
use Rattle.std.proofs.lemmas.Bool.{true≢false}
use Rattle.std.proofs.lemmas.Bool.Decides.{eqb_tells, nat_tests}
use Rattle.std.proofs.lemmas.Grind.{common_steps}
use Rattle.std.proofs.lemmas.List.Folds.{list_all-append, list_any-append}
use Rattle.std.proofs.lemmas.Map.Views.{any-filter_same}
use Rattle.clf_tree.specs.declared.model.Clafer.{Clafer}
use Rattle.clf_tree.specs.declared.model.Reference.{Reference}
use Rattle.clf_tree.specs.declared.instance.Node.{Node}
use Rattle.clf_tree.specs.declared.instance.Target.{Target}
use Rattle.clf_tree.specs.declared.instance.Target.TheVariants as target
use Rattle.clf_tree.specs.declared.instance.Entry.{Entry}
use Rattle.clf_tree.specs.declared.scopes.Scopes.{Scopes}
use Rattle.clf_tree.specs.Lists.{numbers_below, has}
use Rattle.clf_tree.specs.Hierarchy.{is_concrete, is_a, owners, parent_of, target_of, reference_of, refers_to_int, concrete_below}
use Rattle.clf_tree.specs.Nodes.{same_node, has_node, has_some, nodes_of, named_by, node_in, target_node, scope_of, has_its_parent, fits_range}
use Rattle.clf_tree.specs.Shape.{refers, meets_reference}
use Rattle.set_bits.specs.declared.layout.Edge.{Edge}
use Rattle.set_bits.specs.declared.layout.SlotBits.{SlotBits}
use Rattle.set_bits.specs.Fitting.{slot, slot_clafer, ends, ends_from, all_ends, referred, integer_slots}
use Rattle.set_bits.specs.Showing.{has_edge, has_value_bits, target_integer, integer_in}
use Rattle.shown_instance.proofs.Order.{both, together, same_nodes, same_itself}
use Rattle.shown_instance.proofs.Adapting.{any_passes}
use Rattle.shown_instance.proofs.Fitted.{concrete_within, or_right}

-- ---- lists

pub all_of : {X : Type 0} (p : X → Bool) (xs : List X) → All (λ x. p x ≡ true) xs → list_all p xs ≡ true
all_of p [] h = refl
all_of p (x ∷ xs) h = together (p x) (list_all p xs) (h 0 x (omega arith)) (all_of p xs (λ k d l. h (suc k) d (omega (arith, l))))

pub map_same : {X Y : Type 0} (f g : X → Y) (xs : List X) → All (λ x. f x ≡ g x) xs → map f xs ≡ map g xs
map_same f g [] h = refl
map_same f g (x ∷ xs) h = ap (λ y. y ∷ map f xs) (h 0 x (omega arith)) ∙ ap (λ ys. g x ∷ ys) (map_same f g xs (λ k d l. h (suc k) d (omega (arith, l))))

pub any_at : {X : Type 0} (p : X → Bool) (xs : List X) (k : ℕ) (d : X) → k < length xs → p (get_or xs k d) ≡ true → list_any p xs ≡ true
any_at p [] k d l t = absurd (omega (arith, l))
any_at p (x ∷ xs) zero d l t = ap (λ b. b || list_any p xs) t
any_at p (x ∷ xs) (suc k) d l t = or_right (p x) (list_any p xs) (any_at p xs k d (omega (arith, l)) t)

pub any_map : {X Y : Type 0} (p : Y → Bool) (f : X → Y) (xs : List X) → list_any p (map f xs) ≡ list_any (λ x. p (f x)) xs
any_map p f [] = refl
any_map p f (x ∷ xs) = ap (λ b. p (f x) || b) (any_map p f xs)

pub any_range : (p : ℕ → Bool) (a m i : ℕ) → a ≤ i → i < a + m → p i ≡ true → list_any p (range_with_len a m) ≡ true
any_range p a zero i low high t = absurd (omega (arith, low, high))
any_range p a (suc m) i low high t = by (eqb_tells a i) (any_range p (a + 1) m i)
  where
    by : ((a == i) ≡ true × a ≡ i) ⊎ ((a == i) ≡ false × a ≢ i) → (a + 1 ≤ i → i < (a + 1) + m → p i ≡ true → list_any p (range_with_len (a + 1) m) ≡ true) → (p a || list_any p (range_with_len (a + 1) m)) ≡ true
    by (inl s) rest = ap (λ b. b || list_any p (range_with_len (a + 1) m)) (ap p s.1 ∙ t)
    by (inr s) rest = or_right (p a) (list_any p (range_with_len (a + 1) m)) (rest (omega (arith, low, s.1)) (omega (arith, high)) t)

-- ---- slots

pub record HasSlot (slots : List Node) (n : Node) : Type 0 where
  pub place : ℕ
  pub within : place < length slots
  pub is : slot slots place ≡ n

pub slot_of : (slots : List Node) (n : Node) → has_node slots n ≡ true → HasSlot slots n
slot_of [] n h = absurd (true≢false (sym h))
slot_of (x ∷ xs) n h = by (same_node n x) refl (slot_of xs n)
  where
    by : (b : Bool) → same_node n x ≡ b → (has_node xs n ≡ true → HasSlot xs n) → HasSlot (x ∷ xs) n
    by true e rest = record { place = 0; within = omega arith; is = sym (same_nodes n x e) }
    by false e rest =
        let r = rest (sym (ap (λ b. b || has_node xs n) e) ∙ h) in
        record { place = suc r.place; within = omega (arith, r.within); is = r.is }

-- ---- edges

abbrev is_pair : ℕ → ℕ → ℕ × ℕ → Bool
is_pair i j q = (q.0 == i) && (q.1 == j)

same_number : (a b : ℕ) → (a == b) ≡ true → a ≡ b
same_number a b h = grind (arith, common_steps)

this_pair : (i j a : ℕ) → a ≡ j → is_pair i j (i, a) ≡ true
this_pair i j a e = grind (arith, common_steps)

pair_from : (t : ℕ → Bool) (i j a m : ℕ) → a ≤ j → j < a + m → t j ≡ true → list_any (is_pair i j) (map (λ k. (i, k)) (filter t (range_with_len a m))) ≡ true
pair_from t i j a zero low high pass = absurd (omega (arith, low, high))
pair_from t i j a (suc m) low high pass = by (eqb_tells a j) (t a) refl (pair_from t i j (a + 1) m)
  where
    others : Bool
    others = list_any (is_pair i j) (map (λ k. (i, k)) (filter t (range_with_len (a + 1) m)))

    by : ((a == j) ≡ true × a ≡ j) ⊎ ((a == j) ≡ false × a ≢ j) → (b : Bool) → t a ≡ b → (a + 1 ≤ j → j < (a + 1) + m → t j ≡ true → others ≡ true)
        → list_any (is_pair i j) (map (λ k. (i, k)) (cond (t a) (a ∷ filter t (range_with_len (a + 1) m)) (filter t (range_with_len (a + 1) m)))) ≡ true
    by (inl s) true e rest = rw e (ap (λ b. b || others) (this_pair i j a s.1))
    by (inl s) false e rest = absurd (true≢false (sym pass ∙ ap t (sym s.1) ∙ e))
    by (inr s) true e rest = rw e (or_right (is_pair i j (i, a)) others (rest (omega (arith, low, s.1)) (omega (arith, high)) pass))
    by (inr s) false e rest = rw e (rest (omega (arith, low, s.1)) (omega (arith, high)) pass)

pair_all : (near : ℕ → List ℕ) (slots : List Node) (i j a m : ℕ) → a ≤ i → i < a + m → j < length slots → has (near (slot_clafer slots i)) (slot_clafer slots j) ≡ true
    → list_any (is_pair i j) (flat_map (λ k. ends_from (near (slot_clafer slots k)) slots k (length slots)) (range_with_len a m)) ≡ true
pair_all near slots i j a zero low high l h = absurd (omega (arith, low, high))
pair_all near slots i j a (suc m) low high l h =
    list_any-append (is_pair i j) (ends_from (near (slot_clafer slots a)) slots a (length slots)) (flat_map (λ k. ends_from (near (slot_clafer slots k)) slots k (length slots)) (range_with_len (a + 1) m))
    ∙ by (eqb_tells a i) (pair_all near slots i j (a + 1) m)
  where
    mine : ℕ → Bool
    mine k = list_any (is_pair i j) (ends_from (near (slot_clafer slots k)) slots k (length slots))

    others : Bool
    others = list_any (is_pair i j) (flat_map (λ k. ends_from (near (slot_clafer slots k)) slots k (length slots)) (range_with_len (a + 1) m))

    here : mine i ≡ true
    here = pair_from (λ k. has (near (slot_clafer slots i)) (slot_clafer slots k)) i j 0 (length slots) (omega arith) (omega (arith, l)) h

    by : ((a == i) ≡ true × a ≡ i) ⊎ ((a == i) ≡ false × a ≢ i)
        → (a + 1 ≤ i → i < (a + 1) + m → j < length slots → has (near (slot_clafer slots i)) (slot_clafer slots j) ≡ true → others ≡ true) → (mine a || others) ≡ true
    by (inl s) rest = ap (λ b. b || others) (ap mine s.1 ∙ here)
    by (inr s) rest = or_right (mine a) others (rest (omega (arith, low, s.1)) (omega (arith, high)) l h)

pub edge_between : (near : ℕ → List ℕ) (slots : List Node) (edges : List Edge) (m n : Node) → ends edges ≡ all_ends near slots → has_node slots m ≡ true → has_node slots n ≡ true → has (near m.clafer) n.clafer ≡ true → has_edge slots edges m n ≡ true
edge_between near slots edges m n e hm hn h =
    let s = slot_of slots m hm in
    let t = slot_of slots n hn in
    let close : has (near (slot_clafer slots s.place)) (slot_clafer slots t.place) ≡ true = ap (λ (x : Node). has (near x.clafer) (slot_clafer slots t.place)) s.is ∙ ap (λ (x : Node). has (near m.clafer) x.clafer) t.is ∙ h in
    let pair : list_any (λ (x : Edge). is_pair s.place t.place (x.from, x.to)) edges ≡ true =
    sym (any_map (is_pair s.place t.place) (λ (x : Edge). (x.from, x.to)) edges) ∙ ap (list_any (is_pair s.place t.place)) e ∙ pair_all near slots s.place t.place 0 (length slots) (omega arith) (omega (arith, s.within)) t.within close in
    let f = any_passes (λ (x : Edge). is_pair s.place t.place (x.from, x.to)) edges pair in
    let q = both (f.it.from == s.place) (f.it.to == t.place) f.passes in
    let from : slot slots f.it.from ≡ m = ap (slot slots) (same_number f.it.from s.place q.0) ∙ s.is in
    let to : slot slots f.it.to ≡ n = ap (slot slots) (same_number f.it.to t.place q.1) ∙ t.is in
    any_at (λ (x : Edge). same_node (slot slots x.from) m && same_node (slot slots x.to) n) edges f.place f.it f.within
    (ap (λ (x : Edge). same_node (slot slots x.from) m && same_node (slot slots x.to) n) f.there
    ∙ together (same_node (slot slots f.it.from) m) (same_node (slot slots f.it.to) n) (ap (λ x. same_node x m) from ∙ same_itself m) (ap (λ x. same_node x n) to ∙ same_itself n))

-- ---- what an entry names

abbrev is_inside : List Clafer → Scopes → Node → Bool
is_inside clafers scopes n = is_concrete clafers n.clafer && nat_lt n.number (scope_of scopes n.clafer)

pub named_itself : (test : Node → Bool) (e : Entry) → list_all test (named_by e) ≡ true → test e.node ≡ true
named_itself test e h = (both (test e.node) (list_all test (option_to_list e.parent ++ option_to_list (target_node e))) h).0

named_others : (test : Node → Bool) (e : Entry) → list_all test (named_by e) ≡ true → (list_all test (option_to_list e.parent) ≡ true) × (list_all test (option_to_list (target_node e)) ≡ true)
named_others test e h =
    both (list_all test (option_to_list e.parent)) (list_all test (option_to_list (target_node e)))
    (sym (list_all-append test (option_to_list e.parent) (option_to_list (target_node e))) ∙ (both (test e.node) (list_all test (option_to_list e.parent ++ option_to_list (target_node e))) h).1)

one_of : (test : Node → Bool) (o : Option Node) (n : Node) → o ≡ Some n → list_all test (option_to_list o) ≡ true → test n ≡ true
one_of test o n e h = (both (test n) true (sym (ap (λ p. list_all test (option_to_list p)) e) ∙ h)).0

-- ---- parents

filter_has : (t : Node → Bool) (xs : List Node) (n : Node) → has_node (filter t xs) n ≡ true → t n ≡ true
filter_has t [] n h = absurd (true≢false (sym h))
filter_has t (x ∷ xs) n h = by (t x) refl (filter_has t xs n)
  where
    by : (b : Bool) → t x ≡ b → (has_node (filter t xs) n ≡ true → t n ≡ true) → t n ≡ true
    by false e rest = rest (sym (ap (λ b. has_node (cond b (x ∷ filter t xs) (filter t xs)) n) e) ∙ h)
    by true e rest = split (same_node n x) refl rest
      where
        there : (same_node n x || has_node (filter t xs) n) ≡ true
        there = sym (ap (λ b. has_node (cond b (x ∷ filter t xs) (filter t xs)) n) e) ∙ h

        split : (b : Bool) → same_node n x ≡ b → (has_node (filter t xs) n ≡ true → t n ≡ true) → t n ≡ true
        split true s more = ap t (same_nodes n x s) ∙ e
        split false s more = more (sym (ap (λ b. b || has_node (filter t xs) n) s) ∙ there)

parent_owns : (clafers : List Clafer) (entries : List Entry) (e : Entry) (p : Node) → has_its_parent clafers entries e ≡ true → e.parent ≡ Some p → has (owners clafers e.node.clafer) p.clafer ≡ true
parent_owns clafers entries e p h at = by (parent_of clafers e.node.clafer) refl
  where
    by : (o : Option ℕ) → parent_of clafers e.node.clafer ≡ o → has (owners clafers e.node.clafer) p.clafer ≡ true
    by None s = absurd (true≢false (sym (sym (ap (λ o. option_map_or (λ q. has_some (filter (λ (m : Node). has (owners clafers e.node.clafer) m.clafer) (nodes_of entries)) e.parent) o (is_none e.parent)) s ∙ ap is_none at) ∙ h)))
    by (Some q) s =
        filter_has (λ (m : Node). has (owners clafers e.node.clafer) m.clafer) (nodes_of entries) p
        (sym (ap (λ o. option_map_or (λ r. has_some (filter (λ (m : Node). has (owners clafers e.node.clafer) m.clafer) (nodes_of entries)) e.parent) o (is_none e.parent)) s
        ∙ ap (has_some (filter (λ (m : Node). has (owners clafers e.node.clafer) m.clafer) (nodes_of entries))) at) ∙ h)

pub parent_edge : (clafers : List Clafer) (scopes : Scopes) (slots : List Node) (edges : List Edge) (entries : List Entry) (e : Entry) → ((n : Node) → is_inside clafers scopes n ≡ true → has_node slots n ≡ true) → ends edges ≡ all_ends (owners clafers) slots
    → list_all (is_inside clafers scopes) (named_by e) ≡ true → has_its_parent clafers entries e ≡ true → option_map_or (has_edge slots edges e.node) e.parent true ≡ true
parent_edge clafers scopes slots edges entries e inside same named own = by e.parent refl
  where
    by : (o : Option Node) → e.parent ≡ o → option_map_or (has_edge slots edges e.node) e.parent true ≡ true
    by None s = ap (λ o. option_map_or (has_edge slots edges e.node) o true) s
    by (Some p) s =
        ap (λ o. option_map_or (has_edge slots edges e.node) o true) s
        ∙ edge_between (owners clafers) slots edges e.node p same (inside e.node (named_itself (is_inside clafers scopes) e named)) (inside p (one_of (is_inside clafers scopes) e.parent p s (named_others (is_inside clafers scopes) e named).0))
        (parent_owns clafers entries e p own s)

-- ---- targets

instance_is : (p : ℕ → Bool) (es : List Entry) (n : Node) → has_node (nodes_of (filter (λ (e : Entry). p e.node.clafer) es)) n ≡ true → p n.clafer ≡ true
instance_is p [] n h = absurd (true≢false (sym h))
instance_is p (e ∷ es) n h = by (p e.node.clafer) refl (instance_is p es n)
  where
    rest_nodes : List Entry
    rest_nodes = filter (λ (x : Entry). p x.node.clafer) es

    by : (b : Bool) → p e.node.clafer ≡ b → (has_node (nodes_of rest_nodes) n ≡ true → p n.clafer ≡ true) → p n.clafer ≡ true
    by false s rest = rest (sym (ap (λ b. has_node (nodes_of (cond b (e ∷ rest_nodes) rest_nodes)) n) s) ∙ h)
    by true s rest = split (same_node n e.node) refl rest
      where
        there : (same_node n e.node || has_node (nodes_of rest_nodes) n) ≡ true
        there = sym (ap (λ b. has_node (nodes_of (cond b (e ∷ rest_nodes) rest_nodes)) n) s) ∙ h

        split : (b : Bool) → same_node n e.node ≡ b → (has_node (nodes_of rest_nodes) n ≡ true → p n.clafer ≡ true) → p n.clafer ≡ true
        split true t more = ap (λ (x : Node). p x.clafer) (same_nodes n e.node t) ∙ s
        split false t more = more (sym (ap (λ b. b || has_node (nodes_of rest_nodes) n) t) ∙ there)

has-filter : (p : ℕ → Bool) (n c : ℕ) → c < n → p c ≡ true → has (filter p (numbers_below n)) c ≡ true
has-filter p n c h pass =
    any-filter_same (λ y. c == y) p true (λ k e. ap p (sym (same_number c k e)) ∙ pass) (numbers_below n)
    ∙ any_range (λ y. c == y) 0 n c (omega arith) (omega (arith, h)) (this c)
  where
    this : (a : ℕ) → (a == a) ≡ true
    this a = grind (arith, nat_tests)

target_near : (clafers : List Clafer) (scopes : Scopes) (entries : List Entry) (e : Entry) (n : Node) → meets_reference clafers entries scopes e ≡ true → e.target ≡ Some (target.Node n) → is_concrete clafers n.clafer ≡ true → has (referred clafers e.node.clafer) n.clafer ≡ true
target_near clafers scopes entries e n h at concrete = by (reference_of clafers e.node.clafer) refl
  where
    by : (o : Option Reference) → reference_of clafers e.node.clafer ≡ o → has (referred clafers e.node.clafer) n.clafer ≡ true
    by None s = absurd (true≢false (sym (sym (ap (λ o. option_map_or (λ r. option_map_or (refers clafers entries scopes r.to) e.target false) o (is_none e.target)) s ∙ ap is_none at) ∙ h)))
    by (Some r) s = to r.to refl
      where
        fact : refers clafers entries scopes r.to (target.Node n) ≡ true
        fact = sym (ap (λ o. option_map_or (λ (q : Reference). option_map_or (refers clafers entries scopes q.to) e.target false) o (is_none e.target)) s ∙ ap (λ o. option_map_or (refers clafers entries scopes r.to) o false) at) ∙ h

        to : (o : Option ℕ) → r.to ≡ o → has (referred clafers e.node.clafer) n.clafer ≡ true
        to None t = absurd (true≢false (sym (sym (ap (λ o. refers clafers entries scopes o (target.Node n)) t) ∙ fact)))
        to (Some c) t =
            let below : is_a clafers n.clafer c ≡ true = instance_is (λ k. is_a clafers k c) entries n (sym (ap (λ o. refers clafers entries scopes o (target.Node n)) t) ∙ fact) in
            let goes : target_of clafers e.node.clafer ≡ Some c = ap (option_and_then (λ (q : Reference). q.to)) s ∙ t in
            ap (λ o. has (option_map_or (concrete_below clafers) o []) n.clafer) goes
            ∙ has-filter (λ d. is_concrete clafers d && is_a clafers d c) (length clafers) n.clafer (concrete_within clafers n.clafer concrete) (together (is_concrete clafers n.clafer) (is_a clafers n.clafer c) concrete below)

pub target_edge : (clafers : List Clafer) (scopes : Scopes) (slots : List Node) (edges : List Edge) (entries : List Entry) (e : Entry) → ((n : Node) → is_inside clafers scopes n ≡ true → has_node slots n ≡ true) → ends edges ≡ all_ends (referred clafers) slots
    → list_all (is_inside clafers scopes) (named_by e) ≡ true → meets_reference clafers entries scopes e ≡ true → option_map_or (has_edge slots edges e.node) (target_node e) true ≡ true
target_edge clafers scopes slots edges entries e inside same named meets = by e.target refl
  where
    by : (o : Option Target) → e.target ≡ o → option_map_or (has_edge slots edges e.node) (target_node e) true ≡ true
    by None s = ap (λ o. option_map_or (has_edge slots edges e.node) (option_and_then node_in o) true) s
    by (Some (target.Int z)) s = ap (λ o. option_map_or (has_edge slots edges e.node) (option_and_then node_in o) true) s
    by (Some (target.Node n)) s =
        let there : is_inside clafers scopes n ≡ true = one_of (is_inside clafers scopes) (target_node e) n (ap (option_and_then node_in) s) (named_others (is_inside clafers scopes) e named).1 in
        ap (λ o. option_map_or (has_edge slots edges e.node) (option_and_then node_in o) true) s
        ∙ edge_between (referred clafers) slots edges e.node n same (inside e.node (named_itself (is_inside clafers scopes) e named)) (inside n there)
        (target_near clafers scopes entries e n meets s (both (is_concrete clafers n.clafer) (nat_lt n.number (scope_of scopes n.clafer)) there).0)

-- ---- integers

integer_where : (clafers : List Clafer) (scopes : Scopes) (entries : List Entry) (e : Entry) → meets_reference clafers entries scopes e ≡ true → is_some (target_integer e) ≡ refers_to_int clafers e.node.clafer
integer_where clafers scopes entries e h = by (reference_of clafers e.node.clafer) refl e.target refl
  where
    whole : Option Reference → Option Target → Bool
    whole o t = option_map_or (λ (r : Reference). option_map_or (refers clafers entries scopes r.to) t false) o (is_none t)

    meets : (o : Option Reference) → reference_of clafers e.node.clafer ≡ o → (t : Option Target) → e.target ≡ t → whole o t ≡ true
    meets o s t u = sym (ap (λ p. whole p e.target) s ∙ ap (whole o) u) ∙ h

    sides : (o : Option Reference) (t : Option Target) → whole o t ≡ true → is_some (option_and_then integer_in t) ≡ option_map_or (λ (r : Reference). is_none r.to) o false
    sides None None w = refl
    sides None (Some x) w = absurd (true≢false (sym w))
    sides (Some r) None w = absurd (true≢false (sym w))
    sides (Some r) (Some x) w = to r.to x w
      where
        to : (c : Option ℕ) (x : Target) → refers clafers entries scopes c x ≡ true → is_some (integer_in x) ≡ is_none c
        to None (target.Int z) w = refl
        to None (target.Node n) w = absurd (true≢false (sym w))
        to (Some c) (target.Int z) w = absurd (true≢false (sym w))
        to (Some c) (target.Node n) w = refl

    by : (o : Option Reference) → reference_of clafers e.node.clafer ≡ o → (t : Option Target) → e.target ≡ t → is_some (target_integer e) ≡ refers_to_int clafers e.node.clafer
    by o s t u = ap (λ t. is_some (option_and_then integer_in t)) u ∙ sides o t (meets o s t u) ∙ sym (ap (λ o. option_map_or (λ (r : Reference). is_none r.to) o false) s)

pub value_where : (clafers : List Clafer) (slots : List Node) (values : List SlotBits) (n : Node) → map (λ v. v.slot) values ≡ integer_slots clafers slots → has_node slots n ≡ true → has_value_bits slots values n ≡ refers_to_int clafers n.clafer
value_where clafers slots values n e h =
    let s = slot_of slots n h in
    sym (any_map (λ k. same_node (slot slots k) n) (λ (v : SlotBits). v.slot) values)
    ∙ ap (list_any (λ k. same_node (slot slots k) n)) e
    ∙ any-filter_same (λ k. same_node (slot slots k) n) (λ i. refers_to_int clafers (slot_clafer slots i)) (refers_to_int clafers n.clafer) (λ k t. ap (λ (x : Node). refers_to_int clafers x.clafer) (same_nodes (slot slots k) n t)) (numbers_below (length slots))
    ∙ ap (λ b. refers_to_int clafers n.clafer && b) (any_range (λ k. same_node (slot slots k) n) 0 (length slots) s.place (omega arith) (omega (arith, s.within)) (ap (λ x. same_node x n) s.is ∙ same_itself n))
    ∙ and_true (refers_to_int clafers n.clafer)
  where
    and_true : (b : Bool) → (b && true) ≡ b
    and_true true = refl
    and_true false = refl

pub value_there : (clafers : List Clafer) (scopes : Scopes) (slots : List Node) (values : List SlotBits) (entries : List Entry) (e : Entry) → map (λ v. v.slot) values ≡ integer_slots clafers slots → has_node slots e.node ≡ true
    → meets_reference clafers entries scopes e ≡ true → is_some (target_integer e) ≡ has_value_bits slots values e.node
value_there clafers scopes slots values entries e same there meets = integer_where clafers scopes entries e meets ∙ sym (value_where clafers slots values e.node same there)

pub integer_ranged : (clafers : List Clafer) (scopes : Scopes) (entries : List Entry) (e : Entry) → meets_reference clafers entries scopes e ≡ true → option_map_or (fits_range scopes) e.target true ≡ true
integer_ranged clafers scopes entries e h = by (reference_of clafers e.node.clafer) refl e.target refl
  where
    whole : Option Reference → Option Target → Bool
    whole o t = option_map_or (λ (r : Reference). option_map_or (refers clafers entries scopes r.to) t false) o (is_none t)

    sides : (o : Option Reference) (t : Option Target) → whole o t ≡ true → option_map_or (fits_range scopes) t true ≡ true
    sides o None w = refl
    sides None (Some x) w = absurd (true≢false (sym w))
    sides (Some r) (Some x) w = to r.to x w
      where
        to : (c : Option ℕ) (x : Target) → refers clafers entries scopes c x ≡ true → fits_range scopes x ≡ true
        to None (target.Int z) w = w
        to None (target.Node n) w = absurd (true≢false (sym w))
        to (Some c) (target.Int z) w = absurd (true≢false (sym w))
        to (Some c) (target.Node n) w = refl

    by : (o : Option Reference) → reference_of clafers e.node.clafer ≡ o → (t : Option Target) → e.target ≡ t → option_map_or (fits_range scopes) e.target true ≡ true
    by o s t u = ap (λ t. option_map_or (fits_range scopes) t true) u ∙ sides o t (sym (ap (λ p. whole p e.target) s ∙ ap (whole o) u) ∙ h)
