-- How many nodes a set of nodes of some clafers has.
use Rattle.std.proofs.Common.{◌≡◌, ℕ, ◌+◌, ◌<◌, ◌≤◌, Bool, true, false, ◌&&◌, List, [], ◌∷◌, ◌++◌, length, map, Option, Some, None, cond, refl, ap, sym, subst, ◌∙◌, arith}
use Rattle.std.specs.Prelude.{nat_lt, not, sum, slice_get}
use Rattle.std.specs.Option.{option_map_or, option_to_list}
use Rattle.std.specs.List.{filter, list_any, list_all, IsDistinct, AllByRecursion, range_with_len}
use Rattle.std.specs.Cmp.{IsEquivalence}
use Rattle.std.proofs.lemmas.Grind.{common_steps}
use Rattle.std.proofs.lemmas.Bool.{true≢false}
use Rattle.std.proofs.lemmas.Map.Made.{length-le_from_is_member}
use Rattle.std.proofs.lemmas.List.Sums.{sum_by-cons}
use Rattle.std.proofs.lemmas.Option.{slice_get_within}
use Rattle.std.proofs.lemmas.List.FromFn.{length-map-range_with_len}
use Rattle.clf_tree.specs.declared.model.Clafer.{Clafer}
use Rattle.clf_tree.specs.declared.instance.Node.{Node}
use Rattle.clf_tree.specs.declared.instance.Entry.{Entry}
use Rattle.clf_tree.specs.declared.scopes.Scopes.{Scopes}
use Rattle.clf_tree.specs.Lists.{numbers_below}
use Rattle.clf_tree.specs.Hierarchy.{is_one_of, is_concrete}
use Rattle.clf_tree.specs.Nodes.{same_node, is_before, has_node, nodes_of, scope_of, is_within, is_ordered, named_by}
use Rattle.clf_tree.specs.Meaning.{nodes_where}
use Rattle.clf_tree.specs.Intervals.{room, concrete_of}
use Rattle.clf_tree.proofs.Items.{In, first, later, found, any_in, all_in, and_left, and_right, kept, in_filter, in_map, image, in_range, in_append_left, in_append_right}

-- a node of an entry that is-a one of ks
pub record Belongs (clafers : List Clafer) (entries : List Entry) (ks : List ℕ) (n : Node) : Type 0 where
  pub entry : Entry
  pub there : In entry entries
  pub same : entry.node ≡ n
  pub is_one : is_one_of clafers ks n.clafer ≡ true

-- nodes of entries that are-a one of ks, none twice
pub record IsSet (clafers : List Clafer) (entries : List Entry) (ks : List ℕ) (ns : List Node) : Type 0 where
  pub distinct : IsDistinct same_node ns
  pub member : (n : Node) → In n ns → Belongs clafers entries ks n

pub same_equal : (m n : Node) → same_node m n ≡ true → m ≡ n
same_equal m n h = grind (arith, common_steps)

pub same_refl : (m : Node) → same_node m m ≡ true
same_refl m = grind (arith, common_steps)

same_symm : (m n : Node) → same_node m n ≡ same_node n m
same_symm m n = grind (arith, common_steps)

same_congr : (m n p : Node) → same_node m n ≡ true → same_node m p ≡ same_node n p
same_congr m n p h = ap (λ z. same_node z p) (same_equal m n h)

pub node_laws : IsEquivalence same_node
node_laws = record { refl = same_refl; symm = same_symm; congr = same_congr }

before_apart : (m n : Node) → is_before m n ≡ true → same_node m n ≡ false
before_apart m n h = grind (arith, common_steps)

-- entries in order have nodes that are all different, also those that pass a test
apart_from : (test : Entry → Bool) (x : Entry) (xs : List Entry) → list_all (λ y. is_before x.node y.node) xs ≡ true → AllByRecursion (λ n. same_node x.node n ≡ false) (nodes_of (filter test xs))
apart_from test x [] h = tt
apart_from test x (y ∷ ys) h = apart_more (test y) (before_apart x.node y.node (and_left (is_before x.node y.node) (list_all (λ z. is_before x.node z.node) ys) h)) (apart_from test x ys (and_right (is_before x.node y.node) (list_all (λ z. is_before x.node z.node) ys) h))
  where
    apart_more : (b : Bool) → same_node x.node y.node ≡ false → AllByRecursion (λ n. same_node x.node n ≡ false) (nodes_of (filter test ys)) → AllByRecursion (λ n. same_node x.node n ≡ false) (nodes_of (cond b (y ∷ filter test ys) (filter test ys)))
    apart_more true e rest = (e, rest)
    apart_more false e rest = rest

pub ordered_distinct : (test : Entry → Bool) (xs : List Entry) → is_ordered xs ≡ true → IsDistinct same_node (nodes_of (filter test xs))
unfolding IsDistinct
ordered_distinct test [] h = tt
ordered_distinct test (x ∷ xs) h = more (test x) (apart_from test x xs (and_left (list_all (λ y. is_before x.node y.node) xs) (is_ordered xs) h)) (ordered_distinct test xs (and_right (list_all (λ y. is_before x.node y.node) xs) (is_ordered xs) h))
  where
    more : (b : Bool) → AllByRecursion (λ n. same_node x.node n ≡ false) (nodes_of (filter test xs)) → IsDistinct same_node (nodes_of (filter test xs)) → IsDistinct same_node (nodes_of (cond b (x ∷ filter test xs) (filter test xs)))
    more true a rest = (a, rest)
    more false a rest = rest

-- the nodes whose entries pass a test, where each of these is-a one of ks
pub set_where : (clafers : List Clafer) (entries : List Entry) (ks : List ℕ) (test : Entry → Bool) → is_ordered entries ≡ true
    → ((x : Entry) → In x entries → test x ≡ true → is_one_of clafers ks x.node.clafer ≡ true) → IsSet clafers entries ks (nodes_where clafers entries test)
set_where clafers entries ks test ordered one = record {
  distinct = ordered_distinct test entries ordered;
  member = λ n i. let im = image (λ (x : Entry). x.node) (filter test entries) n i in let k = kept test entries im.item im.in_list in
      record { entry = im.item; there = k.in_list; same = im.same; is_one = subst (λ (m : Node). is_one_of clafers ks m.clafer ≡ true) im.same (one im.item k.in_list k.pass) };
}

all_filtered : (p : Node → Bool) (m : Node) (ns : List Node) → AllByRecursion (λ n. same_node m n ≡ false) ns → AllByRecursion (λ n. same_node m n ≡ false) (filter p ns)
all_filtered p m [] a = tt
all_filtered p m (n ∷ ns) a = more (p n) a.0 (all_filtered p m ns a.1)
  where
    more : (b : Bool) → same_node m n ≡ false → AllByRecursion (λ x. same_node m x ≡ false) (filter p ns) → AllByRecursion (λ x. same_node m x ≡ false) (cond b (n ∷ filter p ns) (filter p ns))
    more true e rest = (e, rest)
    more false e rest = rest

filtered_distinct : (p : Node → Bool) (ns : List Node) → IsDistinct same_node ns → IsDistinct same_node (filter p ns)
unfolding IsDistinct
filtered_distinct p [] d = tt
filtered_distinct p (n ∷ ns) d = more (p n) (all_filtered p n ns d.0) (filtered_distinct p ns d.1)
  where
    more : (b : Bool) → AllByRecursion (λ x. same_node n x ≡ false) (filter p ns) → IsDistinct same_node (filter p ns) → IsDistinct same_node (cond b (n ∷ filter p ns) (filter p ns))
    more true a rest = (a, rest)
    more false a rest = rest

pub set_filtered : (clafers : List Clafer) (entries : List Entry) (ks : List ℕ) (p : Node → Bool) (ns : List Node) → IsSet clafers entries ks ns → IsSet clafers entries ks (filter p ns)
set_filtered clafers entries ks p ns s = record { distinct = filtered_distinct p ns s.distinct; member = λ n i. s.member n (kept p ns n i).in_list }

-- all nodes of some clafers within the scopes
abbrev node_at : ℕ → ℕ → Node
node_at c i = record { clafer = c; number = i }

slots : Scopes → List ℕ → List Node
slots scopes [] = []
slots scopes (c ∷ cs) = map (node_at c) (range_with_len 0 (scope_of scopes c)) ++ slots scopes cs

length_two : (xs ys : List Node) → length (xs ++ ys) ≡ length xs + length ys
length_two xs ys = grind (arith, common_steps)

slots_length : (scopes : Scopes) (cs : List ℕ) → length (slots scopes cs) ≡ sum (map (scope_of scopes) cs)
unfolding slots
slots_length scopes [] = refl
slots_length scopes (c ∷ cs) =
    length_two (map (node_at c) (range_with_len 0 (scope_of scopes c))) (slots scopes cs)
    ∙ ap (λ n. n + length (slots scopes cs)) (length-map-range_with_len (node_at c) 0 (scope_of scopes c)) ∙ ap (λ n. scope_of scopes c + n) (slots_length scopes cs)
    ∙ sym (sum_by-cons (λ (x : ℕ). x) (scope_of scopes c) (map (scope_of scopes) cs))

slot_in : (scopes : Scopes) (cs : List ℕ) (c i : ℕ) → In c cs → i < scope_of scopes c → In (node_at c i) (slots scopes cs)
unfolding slots
slot_in scopes _ c i (first {xs = cs}) h =
    in_append_left (map (node_at c) (range_with_len 0 (scope_of scopes c))) (slots scopes cs) (node_at c i)
    (subst (λ z. In (node_at c z) (map (node_at c) (range_with_len 0 (scope_of scopes c)))) (omega arith) (in_map (node_at c) (range_with_len 0 (scope_of scopes c)) (0 + i) (in_range (scope_of scopes c) 0 i h)))
slot_in scopes _ c i (later {y = d} {xs = cs} j) h = in_append_right (map (node_at d) (range_with_len 0 (scope_of scopes d))) (slots scopes cs) (node_at c i) (slot_in scopes cs c i j h)

below_of : (clafers : List Clafer) (c : ℕ) (k : Option Clafer) → slice_get clafers c ≡ k → option_map_or (λ (x : Clafer). not x.is_abstract) k false ≡ true → c < length clafers
below_of clafers c None e h = absurd (true≢false (sym h))
below_of clafers c (Some k) e h = slice_get_within clafers c k e

pub concrete_below : (clafers : List Clafer) (c : ℕ) → is_concrete clafers c ≡ true → c < length clafers
concrete_below clafers c h = below_of clafers c (slice_get clafers c) refl h

-- a node of an entry has a concrete clafer and a number below its scope
pub record IsSlot (clafers : List Clafer) (scopes : Scopes) (n : Node) : Type 0 where
  pub concrete : is_concrete clafers n.clafer ≡ true
  pub below : n.number < scope_of scopes n.clafer

lt_from : (a b : ℕ) → nat_lt a b ≡ true → a < b
lt_from a b h = grind (arith, common_steps)

pub entry_slot : (clafers : List Clafer) (scopes : Scopes) (entries : List Entry) (x : Entry) → is_within clafers scopes entries ≡ true → In x entries → IsSlot clafers scopes x.node
entry_slot clafers scopes entries x within i =
    let test : Node → Bool = λ n. is_concrete clafers n.clafer && nat_lt n.number (scope_of scopes n.clafer) in
    let here = and_left (test x.node) (list_all test (option_to_list x.parent ++ option_to_list (Rattle.clf_tree.specs.Nodes.target_node x))) (all_in (λ e. list_all test (named_by e)) entries x i within) in
    record { concrete = and_left (is_concrete clafers x.node.clafer) (nat_lt x.node.number (scope_of scopes x.node.clafer)) here; below = lt_from x.node.number (scope_of scopes x.node.clafer) (and_right (is_concrete clafers x.node.clafer) (nat_lt x.node.number (scope_of scopes x.node.clafer)) here) }

slot_of : (clafers : List Clafer) (scopes : Scopes) (ks : List ℕ) (n : Node) → IsSlot clafers scopes n → is_one_of clafers ks n.clafer ≡ true → In n (slots scopes (concrete_of clafers scopes ks))
slot_of clafers scopes ks n s one =
    let number : In n.clafer (numbers_below (length clafers)) = subst (λ z. In z (numbers_below (length clafers))) (omega arith) (in_range (length clafers) 0 n.clafer (concrete_below clafers n.clafer s.concrete)) in
    slot_in scopes (concrete_of clafers scopes ks) n.clafer n.number
    (in_filter (is_one_of clafers ks) (filter (is_concrete clafers) (numbers_below (length clafers))) n.clafer (in_filter (is_concrete clafers) (numbers_below (length clafers)) n.clafer number s.concrete) one) s.below

-- such a set has at most as many nodes as there is room
pub set_count : (clafers : List Clafer) (scopes : Scopes) (entries : List Entry) (ks : List ℕ) (ns : List Node) → is_within clafers scopes entries ≡ true → IsSet clafers entries ks ns → length ns ≤ room clafers scopes ks
set_count clafers scopes entries ks ns within s =
    let few = length-le_from_is_member node_laws ns (slots scopes (concrete_of clafers scopes ks)) s.distinct in_slots in
    omega (arith, few, slots_length scopes (concrete_of clafers scopes ks))
  where
    in_slots : (q : Node) → list_any (same_node q) ns ≡ true → list_any (same_node q) (slots scopes (concrete_of clafers scopes ks)) ≡ true
    in_slots q h =
        let f = found (same_node q) ns h in
        let b = s.member f.item f.in_list in
        let slot : IsSlot clafers scopes f.item = subst (λ m. IsSlot clafers scopes m) b.same (entry_slot clafers scopes entries b.entry within b.there) in
        any_in (same_node q) (slots scopes (concrete_of clafers scopes ks)) f.item (slot_of clafers scopes ks f.item slot b.is_one) f.pass
