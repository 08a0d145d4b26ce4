-- How many edges a layout that fits has.
use Rattle.std.proofs.Common.{◌≡◌, ◌≢◌, ℕ, zero, suc, ◌+◌, ◌<◌, ◌≤◌, Bool, true, false, cond, ◌&&◌, List, [], ◌∷◌, length, map, sum, Option, Some, None, refl, sym, ap, ◌∙◌, arith, ◌⊎◌, inl, inr}
use Rattle.std.specs.Prelude.{◌==◌}
use Rattle.std.specs.Option.{option_map_or}
use Rattle.std.specs.List.{filter, sum_by, count_by, range_with_len}
use Rattle.std.proofs.lemmas.Bool.Decides.{eqb_tells}
use Rattle.std.proofs.lemmas.List.{length-map}
use Rattle.std.proofs.lemmas.List.Sums.{sum_by-cons, length-filter, sum_by-le-sum_by}
use Rattle.clf_tree.specs.declared.model.Clafer.{Clafer}
use Rattle.clf_tree.specs.declared.instance.Node.{Node}
use Rattle.clf_tree.specs.declared.scopes.Scopes.{Scopes}
use Rattle.clf_tree.specs.Lists.{numbers_below, has}
use Rattle.clf_tree.specs.Hierarchy.{is_concrete, is_a, owners, concrete_below}
use Rattle.clf_tree.specs.Nodes.{scope_of}
use Rattle.set_bits.specs.declared.layout.Edge.{Edge}
use Rattle.set_bits.specs.declared.layout.Layout.{Layout}
use Rattle.set_bits.specs.Fitting.{Fits, nodes_within, slot_clafer, ends, ends_from, all_ends}
use Rattle.shape_encoder.specs.Comparing.{turned, turned_by, turned_from, clafer_from}
use Rattle.shape_encoder.specs.Counting.{child_slots}
use Rattle.instance_encoder.proofs.Totals.{sum-each, sum-mapped, sum-filtered, sum-flat, sum-constant, sum-swap, below-less}
use Rattle.instance_encoder.proofs.Slotted.{by_slots, room_of, slots_of, kept_has, one_or_none}

-- ---- a sum with one term

no_term : (f : ℕ → ℕ) (k a n : ℕ) → k < a → sum_by (λ i. cond (i == k) (f i) 0) (range_with_len a n) ≡ 0
no_term f k a zero h = refl
no_term f k a (suc n) h = sum_by-cons (λ i. cond (i == k) (f i) 0) a (range_with_len (a + 1) n) ∙ by (eqb_tells a k) (no_term f k (a + 1) n (omega (arith, h)))
  where
    by : (((a == k) ≡ true) × (a ≡ k)) ⊎ (((a == k) ≡ false) × (a ≢ k)) → sum_by (λ i. cond (i == k) (f i) 0) (range_with_len (a + 1) n) ≡ 0
        → cond (a == k) (f a) 0 + sum_by (λ i. cond (i == k) (f i) 0) (range_with_len (a + 1) n) ≡ 0
    by (inl e) rest = absurd (omega (arith, h, e.1))
    by (inr e) rest = ap (λ b. cond b (f a) 0 + sum_by (λ i. cond (i == k) (f i) 0) (range_with_len (a + 1) n)) e.0 ∙ omega (arith, rest)

one_term_from : (f : ℕ → ℕ) (k a n : ℕ) → sum_by (λ i. cond (i == k) (f i) 0) (range_with_len a n) ≤ f k
one_term_from f k a zero = omega arith
one_term_from f k a (suc n) = by (eqb_tells a k) (one_term_from f k (a + 1) n)
  where
    split : sum_by (λ i. cond (i == k) (f i) 0) (range_with_len a (suc n)) ≡ cond (a == k) (f a) 0 + sum_by (λ i. cond (i == k) (f i) 0) (range_with_len (a + 1) n)
    split = sum_by-cons (λ i. cond (i == k) (f i) 0) a (range_with_len (a + 1) n)

    by : (((a == k) ≡ true) × (a ≡ k)) ⊎ (((a == k) ≡ false) × (a ≢ k)) → sum_by (λ i. cond (i == k) (f i) 0) (range_with_len (a + 1) n) ≤ f k
        → sum_by (λ i. cond (i == k) (f i) 0) (range_with_len a (suc n)) ≤ f k
    by (inl e) rest =
        let none = no_term f k (a + 1) n (omega (arith, e.1)) in
        let here : cond (a == k) (f a) 0 ≡ f k = ap (λ b. cond b (f a) 0) e.0 ∙ ap f e.1 in
        let s = split in
        omega (arith, s, here, none)
    by (inr e) rest =
        let here : cond (a == k) (f a) 0 ≡ 0 = ap (λ b. cond b (f a) 0) e.0 in
        let s = split in
        omega (arith, s, here, rest)

pub one_term : (f : ℕ → ℕ) (k n : ℕ) → sum_by (λ i. cond (i == k) (f i) 0) (numbers_below n) ≤ f k
one_term f k n = one_term_from f k 0 n

pub eq_turned : (a b : ℕ) → (a == b) ≡ (b == a)
eq_turned a b = by (eqb_tells a b) (eqb_tells b a)
  where
    by : (((a == b) ≡ true) × (a ≡ b)) ⊎ (((a == b) ≡ false) × (a ≢ b)) → (((b == a) ≡ true) × (b ≡ a)) ⊎ (((b == a) ≡ false) × (b ≢ a)) → (a == b) ≡ (b == a)
    by (inl e) (inl f) = e.0 ∙ sym f.0
    by (inl e) (inr f) = absurd (f.1 (sym e.1))
    by (inr e) (inl f) = absurd (e.1 (sym f.1))
    by (inr e) (inr f) = e.0 ∙ sym f.0

-- ---- the edges that pass a test

pub edges_counted : (near : ℕ → List ℕ) (slots : List Node) (edges : List Edge) (test : ℕ → ℕ → Bool) → ends edges ≡ all_ends near slots
    → count_by (λ e. test e.from e.to) edges
    ≡ sum_by (λ i. sum_by (λ j. cond (has (near (slot_clafer slots i)) (slot_clafer slots j)) (cond (test i j) 1 0) 0) (numbers_below (length slots))) (numbers_below (length slots))
edges_counted near slots edges test fit =
    sym (sum-mapped passes (λ (e : Edge). (e.from, e.to)) edges) ∙ ap (sum_by passes) fit
    ∙ sum-flat passes (λ i. ends_from (near (slot_clafer slots i)) slots i (length slots)) (numbers_below (length slots))
    ∙ sum-each (λ i. sum_by passes (ends_from (near (slot_clafer slots i)) slots i (length slots))) (λ i. sum_by (λ j. cond (has (near (slot_clafer slots i)) (slot_clafer slots j)) (cond (test i j) 1 0) 0) (numbers_below (length slots))) (numbers_below (length slots)) row
  where
    passes : ℕ × ℕ → ℕ
    passes p = cond (test p.0 p.1) 1 0

    row : (i : ℕ) → sum_by passes (ends_from (near (slot_clafer slots i)) slots i (length slots)) ≡ sum_by (λ j. cond (has (near (slot_clafer slots i)) (slot_clafer slots j)) (cond (test i j) 1 0) 0) (numbers_below (length slots))
    row i =
        sum-mapped passes (λ j. (i, j)) (filter (λ j. has (near (slot_clafer slots i)) (slot_clafer slots j)) (numbers_below (length slots)))
        ∙ sum-filtered (λ j. passes (i, j)) (λ j. has (near (slot_clafer slots i)) (slot_clafer slots j)) (numbers_below (length slots))

-- ---- the slots to which one can be tied

-- the concrete clafers below one that may be missing, and the sum of their scopes
abbrev pub near_of : List Clafer → Option ℕ → List ℕ
near_of clafers o = option_map_or (concrete_below clafers) o []

abbrev pub reach : List Clafer → Scopes → Option ℕ → ℕ
reach clafers scopes o = sum (map (scope_of scopes) (near_of clafers o))

abbrev near_test : List Clafer → Option ℕ → ℕ → Bool
near_test clafers o d = option_map_or (λ p. is_concrete clafers d && is_a clafers d p) o false

none_kept : (xs : List ℕ) → filter (λ (x : ℕ). false) xs ≡ []
none_kept [] = refl
none_kept (x ∷ xs) = none_kept xs

near_kept : (clafers : List Clafer) (o : Option ℕ) → near_of clafers o ≡ filter (near_test clafers o) (numbers_below (length clafers))
near_kept clafers None = sym (none_kept (numbers_below (length clafers)))
near_kept clafers (Some p) = refl

abbrev near_slots : List Clafer → List Node → Option ℕ → ℕ
near_slots clafers slots o = sum_by (λ j. cond (has (near_of clafers o) (slot_clafer slots j)) 1 0) (numbers_below (length slots))

near_few : (clafers : List Clafer) (scopes : Scopes) (slots : List Node) (o : Option ℕ) → slots ≡ nodes_within clafers scopes → near_slots clafers slots o ≤ reach clafers scopes o
near_few clafers scopes slots o e =
    let kept = near_kept clafers o in
    let less : near_slots clafers slots o ≤ count_by (λ j. near_test clafers o (slot_clafer slots j)) (numbers_below (length slots)) =
    below-less (λ j. cond (has (near_of clafers o) (slot_clafer slots j)) 1 0) (λ j. cond (near_test clafers o (slot_clafer slots j)) 1 0) (length slots)
    (λ j l. one_or_none (has (near_of clafers o) (slot_clafer slots j)) (near_test clafers o (slot_clafer slots j))
    (λ h. kept_has (near_test clafers o) (numbers_below (length clafers)) (slot_clafer slots j) (sym (ap (λ ks. has ks (slot_clafer slots j)) kept) ∙ h))) in
    let whole = slots_of clafers scopes slots (near_test clafers o) e in
    let same : room_of clafers scopes (near_test clafers o) ≡ reach clafers scopes o = ap (λ ks. sum (map (scope_of scopes) ks)) (sym kept) in
    omega (arith, less, whole, same)

-- ---- all edges, those of a slot, those of each clafer, and those to a slot

pub edges_few : (clafers : List Clafer) (scopes : Scopes) (slots : List Node) (edges : List Edge) (end : ℕ → Option ℕ) → slots ≡ nodes_within clafers scopes → ends edges ≡ all_ends (λ c. near_of clafers (end c)) slots
    → length edges ≤ by_slots slots (λ c. reach clafers scopes (end c))
edges_few clafers scopes slots edges end e fit =
    let all = sum-constant 1 edges in
    let counted = edges_counted (λ c. near_of clafers (end c)) slots edges (λ i j. true) fit in
    let less = below-less (λ i. near_slots clafers slots (end (slot_clafer slots i))) (λ i. reach clafers scopes (end (slot_clafer slots i))) (length slots) (λ i l. near_few clafers scopes slots (end (slot_clafer slots i)) e) in
    omega (arith, all, counted, less)

turned_count : (key : Edge → ℕ) (edges : List Edge) (i : ℕ) → length (turned_by key edges i) ≡ count_by (λ e. key e == i) edges
turned_count key edges i = length-map (filter (λ (e : Edge). key e == i) edges) turned ∙ length-filter (λ (e : Edge). key e == i) edges

none_there : {X : Type 0} (h : X → Bool) (xs : List X) → sum_by (λ x. cond (h x) 0 0) xs ≡ 0
none_there {X} h xs = sum-each (λ (x : X). cond (h x) 0 0) (λ x. 0) xs (λ x. either_way 0 (h x)) ∙ (let z = sum-constant {X = X} 0 xs in omega (arith, z))
  where
    either_way : (n : ℕ) (b : Bool) → cond b n n ≡ n
    either_way n true = refl
    either_way n false = refl

pub slot_edges_few : (clafers : List Clafer) (scopes : Scopes) (slots : List Node) (edges : List Edge) (end : ℕ → Option ℕ) → slots ≡ nodes_within clafers scopes → ends edges ≡ all_ends (λ c. near_of clafers (end c)) slots
    → (i : ℕ) → length (turned_from edges i) ≤ reach clafers scopes (end (slot_clafer slots i))
slot_edges_few clafers scopes slots edges end e fit i =
    let turn = turned_count (λ e. e.from) edges i in
    let counted = edges_counted (λ c. near_of clafers (end c)) slots edges (λ a b. a == i) fit in
    let rows = below-less (λ a. sum_by (λ b. cond (has (near_of clafers (end (slot_clafer slots a))) (slot_clafer slots b)) (cond (a == i) 1 0) 0) (numbers_below (length slots)))
    (λ a. cond (a == i) (near_slots clafers slots (end (slot_clafer slots a))) 0) (length slots) (λ a l. row (λ b. has (near_of clafers (end (slot_clafer slots a))) (slot_clafer slots b)) (a == i)) in
    let one = one_term (λ a. near_slots clafers slots (end (slot_clafer slots a))) i (length slots) in
    let few = near_few clafers scopes slots (end (slot_clafer slots i)) e in
    omega (arith, turn, counted, rows, one, few)
  where
    row : (h : ℕ → Bool) (b : Bool) → sum_by (λ j. cond (h j) (cond b 1 0) 0) (numbers_below (length slots)) ≤ cond b (sum_by (λ j. cond (h j) 1 0) (numbers_below (length slots))) 0
    row h true = omega arith
    row h false = let z = none_there h (numbers_below (length slots)) in omega (arith, z)

pub clafer_edges_few : (layout : Layout) (edges : List Edge) (n : ℕ) → sum_by (λ c. length (turned_by (clafer_from layout) edges c)) (numbers_below n) ≤ length edges
clafer_edges_few layout edges n =
    let turn = sum-each (λ c. length (turned_by (clafer_from layout) edges c)) (λ c. sum_by (λ (e : Edge). cond (clafer_from layout e == c) 1 0) edges) (numbers_below n) (λ c. turned_count (clafer_from layout) edges c) in
    let swap = sum-swap (λ (c : ℕ) (e : Edge). cond (clafer_from layout e == c) 1 0) (numbers_below n) edges in
    let less = sum_by-le-sum_by (λ (e : Edge). sum_by (λ c. cond (clafer_from layout e == c) 1 0) (numbers_below n)) (λ e. 1) edges (λ e. once (clafer_from layout e)) in
    let all = sum-constant 1 edges in
    omega (arith, turn, swap, less, all)
  where
    once : (k : ℕ) → sum_by (λ c. cond (k == c) 1 0) (numbers_below n) ≤ 1
    once k =
        let turn = sum-each (λ c. cond (k == c) 1 0) (λ c. cond (c == k) 1 0) (numbers_below n) (λ c. ap (λ b. cond b 1 0) (eq_turned k c)) in
        let one = one_term (λ c. 1) k n in
        omega (arith, turn, one)

pub children_few : (clafers : List Clafer) (scopes : Scopes) (layout : Layout) (asked : ℕ → Bool) → Fits clafers scopes layout → (s : ℕ) → child_slots layout asked s ≤ room_of clafers scopes asked
children_few clafers scopes layout asked fit s =
    let counted = edges_counted (owners clafers) layout.slots layout.parents (λ a b. (b == s) && asked (slot_clafer layout.slots a)) fit.parents in
    let rows = below-less (λ a. sum_by (λ b. cond (has (owners clafers (slot_clafer layout.slots a)) (slot_clafer layout.slots b)) (cond ((b == s) && asked (slot_clafer layout.slots a)) 1 0) 0) (numbers_below (length layout.slots)))
    (λ a. cond (asked (slot_clafer layout.slots a)) 1 0) (length layout.slots) (λ a l. row (λ b. has (owners clafers (slot_clafer layout.slots a)) (slot_clafer layout.slots b)) (asked (slot_clafer layout.slots a))) in
    let whole = slots_of clafers scopes layout.slots asked fit.slots in
    omega (arith, counted, rows, whole)
  where
    one : (h e q : Bool) → cond h (cond (e && q) 1 0) 0 ≤ cond e (cond q 1 0) 0
    one true true q = omega arith
    one true false q = omega arith
    one false e q = omega arith

    row : (h : ℕ → Bool) (q : Bool) → sum_by (λ b. cond (h b) (cond ((b == s) && q) 1 0) 0) (numbers_below (length layout.slots)) ≤ cond q 1 0
    row h q =
        let less = below-less (λ b. cond (h b) (cond ((b == s) && q) 1 0) 0) (λ b. cond (b == s) (cond q 1 0) 0) (length layout.slots) (λ b l. one (h b) (b == s) q) in
        let single = one_term (λ b. cond q 1 0) s (length layout.slots) in
        omega (arith, less, single)
