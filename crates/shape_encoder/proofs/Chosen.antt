-- Slots of nested clafers, in the form that takes fewer wires.
use Rattle.std.proofs.Common.{◌≡◌, ℕ, zero, suc, ◌+◌, ◌*◌, ◌-◌, ◌^◌, ◌<◌, ◌≤◌, Bool, true, false, cond, not, ◌&&◌, ◌||◌, List, [], ◌∷◌, length, take, get_or, min, Some, refl, sym, ap, ◌∙◌, subst, arith, inl, inr}
use Rattle.std.specs.Prelude.{slice_get, ◌==◌, is_some}
use Rattle.std.specs.List.{All, list_all, sum_by}
use Rattle.std.proofs.Math.Nat.{min-eq_left, min-eq_right}
use Rattle.std.proofs.lemmas.Bool.{cases_lt}
use Rattle.std.proofs.lemmas.Option.{slice_get-get_or}
use Rattle.std.proofs.lemmas.List.{take_all}
use Rattle.std.proofs.lemmas.List.Elements.{All-head, All-tail, All-take}
use Rattle.bool_circuit.specs.declared.gate.Wire.{Wire}
use Rattle.bool_circuit.specs.declared.gate.Gate.{Gate}
use Rattle.bool_circuit.specs.Circuit.{wire_value, entry, IsWireOf, Extends}
use Rattle.clf_tree.specs.declared.model.Clafer.{Clafer}
use Rattle.clf_tree.specs.Lists.{numbers_below, each_two}
use Rattle.clf_tree.specs.Hierarchy.{parent_of}
use Rattle.set_bits.specs.declared.layout.Edge.{Edge}
use Rattle.set_bits.specs.declared.layout.Layout.{Layout}
use Rattle.set_bits.specs.Fitting.{slot_clafer}
use Rattle.shown_instance.specs.Consistent.{has_taken}
use Rattle.shown_instance.specs.Distinct.{leads_there, lead_together}
use Rattle.shown_instance.proofs.Order.{together}
use Rattle.shown_instance.proofs.Placing.{same_truth, implied}
use Rattle.shown_instance.proofs.Whole.{numbers_at, numbers_from}
use Rattle.shown_instance.proofs.Differing.{each_from, each_at, implies}
use Rattle.shape_encoder.specs.Reading.{IsBit}
use Rattle.shape_encoder.specs.Comparing.{list_at, turned_from, HoldsEdges, IsOrdered, kin_of, kin_differ, nested_differ, is_paired, meet, AreTies, are_twins, twin_cost, place_cost, twins_cost, counted_cost, siblings_cost, told, AreCostsSoFar, KinDifferSoFar, NestedDiffer, pairs_cost, compared_cost, sibling_cost, kin_cost, kins_cost}
use Rattle.shape_encoder.proofs.Steps.{and_true, kept_two, list_all-push, numbers-push, sum-push}
use Rattle.shape_encoder.proofs.Compared.{any_same, turned_any, list_bits, same_is, same_number, or_true, others_differ, unpaired_differ, paired_differ, cost_step, sum_below-push}
use Rattle.shape_encoder.proofs.Grouped.{kin_known, kin_clafers, kin_before, sum_on, pairs_within}
use Rattle.shape_encoder.proofs.Paired.{slot_is, twins_cost-push}

-- ---- numbers as far as a word holds them

min_small : (n m : ℕ) → n ≤ m → min n m ≡ n
min_small n m h = min-eq_left h

min_large : (n m : ℕ) → m ≤ n → min n m ≡ m
min_large n m h = min-eq_right h

capped_add : (a b m : ℕ) → min (min a m + b) m ≡ min (a + b) m
capped_add a b m = elim (cases_lt a m) [
  | inl l ↦ let e : min a m ≡ a = min_small a m (omega (arith, l)) in ap (λ n. min (n + b) m) e
  | inr g ↦
      let e : min a m ≡ m = min_large a m g in
      ap (λ n. min (n + b) m) e ∙ min_large (m + b) m (omega arith) ∙ sym (min_large (a + b) m (omega (arith, g)))
]

capped_both : (a b m : ℕ) → min (min a m + min b m) m ≡ min (a + b) m
capped_both a b m =
    let s : min a m + min b m ≡ min b m + min a m = omega arith in
    let t : b + min a m ≡ min a m + b = omega arith in
    ap (λ n. min n m) s ∙ capped_add b (min a m) m ∙ ap (λ n. min n m) t ∙ capped_add a b m

-- what is told of two sums
told_sum : (a b c x y : ℕ) → a ≡ told x → b ≡ told y → c ≡ told (a + b) → c ≡ told (x + y)
told_sum a b c x y e f g = g ∙ ap (λ n. told (n + b)) e ∙ ap (λ n. told (told x + n)) f ∙ capped_both x y (2 ^ 64 - 1)

pub no_costs : (parents targets : List (List Edge)) (kin : List ℕ) → AreCostsSoFar parents targets kin 0 0 0 0
no_costs parents targets kin = record { counted_is = refl; paired_is = refl; beside_is = refl }

pub costs_more : (parents targets : List (List Edge)) (kin : List ℕ) (n slot counted paired beside counted_next paired_next beside_next : ℕ) (ps ts : List Edge) → slice_get kin n ≡ Some slot → ps ≡ list_at parents slot → ts ≡ list_at targets slot
    → AreCostsSoFar parents targets kin n counted paired beside → counted_next ≡ told (counted + told (length ps * (4 * length ts + 3) + 3))
    → paired_next ≡ told (paired + told (length ps + length ts + beside)) → beside_next ≡ told (beside + told (2 * length ps + 2 * length ts + 5))
    → AreCostsSoFar parents targets kin (n + 1) counted_next paired_next beside_next
costs_more parents targets kin n slot counted paired beside counted_next paired_next beside_next ps ts get p t s c d b = record {
  counted_is =
      told_sum counted (told (counted_cost parents targets slot)) counted_next (siblings_cost parents targets (take n kin)) (counted_cost parents targets slot) s.counted_is refl
      (c ∙ ap (λ es. told (counted + told (length es * (4 * length ts + 3) + 3))) p ∙ ap (λ es. told (counted + told (length (list_at parents slot) * (4 * length es + 3) + 3))) t)
      ∙ ap told (sym (sum-push (counted_cost parents targets) kin n slot get));
  paired_is =
      told_sum paired (told (place_cost parents targets kin n)) paired_next (twins_cost parents targets kin n) (place_cost parents targets kin n) s.paired_is refl (d ∙ ap (λ x. told (paired + x)) own)
      ∙ ap told (sym (twins_cost-push parents targets kin n));
  beside_is =
      told_sum beside (told (twin_cost parents targets slot)) beside_next (sum_by (twin_cost parents targets) (take n kin)) (twin_cost parents targets slot) s.beside_is refl
      (b ∙ ap (λ es. told (beside + told (2 * length es + 2 * length ts + 5))) p ∙ ap (λ es. told (beside + told (2 * length (list_at parents slot) + 2 * length es + 5))) t)
      ∙ ap told (sym (sum-push (twin_cost parents targets) kin n slot get));
}
  where
    before : ℕ
    before = sum_by (twin_cost parents targets) (take n kin)

    moved : (p t b : ℕ) → p + t + b ≡ b + (p + t)
    moved p t b = omega arith

    own : told (length ps + length ts + beside) ≡ told (place_cost parents targets kin n)
    own =
        ap told (moved (length ps) (length ts) beside) ∙ ap (λ x. told (x + (length ps + length ts))) s.beside_is ∙ capped_add before (length ps + length ts) (2 ^ 64 - 1) ∙ ap told (sym (moved (length ps) (length ts) before))
        ∙ ap (λ es. told (length es + length ts + before)) (p ∙ ap (list_at parents) (sym (slot_is kin n slot get))) ∙ ap (λ es. told (length (list_at parents (get_or kin n 0)) + length es + before)) (t ∙ ap (list_at targets) (sym (slot_is kin n slot get)))

-- ---- the tables of a layout's edges

pub layout_ties : (gates : List Gate) (layout : Layout) (c : ℕ) (kin : List ℕ) (parents targets : List (List Edge)) → kin ≡ kin_of layout c → HoldsEdges layout.parents (length layout.slots) parents → HoldsEdges layout.targets (length layout.slots) targets
    → All (λ e. IsBit gates e.here) layout.parents → All (λ e. IsBit gates e.here) layout.targets → AreTies gates kin parents targets
layout_ties gates layout c kin parents targets e ps ts pb tb = record {
  parents_known = inside parents ps.len;
  targets_known = inside targets ts.len;
  parent_bits = λ i l. list_bits gates layout.parents (list_at parents i) i (ps.at i (let s = ps.len in omega (arith, l, s))) pb;
  target_bits = λ i l. list_bits gates layout.targets (list_at targets i) i (ts.at i (let s = ts.len in omega (arith, l, s))) tb;
}
  where
    inside : (table : List (List Edge)) → length table ≡ length layout.slots → All (λ i. i < length table) kin
    inside table s = subst (λ xs. All (λ i. i < length table) xs) (sym e) (λ k d l. let m = kin_known layout c k d l in omega (arith, m, s))

-- ---- costs of the slots of a clafer

module _ (layout : Layout) (parents targets : List (List Edge)) (ps : HoldsEdges layout.parents (length layout.slots) parents) (ts : HoldsEdges layout.targets (length layout.slots) targets) where
  twin_cost_is : (j : ℕ) → j < length layout.slots → twin_cost parents targets j ≡ 2 * length (turned_from layout.parents j) + 2 * length (turned_from layout.targets j) + 5
  twin_cost_is j l = ap (λ es. 2 * length es + 2 * length (list_at targets j) + 5) (ps.at j l) ∙ ap (λ es. 2 * length (turned_from layout.parents j) + 2 * length es + 5) (ts.at j l)

  pub siblings_cost_is : (c : ℕ) → siblings_cost parents targets (kin_of layout c) ≡ sum_by (sibling_cost layout) (kin_of layout c)
  siblings_cost_is c = sum_on (counted_cost parents targets) (sibling_cost layout) (kin_of layout c) (λ k d l. one (get_or (kin_of layout c) k d) (kin_known layout c k d l))
    where
      one : (i : ℕ) → i < length layout.slots → counted_cost parents targets i ≡ sibling_cost layout i
      one i l = ap (λ es. length es * (4 * length (list_at targets i) + 3) + 3) (ps.at i l) ∙ ap (λ es. length (turned_from layout.parents i) * (4 * length es + 3) + 3) (ts.at i l)

  place_cost_here : (c k : ℕ) → k < length (kin_of layout c) → place_cost parents targets (kin_of layout c) k ≡ compared_cost layout (get_or (kin_of layout c) k 0)
  place_cost_here c k l =
      let i : ℕ = get_or (kin_of layout c) k 0 in
      let known = kin_known layout c k 0 l in
      let p : length (list_at parents i) ≡ length (turned_from layout.parents i) = ap length (ps.at i known) in
      let t : length (list_at targets i) ≡ length (turned_from layout.targets i) = ap length (ts.at i known) in
      let same : sum_by (twin_cost parents targets) (take k (kin_of layout c)) ≡ pairs_cost layout i i =
      sum_on (twin_cost parents targets) (λ j. 2 * length (turned_from layout.parents j) + 2 * length (turned_from layout.targets j) + 5) (take k (kin_of layout c))
      (λ m d n. twin_cost_is (get_or (take k (kin_of layout c)) m d) (All-take (λ j. j < length layout.slots) k (kin_of layout c) (kin_known layout c) m d n))
      ∙ ap (sum_by (λ j. 2 * length (turned_from layout.parents j) + 2 * length (turned_from layout.targets j) + 5)) (kin_before layout c k l)
      ∙ sym (pairs_within layout c i (kin_clafers layout c k 0 l)) in
      omega (arith, p, t, same)

  pub twins_cost_is : (c : ℕ) → twins_cost parents targets (kin_of layout c) (length (kin_of layout c)) ≡ sum_by (compared_cost layout) (kin_of layout c)
  twins_cost_is c = so_far (length (kin_of layout c)) (omega arith) ∙ ap (sum_by (compared_cost layout)) (take_all (length (kin_of layout c)) (kin_of layout c) (omega arith))
    where
      so_far : (n : ℕ) → n ≤ length (kin_of layout c) → twins_cost parents targets (kin_of layout c) n ≡ sum_by (compared_cost layout) (take n (kin_of layout c))
      so_far zero h = refl
      so_far (suc n) h =
          let e : suc n ≡ n + 1 = omega arith in
          let inside : n < length (kin_of layout c) = omega (arith, h) in
          let a = ap (twins_cost parents targets (kin_of layout c)) e ∙ twins_cost-push parents targets (kin_of layout c) n in
          let b = ap (λ m. sum_by (compared_cost layout) (take m (kin_of layout c))) e ∙ sum-push (compared_cost layout) (kin_of layout c) n (get_or (kin_of layout c) n 0) (at n inside) in
          let r = so_far n (omega (arith, h)) in
          let p = place_cost_here c n inside in
          omega (arith, a, b, r, p)
        where
          at : (m : ℕ) → m < length (kin_of layout c) → slice_get (kin_of layout c) m ≡ Some (get_or (kin_of layout c) m 0)
          at m l = slice_get-get_or (kin_of layout c) m 0 l

  -- ---- which of them have twins

  meet_is : (es : List Edge) (bits : List Bool) (j i : ℕ) → meet bits (turned_from es j) (turned_from es i) ≡ lead_together es bits j i
  meet_is es bits j i =
      any_same (λ (e : Edge). has_taken (turned_from es i) bits e.from && entry bits e.here) (λ e. leads_there es bits i e.from && entry bits e.here) (turned_from es j) (λ e. ap (λ b. b && entry bits e.here) (turned_any bits (λ n. n == e.from) es i))
      ∙ turned_any bits (leads_there es bits i) es j

  twins_are : (bits : List Bool) (j i : ℕ) → j < length layout.slots → i < length layout.slots → are_twins parents targets bits j i ≡ (lead_together layout.parents bits j i && lead_together layout.targets bits j i)
  twins_are bits j i k l =
      ap (λ es. meet bits es (list_at parents i) && meet bits (list_at targets j) (list_at targets i)) (ps.at j k) ∙ ap (λ es. meet bits (turned_from layout.parents j) es && meet bits (list_at targets j) (list_at targets i)) (ps.at i l)
      ∙ ap (λ es. meet bits (turned_from layout.parents j) (turned_from layout.parents i) && meet bits es (list_at targets i)) (ts.at j k) ∙ ap (λ es. meet bits (turned_from layout.parents j) (turned_from layout.parents i) && meet bits (turned_from layout.targets j) es) (ts.at i l)
      ∙ ap (λ b. b && meet bits (turned_from layout.targets j) (turned_from layout.targets i)) (meet_is layout.parents bits j i) ∙ ap (λ b. lead_together layout.parents bits j i && b) (meet_is layout.targets bits j i)

  pub kin_value : (clafers : List Clafer) (c : ℕ) (kin : List ℕ) → kin ≡ kin_of layout c → is_paired clafers c ≡ true → (bits : List Bool) → each_two (λ j i. not (are_twins parents targets bits j i)) (take (length kin) kin) ≡ kin_differ clafers layout bits c
  kin_value clafers c kin same e bits =
      ap (each_two (λ j i. not (are_twins parents targets bits j i))) (take_all (length kin) kin (omega arith) ∙ same)
      ∙ two_same (λ j i. not (are_twins parents targets bits j i)) (nested_differ clafers layout bits) (kin_of layout c) (kin_known layout c) (kin_clafers layout c)
      (λ j i k l f g. ap not (twins_are bits j i k l) ∙ paired_differ clafers layout bits c j i e f g)
    where
      all_on : (t u : ℕ → Bool) (xs : List ℕ) → All (λ i. i < length layout.slots) xs → All (λ i. slot_clafer layout.slots i ≡ c) xs → ((i : ℕ) → i < length layout.slots → slot_clafer layout.slots i ≡ c → t i ≡ u i) → list_all t xs ≡ list_all u xs
      all_on t u [] a b h = refl
      all_on t u (x ∷ xs) a b h =
          ap (λ v. v && list_all t xs) (h x (All-head (λ i. i < length layout.slots) x xs a) (All-head (λ i. slot_clafer layout.slots i ≡ c) x xs b))
          ∙ ap (λ v. u x && v) (all_on t u xs (All-tail (λ i. i < length layout.slots) x xs a) (All-tail (λ i. slot_clafer layout.slots i ≡ c) x xs b) h)

      two_same : (t u : ℕ → ℕ → Bool) (xs : List ℕ) → All (λ i. i < length layout.slots) xs → All (λ i. slot_clafer layout.slots i ≡ c) xs
          → ((j i : ℕ) → j < length layout.slots → i < length layout.slots → slot_clafer layout.slots j ≡ c → slot_clafer layout.slots i ≡ c → t j i ≡ u j i) → each_two t xs ≡ each_two u xs
      two_same t u [] a b h = refl
      two_same t u (x ∷ xs) a b h =
          let inside = All-head (λ i. i < length layout.slots) x xs a in
          let mine = All-head (λ i. slot_clafer layout.slots i ≡ c) x xs b in
          let others = All-tail (λ i. i < length layout.slots) x xs a in
          let theirs = All-tail (λ i. slot_clafer layout.slots i ≡ c) x xs b in
          ap (λ v. v && each_two t xs) (all_on (t x) (u x) xs others theirs (λ i l g. h x i inside l mine g)) ∙ ap (λ v. list_all (u x) xs && v) (two_same t u xs others theirs h)

-- a clafer that is not to be compared
pub unpaired_kin : (clafers : List Clafer) (layout : Layout) (c : ℕ) (all : Bool) → is_paired clafers c ≡ false → (bits : List Bool) → all ≡ (all && kin_differ clafers layout bits c)
unpaired_kin clafers layout c all e bits = sym (ap (λ b. all && b) (free (kin_of layout c) (kin_clafers layout c)) ∙ and_true all)
  where
    one : (j : ℕ) (xs : List ℕ) → All (λ i. slot_clafer layout.slots i ≡ c) xs → list_all (nested_differ clafers layout bits j) xs ≡ true
    one j [] h = refl
    one j (x ∷ xs) h = together (nested_differ clafers layout bits j x) (list_all (nested_differ clafers layout bits j) xs) (unpaired_differ clafers layout bits x (ap (is_paired clafers) (All-head (λ i. slot_clafer layout.slots i ≡ c) x xs h) ∙ e) j) (one j xs (All-tail (λ i. slot_clafer layout.slots i ≡ c) x xs h))

    free : (xs : List ℕ) → All (λ i. slot_clafer layout.slots i ≡ c) xs → each_two (nested_differ clafers layout bits) xs ≡ true
    free [] h = refl
    free (x ∷ xs) h = together (list_all (nested_differ clafers layout bits x) xs) (each_two (nested_differ clafers layout bits) xs) (one x xs (All-tail (λ i. slot_clafer layout.slots i ≡ c) x xs h)) (free xs (All-tail (λ i. slot_clafer layout.slots i ≡ c) x xs h))

pub paired_is : (clafers : List Clafer) (c : ℕ) (paired : Bool) {b : Bool} → paired ≡ is_paired clafers c → paired ≡ b → is_paired clafers c ≡ b
paired_is clafers c paired e f = sym e ∙ f

-- what the wires of a clafer's slots cost
pub kin_cost_is : (clafers : List Clafer) (layout : Layout) (parents targets : List (List Edge)) (c : ℕ) (kin : List ℕ) → is_paired clafers c ≡ true → kin ≡ kin_of layout c → HoldsEdges layout.parents (length layout.slots) parents → HoldsEdges layout.targets (length layout.slots) targets
    → min (siblings_cost parents targets kin) (twins_cost parents targets kin (length kin)) ≡ kin_cost clafers layout c
kin_cost_is clafers layout parents targets c kin e same ps ts =
    ap (λ xs. min (siblings_cost parents targets xs) (twins_cost parents targets xs (length xs))) same
    ∙ ap (λ n. min n (twins_cost parents targets (kin_of layout c) (length (kin_of layout c)))) (siblings_cost_is layout parents targets ps ts c) ∙ ap (min (sum_by (sibling_cost layout) (kin_of layout c))) (twins_cost_is layout parents targets ps ts c)
    ∙ sym (ap (λ b. cond b (min (sum_by (sibling_cost layout) (kin_of layout c)) (sum_by (compared_cost layout) (kin_of layout c))) 0) e)

-- ---- all clafers

pub none_differ : (old new : List Gate) (clafers : List Clafer) (layout : Layout) (wire : Wire) → Extends old new 1 → IsWireOf new wire → ((bits : List Bool) → wire_value new wire bits ≡ true) → KinDifferSoFar old clafers layout 0 (kins_cost clafers layout 0 + 1) new wire
none_differ old new clafers layout wire x w v = record { extends = x; is_wire = w; value = v }

pub differ_more : (old mid new : List Gate) (clafers : List Clafer) (layout : Layout) (n : ℕ) (all wire : Wire) → KinDifferSoFar old clafers layout n (kins_cost clafers layout n + 1) mid all → Extends mid new (kin_cost clafers layout n) → IsWireOf new wire
    → ((bits : List Bool) → wire_value new wire bits ≡ (wire_value mid all bits && kin_differ clafers layout bits n)) → KinDifferSoFar old clafers layout (n + 1) (kins_cost clafers layout (n + 1) + 1) new wire
differ_more old mid new clafers layout n all wire s x w v = record {
  extends = cost_step old mid new (kins_cost clafers layout n) (kin_cost clafers layout n) (kins_cost clafers layout (n + 1)) (let e = sum_below-push (kin_cost clafers layout) n in omega (arith, e)) s.extends x;
  is_wire = w;
  value = λ bits.
      v bits ∙ ap (λ b. b && kin_differ clafers layout bits n) (s.value bits)
      ∙ sym (ap (list_all (kin_differ clafers layout bits)) (numbers-push n) ∙ list_all-push (kin_differ clafers layout bits) (numbers_below n) n);
}

-- slots of all clafers differ where those of each one do
kin_told : (clafers : List Clafer) (layout : Layout) (bits : List Bool) → IsOrdered clafers layout → list_all (kin_differ clafers layout bits) (numbers_below (length clafers)) ≡ each_two (nested_differ clafers layout bits) (numbers_below (length layout.slots))
kin_told clafers layout bits o =
    same_truth (list_all (kin_differ clafers layout bits) (numbers_below (length clafers))) (each_two (nested_differ clafers layout bits) (numbers_below (length layout.slots)))
    (λ t. each_from (nested_differ clafers layout bits) 0 (length layout.slots) (λ j i low before high. at t j i before (omega (arith, high)) (slot_clafer layout.slots j == slot_clafer layout.slots i) refl))
    (λ t. numbers_from (kin_differ clafers layout bits) 0 (length clafers) (λ c low high. kept_two (is_of c) (nested_differ clafers layout bits) (numbers_below (length layout.slots))
    ∙ each_from (λ j i. not (is_of c j && is_of c i) || nested_differ clafers layout bits j i) 0 (length layout.slots) (λ j i low before high. implies (is_of c j && is_of c i) (nested_differ clafers layout bits j i) (λ s. each_at (nested_differ clafers layout bits) 0 (length layout.slots) j i t low before high))))
  where
    is_of : ℕ → ℕ → Bool
    is_of c i = slot_clafer layout.slots i == c

    at : list_all (kin_differ clafers layout bits) (numbers_below (length clafers)) ≡ true → (j i : ℕ) → j < i → i < length layout.slots → (b : Bool) → (slot_clafer layout.slots j == slot_clafer layout.slots i) ≡ b → nested_differ clafers layout bits j i ≡ true
    at t j i before high false e = ap (λ b. not (is_some (parent_of clafers (slot_clafer layout.slots j))) || b) (others_differ clafers layout bits j i e) ∙ or_true (not (is_some (parent_of clafers (slot_clafer layout.slots j))))
    at t j i before high true e =
        let c : ℕ = slot_clafer layout.slots i in
        let same : slot_clafer layout.slots j ≡ c = same_number (slot_clafer layout.slots j) c e in
        let mine : kin_differ clafers layout bits c ≡ true = numbers_at (kin_differ clafers layout bits) 0 (length clafers) c t (omega arith) (let k = o.known i high in omega (arith, k)) in
        let each : each_two (λ x y. not (is_of c x && is_of c y) || nested_differ clafers layout bits x y) (numbers_below (length layout.slots)) ≡ true = sym (kept_two (is_of c) (nested_differ clafers layout bits) (numbers_below (length layout.slots))) ∙ mine in
        implied (is_of c j && is_of c i) (nested_differ clafers layout bits j i) (each_at (λ x y. not (is_of c x && is_of c y) || nested_differ clafers layout bits x y) 0 (length layout.slots) j i each (omega arith) before (omega (arith, high)))
        (together (is_of c j) (is_of c i) (same_is (slot_clafer layout.slots j) c same) (same_is (slot_clafer layout.slots i) c refl))

pub whole_nested : (old new : List Gate) (clafers : List Clafer) (layout : Layout) (cost : ℕ) (wire : Wire) → IsOrdered clafers layout → KinDifferSoFar old clafers layout (length clafers) cost new wire → NestedDiffer old clafers layout cost new wire
whole_nested old new clafers layout cost wire o d = record { extends = d.extends; is_wire = d.is_wire; value = λ bits. d.value bits ∙ kin_told clafers layout bits o }
