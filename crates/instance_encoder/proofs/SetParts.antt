-- The parts of set references: at top level by edges, below parents and with integers by pairs.
use Rattle.std.proofs.Common.{◌≡◌, ◌≢◌, ℕ, zero, suc, ◌+◌, ◌*◌, ◌<◌, ◌≤◌, Bool, true, false, cond, List, [], length, take, max, get_or, refl, sym, ap, ◌∙◌, subst, arith, ◌⊎◌, inl, inr}
use Rattle.std.specs.Prelude.{◌==◌}
use Rattle.std.specs.Option.{option_map_or}
use Rattle.std.specs.List.{sum_by, count_by}
use Rattle.std.proofs.Math.Nat.{mul-le-mul_left}
use Rattle.std.proofs.lemmas.Bool.Decides.{eqb_tells}
use Rattle.std.proofs.lemmas.Option.{slice_get-get_or}
use Rattle.std.proofs.lemmas.List.Sums.{sum_by_more}
use Rattle.clf_tree.specs.declared.model.Clafer.{Clafer}
use Rattle.clf_tree.specs.declared.scopes.Scopes.{Scopes}
use Rattle.clf_tree.specs.Lists.{numbers_below}
use Rattle.clf_tree.specs.Hierarchy.{parent_of, target_of, refers_to_int}
use Rattle.clf_tree.specs.Nodes.{scope_of}
use Rattle.set_bits.specs.declared.layout.SlotBits.{SlotBits}
use Rattle.set_bits.specs.declared.layout.Layout.{Layout}
use Rattle.set_bits.specs.Fitting.{Fits, slot_clafer, value_width}
use Rattle.shown_instance.specs.Distinct.{tells_apart}
use Rattle.shape_encoder.specs.Comparing.{turned_by, turned_from, clafer_from, is_paired, is_counted, pair_cost, pairs_cost, slot_cost, slots_cost, single_cost, singles_cost, equal_cost, integer_pair_cost, integer_pairs_cost, own_value_cost, value_cost, values_cost}
use Rattle.instance_encoder.proofs.Totals.{sum-each, sum-add, sum-times, sum-filtered, sum-mapped, sum-places, below-less, below-more, pairs_twice}
use Rattle.instance_encoder.proofs.Slotted.{by_slots, by_clafers, regrouped, slots_of}
use Rattle.instance_encoder.proofs.Tied.{reach, one_term, slot_edges_few, clafer_edges_few}
use Rattle.instance_encoder.proofs.Roomed.{room_sum}
use Rattle.instance_encoder.proofs.LinearParts.{parent_edges, target_edges, targets_few, integers, slots_are}

-- ---- top-level clafers

pub singles_few : (clafers : List Clafer) (scopes : Scopes) (layout : Layout) → Fits clafers scopes layout → singles_cost clafers layout (length clafers) ≤ 6 * target_edges clafers scopes layout
singles_few clafers scopes layout fit =
    let less = below-less (single_cost clafers layout) (λ c. 6 * length (turned_by (clafer_from layout) layout.targets c)) (length clafers) (λ c l. at (is_counted clafers c) (6 * length (turned_by (clafer_from layout) layout.targets c))) in
    let times = sum-times 6 (λ c. length (turned_by (clafer_from layout) layout.targets c)) (numbers_below (length clafers)) in
    let each = clafer_edges_few layout layout.targets (length clafers) in
    let all = targets_few clafers scopes layout fit in
    omega (arith, less, times, each, all)
  where
    at : (b : Bool) (n : ℕ) → cond b n 0 ≤ n
    at true n = omega arith
    at false n = omega arith

-- ---- pairs of items of one kind

-- the pairs of the first n items, where a pair of one kind has as much as the kind says
abbrev pub kin_pairs : (ℕ → ℕ) → (ℕ → ℕ) → ℕ → ℕ
kin_pairs kind cost i = sum_by (λ j. cond (kind j == kind i) (cost (kind i)) 0) (numbers_below i)

pub kin_few : (kind cost : ℕ → ℕ) (n : ℕ) → 2 * sum_by (kin_pairs kind cost) (numbers_below n) ≤ sum_by (λ i. cost (kind i) * count_by (λ j. kind j == kind i) (numbers_below n)) (numbers_below n)
kin_few kind cost n =
    let twice = pairs_twice (λ j i. cond (kind j == kind i) (cost (kind i)) 0) same n in
    let rows = sum-each (λ i. sum_by (λ j. cond (kind j == kind i) (cost (kind i)) 0) (numbers_below n)) (λ i. cost (kind i) * count_by (λ j. kind j == kind i) (numbers_below n)) (numbers_below n) row in
    omega (arith, twice, rows)
  where
    same : (j i : ℕ) → cond (kind j == kind i) (cost (kind i)) 0 ≡ cond (kind i == kind j) (cost (kind j)) 0
    same j i = by (eqb_tells (kind j) (kind i)) (eqb_tells (kind i) (kind j))
      where
        by : (((kind j == kind i) ≡ true) × (kind j ≡ kind i)) ⊎ (((kind j == kind i) ≡ false) × (kind j ≢ kind i)) → (((kind i == kind j) ≡ true) × (kind i ≡ kind j)) ⊎ (((kind i == kind j) ≡ false) × (kind i ≢ kind j))
            → cond (kind j == kind i) (cost (kind i)) 0 ≡ cond (kind i == kind j) (cost (kind j)) 0
        by (inl e) (inl f) = ap (λ b. cond b (cost (kind i)) 0) e.0 ∙ ap cost f.1 ∙ sym (ap (λ b. cond b (cost (kind j)) 0) f.0)
        by (inl e) (inr f) = absurd (f.1 (sym e.1))
        by (inr e) (inl f) = absurd (e.1 (sym f.1))
        by (inr e) (inr f) = ap (λ b. cond b (cost (kind i)) 0) e.0 ∙ sym (ap (λ b. cond b (cost (kind j)) 0) f.0)

    one : (m : ℕ) (b : Bool) → cond b m 0 ≡ m * cond b 1 0
    one m true = omega arith
    one m false = omega arith

    row : (i : ℕ) → sum_by (λ j. cond (kind j == kind i) (cost (kind i)) 0) (numbers_below n) ≡ cost (kind i) * count_by (λ j. kind j == kind i) (numbers_below n)
    row i =
        sum-each (λ j. cond (kind j == kind i) (cost (kind i)) 0) (λ j. cost (kind i) * cond (kind j == kind i) 1 0) (numbers_below n) (λ j. one (cost (kind i)) (kind j == kind i))
        ∙ sum-times (cost (kind i)) (λ j. cond (kind j == kind i) 1 0) (numbers_below n)

-- a clafer has no more slots than its scope says
own_slots : (clafers : List Clafer) (scopes : Scopes) (layout : Layout) → Fits clafers scopes layout → (c : ℕ) → count_by (λ i. slot_clafer layout.slots i == c) (numbers_below (length layout.slots)) ≤ scope_of scopes c
own_slots clafers scopes layout fit c =
    let all = slots_of clafers scopes layout.slots (λ d. d == c) fit.slots in
    let sums = room_sum clafers scopes (λ d. d == c) in
    let one = one_term (scope_of scopes) c (length clafers) in
    omega (arith, all, sums, one)

-- ---- slots of nested clafers

-- for two slots of a clafer
abbrev pub twin_share : List Clafer → Scopes → ℕ → ℕ
twin_share clafers scopes c = cond (is_paired clafers c) (2 * reach clafers scopes (parent_of clafers c) + 2 * reach clafers scopes (target_of clafers c) + 5) 0

nested_slot : (clafers : List Clafer) (scopes : Scopes) (layout : Layout) → Fits clafers scopes layout → (i : ℕ)
    → slot_cost clafers layout i ≤ (4 * reach clafers scopes (parent_of clafers (slot_clafer layout.slots i)) + 4 * reach clafers scopes (target_of clafers (slot_clafer layout.slots i)) + 4) + kin_pairs (slot_clafer layout.slots) (twin_share clafers scopes) i
nested_slot clafers scopes layout fit i = by (is_paired clafers (slot_clafer layout.slots i)) refl
  where
    parents : (j : ℕ) → length (turned_from layout.parents j) ≤ reach clafers scopes (parent_of clafers (slot_clafer layout.slots j))
    parents j = slot_edges_few clafers scopes layout.slots layout.parents (parent_of clafers) fit.slots fit.parents j

    targets : (j : ℕ) → length (turned_from layout.targets j) ≤ reach clafers scopes (target_of clafers (slot_clafer layout.slots j))
    targets j = slot_edges_few clafers scopes layout.slots layout.targets (target_of clafers) fit.slots fit.targets j

    pair : is_paired clafers (slot_clafer layout.slots i) ≡ true → (j : ℕ) → pair_cost layout j i ≤ cond (slot_clafer layout.slots j == slot_clafer layout.slots i) (twin_share clafers scopes (slot_clafer layout.slots i)) 0
    pair e j = at (eqb_tells (slot_clafer layout.slots j) (slot_clafer layout.slots i))
      where
        share : ℕ → ℕ
        share c = 2 * reach clafers scopes (parent_of clafers c) + 2 * reach clafers scopes (target_of clafers c) + 5

        at : (((slot_clafer layout.slots j == slot_clafer layout.slots i) ≡ true) × (slot_clafer layout.slots j ≡ slot_clafer layout.slots i)) ⊎ (((slot_clafer layout.slots j == slot_clafer layout.slots i) ≡ false) × (slot_clafer layout.slots j ≢ slot_clafer layout.slots i))
            → pair_cost layout j i ≤ cond (slot_clafer layout.slots j == slot_clafer layout.slots i) (twin_share clafers scopes (slot_clafer layout.slots i)) 0
        at (inl f) =
            let left : pair_cost layout j i ≡ 2 * length (turned_from layout.parents j) + 2 * length (turned_from layout.targets j) + 5 = ap (λ b. cond b (2 * length (turned_from layout.parents j) + 2 * length (turned_from layout.targets j) + 5) 0) f.0 in
            let right : cond (slot_clafer layout.slots j == slot_clafer layout.slots i) (twin_share clafers scopes (slot_clafer layout.slots i)) 0 ≡ share (slot_clafer layout.slots i) =
            ap (λ b. cond b (twin_share clafers scopes (slot_clafer layout.slots i)) 0) f.0 ∙ ap (λ b. cond b (share (slot_clafer layout.slots i)) 0) e in
            let same : share (slot_clafer layout.slots j) ≡ share (slot_clafer layout.slots i) = ap share f.1 in
            let a = parents j in
            let b = targets j in
            let whole : share (slot_clafer layout.slots j) ≡ 2 * reach clafers scopes (parent_of clafers (slot_clafer layout.slots j)) + 2 * reach clafers scopes (target_of clafers (slot_clafer layout.slots j)) + 5 = refl in
            omega (arith, left, right, same, a, b, whole)
        at (inr f) =
            let left : pair_cost layout j i ≡ 0 = ap (λ b. cond b (2 * length (turned_from layout.parents j) + 2 * length (turned_from layout.targets j) + 5) 0) f.0 in
            omega (arith, left)

    by : (b : Bool) → is_paired clafers (slot_clafer layout.slots i) ≡ b
        → cond b (((4 * length (turned_from layout.parents i) + 1) + (4 * length (turned_from layout.targets i) + 1)) + (pairs_cost layout i i + 1) + 1) 0
        ≤ (4 * reach clafers scopes (parent_of clafers (slot_clafer layout.slots i)) + 4 * reach clafers scopes (target_of clafers (slot_clafer layout.slots i)) + 4) + kin_pairs (slot_clafer layout.slots) (twin_share clafers scopes) i
    by false e = omega arith
    by true e =
        let a = parents i in
        let b = targets i in
        let c = below-less (λ j. pair_cost layout j i) (λ j. cond (slot_clafer layout.slots j == slot_clafer layout.slots i) (twin_share clafers scopes (slot_clafer layout.slots i)) 0) i (λ j l. pair e j) in
        omega (arith, a, b, c)

pub nested_few : (clafers : List Clafer) (scopes : Scopes) (layout : Layout) → Fits clafers scopes layout
    → 2 * slots_cost clafers layout (length layout.slots)
    ≤ 2 * (4 * parent_edges clafers scopes layout + 4 * target_edges clafers scopes layout + 4 * length layout.slots) + by_clafers clafers scopes (λ c. twin_share clafers scopes c * scope_of scopes c)
nested_few clafers scopes layout fit =
    let less = below-less (slot_cost clafers layout) (λ i. ((4 * parents i + 4 * targets i) + 4 * 1) + pairs i) (length layout.slots) (λ i l. each i) in
    let add = sum-add (λ i. (4 * parents i + 4 * targets i) + 4 * 1) pairs (numbers_below (length layout.slots)) in
    let linear = sum-add (λ i. 4 * parents i + 4 * targets i) (λ i. 4 * 1) (numbers_below (length layout.slots)) in
    let edges = sum-add (λ i. 4 * parents i) (λ i. 4 * targets i) (numbers_below (length layout.slots)) in
    let a = sum-times 4 parents (numbers_below (length layout.slots)) in
    let b = sum-times 4 targets (numbers_below (length layout.slots)) in
    let c = sum-times 4 (λ (i : ℕ). 1) (numbers_below (length layout.slots)) in
    let d = slots_are layout in
    let twice = kin_few (slot_clafer layout.slots) (twin_share clafers scopes) (length layout.slots) in
    let kin = below-less (λ i. share i * count_by (λ j. slot_clafer layout.slots j == slot_clafer layout.slots i) (numbers_below (length layout.slots))) (λ i. share i * scope_of scopes (slot_clafer layout.slots i)) (length layout.slots)
    (λ i l. mul-le-mul_left (share i) (own_slots clafers scopes layout fit (slot_clafer layout.slots i))) in
    let whole = regrouped clafers scopes layout.slots (λ c. twin_share clafers scopes c * scope_of scopes c) fit.slots in
    omega (arith, less, add, linear, edges, a, b, c, d, twice, kin, whole)
  where
    parents : ℕ → ℕ
    parents i = reach clafers scopes (parent_of clafers (slot_clafer layout.slots i))

    targets : ℕ → ℕ
    targets i = reach clafers scopes (target_of clafers (slot_clafer layout.slots i))

    share : ℕ → ℕ
    share i = twin_share clafers scopes (slot_clafer layout.slots i)

    pairs : ℕ → ℕ
    pairs i = kin_pairs (slot_clafer layout.slots) (twin_share clafers scopes) i

    each : (i : ℕ) → slot_cost clafers layout i ≤ ((4 * parents i + 4 * targets i) + 4 * 1) + pairs i
    each i = nested_slot clafers scopes layout fit i

-- ---- integers

-- for two integers of a clafer
abbrev pub equal_share : List Clafer → Scopes → ℕ → ℕ
equal_share clafers scopes c = cond (tells_apart clafers c) (2 * reach clafers scopes (parent_of clafers c) + 4 * value_width scopes + 10) 0

abbrev value_at : Layout → ℕ → SlotBits
value_at layout k = get_or layout.values k (record { slot = 0; bits = [] })

-- the clafer of an integer
abbrev value_clafer : Layout → ℕ → ℕ
value_clafer layout k = slot_clafer layout.slots (value_at layout k).slot

sum-taken : {X : Type 0} (f : X → ℕ) (d : X) (xs : List X) (k : ℕ) → k ≤ length xs → sum_by f (take k xs) ≡ sum_by (λ j. f (get_or xs j d)) (numbers_below k)
sum-taken f d xs zero h = refl
sum-taken f d xs (suc k) h =
    let e : suc k ≡ k + 1 = omega arith in
    ap (λ n. sum_by f (take n xs)) e ∙ sum_by_more f xs k d (omega (arith, h)) ∙ ap (λ n. n + f (get_or xs k d)) (sum-taken f d xs k (omega (arith, h)))
    ∙ sym (below-more (λ j. f (get_or xs j d)) k) ∙ ap (λ n. sum_by (λ j. f (get_or xs j d)) (numbers_below n)) (sym e)

-- what the integers have in all, where each has as much as its clafer says
values_sum : (clafers : List Clafer) (scopes : Scopes) (layout : Layout) → Fits clafers scopes layout → (f : ℕ → ℕ)
    → sum_by (λ k. f (value_clafer layout k)) (numbers_below (length layout.values)) ≡ by_slots layout.slots (λ c. cond (refers_to_int clafers c) (f c) 0)
values_sum clafers scopes layout fit f =
    sum-places (λ (v : SlotBits). f (slot_clafer layout.slots v.slot)) (record { slot = 0; bits = [] }) layout.values
    ∙ sym (sum-mapped (λ i. f (slot_clafer layout.slots i)) (λ (v : SlotBits). v.slot) layout.values)
    ∙ ap (sum_by (λ i. f (slot_clafer layout.slots i))) fit.values
    ∙ sum-filtered (λ i. f (slot_clafer layout.slots i)) (λ i. refers_to_int clafers (slot_clafer layout.slots i)) (numbers_below (length layout.slots))

own_values : (clafers : List Clafer) (scopes : Scopes) (layout : Layout) → Fits clafers scopes layout → (c : ℕ) → count_by (λ k. value_clafer layout k == c) (numbers_below (length layout.values)) ≤ scope_of scopes c
own_values clafers scopes layout fit c =
    let sums = values_sum clafers scopes layout fit (λ d. cond (d == c) 1 0) in
    let less = below-less (λ i. cond (refers_to_int clafers (slot_clafer layout.slots i)) (cond (slot_clafer layout.slots i == c) 1 0) 0) (λ i. cond (slot_clafer layout.slots i == c) 1 0) (length layout.slots)
    (λ i l. at (refers_to_int clafers (slot_clafer layout.slots i)) (cond (slot_clafer layout.slots i == c) 1 0)) in
    let own = own_slots clafers scopes layout fit c in
    omega (arith, sums, less, own)
  where
    at : (b : Bool) (n : ℕ) → cond b n 0 ≤ n
    at true n = omega arith
    at false n = omega arith

module _ (clafers : List Clafer) (scopes : Scopes) (layout : Layout) (fit : Fits clafers scopes layout) where
  parents_of_value : (v : SlotBits) → length (turned_from layout.parents v.slot) ≤ reach clafers scopes (parent_of clafers (slot_clafer layout.slots v.slot))
  parents_of_value v = slot_edges_few clafers scopes layout.slots layout.parents (parent_of clafers) fit.slots fit.parents v.slot

  equal_pair : (v w : SlotBits) → length v.bits ≡ value_width scopes → length w.bits ≡ value_width scopes → tells_apart clafers (slot_clafer layout.slots w.slot) ≡ true
      → integer_pair_cost layout v w ≤ cond (slot_clafer layout.slots v.slot == slot_clafer layout.slots w.slot) (equal_share clafers scopes (slot_clafer layout.slots w.slot)) 0
  equal_pair v w x y e = at (eqb_tells (slot_clafer layout.slots v.slot) (slot_clafer layout.slots w.slot))
    where
      share : ℕ → ℕ
      share c = 2 * reach clafers scopes (parent_of clafers c) + 4 * value_width scopes + 10

      cost : ℕ
      cost = (2 * length (turned_from layout.parents v.slot) + 1) + equal_cost v w + 3

      wide : (m n k : ℕ) → m ≡ k → n ≡ k → max m n ≤ k
      wide m n k e f = omega (arith, e, f)

      at : (((slot_clafer layout.slots v.slot == slot_clafer layout.slots w.slot) ≡ true) × (slot_clafer layout.slots v.slot ≡ slot_clafer layout.slots w.slot)) ⊎ (((slot_clafer layout.slots v.slot == slot_clafer layout.slots w.slot) ≡ false) × (slot_clafer layout.slots v.slot ≢ slot_clafer layout.slots w.slot))
          → integer_pair_cost layout v w ≤ cond (slot_clafer layout.slots v.slot == slot_clafer layout.slots w.slot) (equal_share clafers scopes (slot_clafer layout.slots w.slot)) 0
      at (inl f) =
          let left : integer_pair_cost layout v w ≡ (2 * length (turned_from layout.parents v.slot) + 1) + equal_cost v w + 3 = ap (λ b. cond b cost 0) f.0 in
          let right : cond (slot_clafer layout.slots v.slot == slot_clafer layout.slots w.slot) (equal_share clafers scopes (slot_clafer layout.slots w.slot)) 0 ≡ share (slot_clafer layout.slots w.slot) =
          ap (λ b. cond b (equal_share clafers scopes (slot_clafer layout.slots w.slot)) 0) f.0 ∙ ap (λ b. cond b (share (slot_clafer layout.slots w.slot)) 0) e in
          let same : share (slot_clafer layout.slots v.slot) ≡ share (slot_clafer layout.slots w.slot) = ap share f.1 in
          let whole : share (slot_clafer layout.slots v.slot) ≡ 2 * reach clafers scopes (parent_of clafers (slot_clafer layout.slots v.slot)) + 4 * value_width scopes + 10 = refl in
          let a = parents_of_value v in
          let b = wide (length v.bits) (length w.bits) (value_width scopes) x y in
          omega (arith, left, right, same, whole, a, b)
      at (inr f) =
          let left : integer_pair_cost layout v w ≡ 0 = ap (λ b. cond b cost 0) f.0 in
          omega (arith, left)

  one_value : (k : ℕ) → k < length layout.values
      → value_cost clafers layout k ≤ (4 * reach clafers scopes (parent_of clafers (value_clafer layout k)) + 3) + kin_pairs (value_clafer layout) (equal_share clafers scopes) k
  one_value k l = subst (λ o. option_map_or (λ v. own_value_cost clafers layout v k) o 0 ≤ (4 * reach clafers scopes (parent_of clafers (value_clafer layout k)) + 3) + kin_pairs (value_clafer layout) (equal_share clafers scopes) k)
      (sym (slice_get-get_or layout.values k (record { slot = 0; bits = [] }) l)) (by (tells_apart clafers (value_clafer layout k)) refl)
    where
      width_at : (j : ℕ) → j < length layout.values → length (value_at layout j).bits ≡ value_width scopes
      width_at j h = fit.widths j (record { slot = 0; bits = [] }) h

      by : (b : Bool) → tells_apart clafers (value_clafer layout k) ≡ b
          → cond b ((4 * length (turned_from layout.parents (value_at layout k).slot) + 1) + (integer_pairs_cost layout (value_at layout k) k + 1) + 1) 0
          ≤ (4 * reach clafers scopes (parent_of clafers (value_clafer layout k)) + 3) + kin_pairs (value_clafer layout) (equal_share clafers scopes) k
      by false e = omega arith
      by true e =
          let a = parents_of_value (value_at layout k) in
          let taken = sum-taken (λ v. integer_pair_cost layout v (value_at layout k)) (record { slot = 0; bits = [] }) layout.values k (omega (arith, l)) in
          let less = below-less (λ j. integer_pair_cost layout (value_at layout j) (value_at layout k)) (λ j. cond (value_clafer layout j == value_clafer layout k) (equal_share clafers scopes (value_clafer layout k)) 0) k
          (λ j h. equal_pair (value_at layout j) (value_at layout k) (width_at j (omega (arith, h, l))) (width_at k l) e) in
          omega (arith, a, taken, less)

  pub values_few : 2 * values_cost clafers layout (length layout.values)
      ≤ 2 * (4 * parent_edges clafers scopes layout + 3 * integers clafers layout) + by_clafers clafers scopes (λ c. cond (refers_to_int clafers c) (equal_share clafers scopes c * scope_of scopes c) 0)
  values_few =
      let less = below-less (value_cost clafers layout) (λ k. linear (value_clafer layout k) + kin_pairs (value_clafer layout) (equal_share clafers scopes) k) (length layout.values) one_value in
      let add = sum-add (λ k. linear (value_clafer layout k)) (kin_pairs (value_clafer layout) (equal_share clafers scopes)) (numbers_below (length layout.values)) in
      let alone = values_sum clafers scopes layout fit linear in
      let few = below-less (λ i. cond (refers_to_int clafers (slot_clafer layout.slots i)) (linear (slot_clafer layout.slots i)) 0) (λ i. 4 * parents (slot_clafer layout.slots i) + 3 * cond (refers_to_int clafers (slot_clafer layout.slots i)) 1 0) (length layout.slots)
      (λ i l. at (refers_to_int clafers (slot_clafer layout.slots i)) (parents (slot_clafer layout.slots i))) in
      let split = sum-add (λ i. 4 * parents (slot_clafer layout.slots i)) (λ i. 3 * cond (refers_to_int clafers (slot_clafer layout.slots i)) 1 0) (numbers_below (length layout.slots)) in
      let a = sum-times 4 (λ i. parents (slot_clafer layout.slots i)) (numbers_below (length layout.slots)) in
      let b = sum-times 3 (λ i. cond (refers_to_int clafers (slot_clafer layout.slots i)) 1 0) (numbers_below (length layout.slots)) in
      let twice = kin_few (value_clafer layout) (equal_share clafers scopes) (length layout.values) in
      let kin = below-less (λ k. equal_share clafers scopes (value_clafer layout k) * count_by (λ j. value_clafer layout j == value_clafer layout k) (numbers_below (length layout.values))) (λ k. equal_share clafers scopes (value_clafer layout k) * scope_of scopes (value_clafer layout k)) (length layout.values)
      (λ k l. mul-le-mul_left (equal_share clafers scopes (value_clafer layout k)) (own_values clafers scopes layout fit (value_clafer layout k))) in
      let whole = values_sum clafers scopes layout fit (λ c. equal_share clafers scopes c * scope_of scopes c) in
      let last = regrouped clafers scopes layout.slots (λ c. cond (refers_to_int clafers c) (equal_share clafers scopes c * scope_of scopes c) 0) fit.slots in
      omega (arith, less, add, alone, few, split, a, b, twice, kin, whole, last)
    where
      parents : ℕ → ℕ
      parents c = reach clafers scopes (parent_of clafers c)

      linear : ℕ → ℕ
      linear c = 4 * reach clafers scopes (parent_of clafers c) + 3

      at : (b : Bool) (p : ℕ) → cond b (4 * p + 3) 0 ≤ 4 * p + 3 * cond b 1 0
      at true p = omega arith
      at false p = omega arith
