-- The parts of multiplicities and groups.
use Rattle.std.proofs.Common.{◌≡◌, ℕ, ◌+◌, ◌*◌, ◌<◌, ◌≤◌, Bool, true, false, cond, not, ◌||◌, List, [], ◌∷◌, length, min, max, Option, Some, None, refl, ap, ◌∙◌, arith}
use Rattle.std.specs.Prelude.{slice_get, is_some, IsTrue, if◌then◌else◌}
use Rattle.std.specs.Option.{option_map_or, option_and_then}
use Rattle.std.specs.List.{sum_by}
use Rattle.std.proofs.Math.Nat.{mul-le-mul, mul-le-mul_left, mul-le-mul_right}
use Rattle.clf_tree.specs.declared.model.Clafer.{Clafer}
use Rattle.clf_tree.specs.declared.module.Interval.{Interval}
use Rattle.clf_tree.specs.declared.scopes.Scopes.{Scopes}
use Rattle.clf_tree.specs.Lists.{numbers_below}
use Rattle.clf_tree.specs.Hierarchy.{is_concrete, is_a, parent_of}
use Rattle.clf_tree.specs.Intervals.{room}
use Rattle.clf_tree.specs.Named.{each, has_right_super}
use Rattle.clf_tree.specs.Nodes.{scope_of}
use Rattle.int_widths.specs.Weight.{counted_to, is_any, owner_room, abstract_weight, child_room, group_weight}
use Rattle.set_bits.specs.declared.layout.Layout.{Layout}
use Rattle.set_bits.specs.Fitting.{Fits, slot_clafer}
use Rattle.shown_instance.specs.Bounds.{is_declared_under}
use Rattle.shown_instance.specs.Consistent.{abstract_are_empty}
use Rattle.shape_encoder.specs.Counting.{slot_cost, child_slots, each_cost, whole_cost, counted_slots, times_cost, group_cost, clafer_cost, bounds_room}
use Rattle.instance_encoder.proofs.Totals.{sum-times, below-less}
use Rattle.instance_encoder.proofs.Slotted.{room_of, slots_of}
use Rattle.instance_encoder.proofs.Tied.{reach, children_few}
use Rattle.instance_encoder.proofs.Roomed.{is_leaf, leaf_few, heirs_few, abstract_none, room_is}

-- ---- a count of at most m wires

-- as the weight counts it
abbrev pub count_share : Interval → ℕ → ℕ
count_share interval m = cond (is_any interval) 0 (8 * (m * (counted_to interval m + 1)))

count_more : (b n m : ℕ) → n ≤ m → n * (min n b + 1) ≤ m * (min m b + 1)
count_more b n m h = mul-le-mul h (least b n m h)
  where
    least : (b n m : ℕ) → n ≤ m → min n b + 1 ≤ min m b + 1
    least b n m h = omega (arith, h)

pub count_few : (interval : Interval) (n m : ℕ) → n ≤ m → slot_cost interval n ≤ count_share interval m
count_few interval n m h = by (is_any interval)
  where
    by : (b : Bool) → cond b 0 (8 * (n * (counted_to interval n + 1))) ≤ cond b 0 (8 * (m * (counted_to interval m + 1)))
    by true = omega arith
    by false = mul-le-mul_left 8 (count_more (option_map_or (λ high. high) interval.high interval.low) n m h)

share_few : (interval : Interval) (m : ℕ) → count_share interval m ≤ 8 * (m * (counted_to interval m + 1))
share_few interval m = by (is_any interval)
  where
    by : (b : Bool) → cond b 0 (8 * (m * (counted_to interval m + 1))) ≤ 8 * (m * (counted_to interval m + 1))
    by true = omega arith
    by false = omega arith

-- ---- counts of children, below each slot of some clafers

pub each_few : (clafers : List Clafer) (scopes : Scopes) (layout : Layout) (of asked : ℕ → Bool) (interval : Interval) (m : ℕ) → Fits clafers scopes layout → room_of clafers scopes asked ≤ m
    → each_cost layout of asked interval (length layout.slots) ≤ room_of clafers scopes of * count_share interval m
each_few clafers scopes layout of asked interval m fit few =
    let less = below-less (λ s. cond (of (slot_clafer layout.slots s)) (slot_cost interval (child_slots layout asked s)) 0) (λ s. count_share interval m * cond (of (slot_clafer layout.slots s)) 1 0) (length layout.slots)
    (λ s l. at s (of (slot_clafer layout.slots s))) in
    let times = sum-times (count_share interval m) (λ s. cond (of (slot_clafer layout.slots s)) 1 0) (numbers_below (length layout.slots)) in
    let same = ap (λ k. count_share interval m * k) (slots_of clafers scopes layout.slots of fit.slots) in
    omega (arith, less, times, same)
  where
    at : (s : ℕ) (b : Bool) → cond b (slot_cost interval (child_slots layout asked s)) 0 ≤ count_share interval m * cond b 1 0
    at s true =
        let kids = children_few clafers scopes layout asked fit s in
        let one = count_few interval (child_slots layout asked s) m (omega (arith, kids, few)) in
        omega (arith, one)
    at s false = omega arith

-- ---- multiplicities

-- what the weight has for them
abbrev pub times_share : List Clafer → Scopes → ℕ → Clafer → ℕ
times_share clafers scopes c k =
    if k.is_abstract then abstract_weight clafers scopes c k else 8 * max (owner_room clafers scopes c) 1 * scope_of scopes c * (counted_to k.times (scope_of scopes c) + 1)

-- of a clafer with s instances below p parents at most
nested_few : (interval : Interval) (p s : ℕ) → p * count_share interval s ≤ 8 * max p 1 * s * (counted_to interval s + 1)
nested_few interval p s =
    let more : p * count_share interval s ≤ max p 1 * (8 * (s * (counted_to interval s + 1))) = mul-le-mul (largest p) (share_few interval s) in
    omega (arith, more)
  where
    largest : (p : ℕ) → p ≤ max p 1
    largest p = omega arith

top_few : (interval : Interval) (p s : ℕ) → count_share interval s ≤ 8 * max p 1 * s * (counted_to interval s + 1)
top_few interval p s =
    let more : 1 * count_share interval s ≤ max p 1 * (8 * (s * (counted_to interval s + 1))) = mul-le-mul (largest p) (share_few interval s) in
    omega (arith, more)
  where
    largest : (p : ℕ) → 1 ≤ max p 1
    largest p = omega arith

none_few : (interval : Interval) (n s : ℕ) → s ≡ 0 → n * count_share interval s ≤ 0
none_few interval n s e =
    let few = share_few interval s in
    let none : s * (counted_to interval s + 1) ≡ 0 = ap (λ m. m * (counted_to interval s + 1)) e ∙ omega arith in
    let zero : count_share interval s ≡ 0 = omega (arith, few, none) in
    let all : n * count_share interval s ≡ n * 0 = ap (λ m. n * m) zero in
    omega (arith, all)

associated : (b : Bool) (m u : ℕ) → cond b 0 (8 * (m * u)) ≤ cond b 0 (8 * m * u)
associated true m u = omega arith
associated false m u = omega arith

pub times_few : (clafers : List Clafer) (scopes : Scopes) (layout : Layout) → Fits clafers scopes layout → IsTrue (abstract_are_empty clafers scopes) → IsTrue (each clafers (has_right_super clafers))
    → (c : ℕ) (k : Clafer) → c < length clafers → slice_get clafers c ≡ Some k → times_cost clafers layout c k ≤ times_share clafers scopes c k
times_few clafers scopes layout fit empty right c k l e = by k.parent refl k.is_abstract refl
  where
    below_cost : ℕ → ℕ
    below_cost p = each_cost layout (λ d. is_a clafers d p) (λ d. is_a clafers d c) k.times (length layout.slots)

    parent_is : parent_of clafers c ≡ k.parent
    parent_is = ap (option_and_then (λ (x : Clafer). x.parent)) e

    concrete_is : is_concrete clafers c ≡ not k.is_abstract
    concrete_is = ap (λ o. option_map_or (λ (x : Clafer). not x.is_abstract) o false) e

    or_true : (b : Bool) → (b || true) ≡ true
    or_true true = refl
    or_true false = refl

    -- below each instance of its parent; and at top level, with its heirs
    below : (p : ℕ) → k.parent ≡ Some p → below_cost p ≤ reach clafers scopes (parent_of clafers c) * count_share k.times (scope_of scopes c)
    below p f =
        let leaf : is_leaf clafers c ≡ true = ap (λ o. is_concrete clafers c || is_some o) (parent_is ∙ f) ∙ or_true (is_concrete clafers c) in
        let each = each_few clafers scopes layout (λ d. is_a clafers d p) (λ d. is_a clafers d c) k.times (scope_of scopes c) fit (leaf_few clafers scopes c right leaf) in
        let owners = heirs_few clafers scopes p empty in
        let same : reach clafers scopes (parent_of clafers c) ≡ reach clafers scopes (Some p) = ap (reach clafers scopes) (parent_is ∙ f) in
        let more : room_of clafers scopes (λ d. is_a clafers d p) * count_share k.times (scope_of scopes c) ≤ reach clafers scopes (parent_of clafers c) * count_share k.times (scope_of scopes c) =
        mul-le-mul_right (count_share k.times (scope_of scopes c)) (omega (arith, owners, same)) in
        omega (arith, each, more)

    whole : (m : ℕ) → room_of clafers scopes (λ d. is_a clafers d c) ≤ m → whole_cost layout (λ d. is_a clafers d c) k.times ≤ count_share k.times m
    whole m few =
        let all = slots_of clafers scopes layout.slots (λ d. is_a clafers d c) fit.slots in
        count_few k.times (counted_slots layout (λ d. is_a clafers d c)) m (omega (arith, all, few))

    by : (o : Option ℕ) → k.parent ≡ o → (b : Bool) → k.is_abstract ≡ b → option_map_or below_cost o (whole_cost layout (λ d. is_a clafers d c) k.times)
        ≤ cond b (abstract_weight clafers scopes c k) (8 * max (owner_room clafers scopes c) 1 * scope_of scopes c * (counted_to k.times (scope_of scopes c) + 1))
    by (Some p) f false a =
        let few = below p f in
        let more = nested_few k.times (owner_room clafers scopes c) (scope_of scopes c) in
        omega (arith, few, more)
    by (Some p) f true a =
        let few = below p f in
        let none = none_few k.times (reach clafers scopes (parent_of clafers c)) (scope_of scopes c) (abstract_none clafers scopes empty c l (concrete_is ∙ ap not a)) in
        omega (arith, few, none)
    by None f false a =
        let leaf : is_leaf clafers c ≡ true = ap (λ b. b || is_some (parent_of clafers c)) (concrete_is ∙ ap not a) in
        let few = whole (scope_of scopes c) (leaf_few clafers scopes c right leaf) in
        let more = top_few k.times (owner_room clafers scopes c) (scope_of scopes c) in
        omega (arith, few, more)
    by None f true a =
        let same = room_is clafers scopes c in
        let heirs = heirs_few clafers scopes c empty in
        let few = whole (room clafers scopes (c ∷ [])) (omega (arith, same, heirs)) in
        let more = associated (is_any k.times) (room clafers scopes (c ∷ [])) (counted_to k.times (room clafers scopes (c ∷ [])) + 1) in
        omega (arith, few, more)

-- ---- groups

pub group_few : (clafers : List Clafer) (scopes : Scopes) (layout : Layout) → Fits clafers scopes layout → IsTrue (abstract_are_empty clafers scopes)
    → (c : ℕ) (k : Clafer) → group_cost clafers layout c k ≤ group_weight clafers scopes c k
group_few clafers scopes layout fit empty c k =
    let each = each_few clafers scopes layout (λ d. is_a clafers d c) (is_declared_under clafers c) k.group (child_room clafers scopes c) fit (omega arith) in
    let same = room_is clafers scopes c in
    let heirs = heirs_few clafers scopes c empty in
    let more : room_of clafers scopes (λ d. is_a clafers d c) * count_share k.group (child_room clafers scopes c) ≤ room clafers scopes (c ∷ []) * count_share k.group (child_room clafers scopes c) =
    mul-le-mul_right (count_share k.group (child_room clafers scopes c)) (omega (arith, same, heirs)) in
    let weight = weighed (is_any k.group) (room clafers scopes (c ∷ [])) (child_room clafers scopes c) (counted_to k.group (child_room clafers scopes c) + 1) in
    omega (arith, each, more, weight)
  where
    weighed : (b : Bool) (n m u : ℕ) → n * cond b 0 (8 * (m * u)) ≤ cond b 0 (8 * n * m * u)
    weighed true n m u = omega arith
    weighed false n m u = omega arith

-- ---- of all clafers

pub bounds_few : (clafers : List Clafer) (scopes : Scopes) (layout : Layout) → Fits clafers scopes layout → IsTrue (abstract_are_empty clafers scopes) → IsTrue (each clafers (has_right_super clafers))
    → bounds_room clafers layout (length clafers) ≤ sum_by (λ c. option_map_or (λ k. times_share clafers scopes c k + group_weight clafers scopes c k) (slice_get clafers c) 0) (numbers_below (length clafers))
bounds_few clafers scopes layout fit empty right =
    below-less (λ c. option_map_or (clafer_cost clafers layout c) (slice_get clafers c) 0) (λ c. option_map_or (λ k. times_share clafers scopes c k + group_weight clafers scopes c k) (slice_get clafers c) 0) (length clafers) (λ c l. at c l (slice_get clafers c) refl)
  where
    at : (c : ℕ) → c < length clafers → (o : Option Clafer) → slice_get clafers c ≡ o → option_map_or (clafer_cost clafers layout c) o 0 ≤ option_map_or (λ k. times_share clafers scopes c k + group_weight clafers scopes c k) o 0
    at c l None e = omega arith
    at c l (Some k) e =
        let times = times_few clafers scopes layout fit empty right c k l e in
        let group = group_few clafers scopes layout fit empty c k in
        omega (arith, times, group)
