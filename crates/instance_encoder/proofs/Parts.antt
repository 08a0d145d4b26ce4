-- All parts of a layout and its shape against the weight of the clafers.
use Rattle.std.proofs.Common.{◌≡◌, ℕ, zero, suc, ◌+◌, ◌*◌, ◌^◌, ◌<◌, ◌≤◌, Bool, true, false, cond, not, ◌&&◌, ◌||◌, List, [], ◌∷◌, length, map, sum, min, max, Option, Some, None, refl, sym, ap, ◌∙◌, subst, arith}
use Rattle.std.specs.Prelude.{◌==◌, slice_get, is_none, is_some, nat_lt, int_le, IsTrue}
use Rattle.std.specs.Option.{option_map_or}
use Rattle.std.specs.List.{sum_by}
use Rattle.std.proofs.Math.Nat.{mul-le-mul_left}
use Rattle.std.proofs.lemmas.Bool.{true≢false}
use Rattle.std.proofs.lemmas.Bool.Decides.{nat_tests}
use Rattle.std.proofs.lemmas.List.Sums.{sum-map}
use Rattle.clf_tree.specs.declared.model.Clafer.{Clafer}
use Rattle.clf_tree.specs.declared.model.Model.{Model}
use Rattle.clf_tree.specs.declared.scopes.Scopes.{Scopes}
use Rattle.clf_tree.specs.Lists.{numbers_below}
use Rattle.clf_tree.specs.Hierarchy.{is_concrete, parent_of, target_of, refers_to_int}
use Rattle.clf_tree.specs.Named.{each, has_right_super}
use Rattle.clf_tree.specs.CoreWeights.{range_width}
use Rattle.clf_tree.specs.Nodes.{scope_of}
use Rattle.clf_tree.specs.Shape.{is_set}
use Rattle.int_widths.specs.Weight.{has_pairs, owner_room, target_slots, group_weight, counted_to, abstract_weight, concrete_weight, clafer_weight, weight_at, clafers_weight, rule_weight, goal_weight, model_weight}
use Rattle.set_bits.specs.declared.layout.Layout.{Layout}
use Rattle.set_bits.specs.Fitting.{Fits, slot_clafer, value_width, size}
use Rattle.shown_instance.specs.Consistent.{abstract_are_empty}
use Rattle.shown_instance.specs.Distinct.{allows_two, tells_apart}
use Rattle.shape_encoder.specs.Counting.{bounds_room, bounds_cost}
use Rattle.shape_encoder.specs.Comparing.{sets_cost, pairs_sets_cost, slots_cost, singles_cost, values_cost}
use Rattle.shape_encoder.specs.Reading.{consistent_cost}
use Rattle.shape_encoder.specs.Placing.{placed_cost}
use Rattle.instance_encoder.specs.Shaping.{rules_cost, shape_cost, slots_room}
use Rattle.instance_encoder.proofs.Totals.{sum-each, sum-add, sum-times, below-less}
use Rattle.instance_encoder.proofs.Slotted.{by_clafers, regrouped}
use Rattle.instance_encoder.proofs.Tied.{reach}
use Rattle.instance_encoder.proofs.Roomed.{abstract_none, targets_are}
use Rattle.instance_encoder.proofs.Widened.{range_same, some_width}
use Rattle.instance_encoder.proofs.LinearParts.{parent_edges, parents_few, target_edges, integers, slots_are, inputs_few, consistent_few, placed_parents_few, placed_targets_few}
use Rattle.instance_encoder.proofs.BoundParts.{times_share, bounds_few}
use Rattle.instance_encoder.proofs.SetParts.{twin_share, equal_share, singles_few, nested_few, values_few}

module _ (clafers : List Clafer) (scopes : Scopes) where
  -- the parents and targets that an instance of a clafer can have, and two more
  abbrev ties : ℕ → ℕ
  ties c = owner_room clafers scopes c + target_slots clafers scopes c + 2

  -- ---- what the weight has for the parts of a clafer: its slots, pairs of them, and numbers of instances

  abbrev slots_share : ℕ → ℕ
  slots_share c = scope_of scopes c * (32 * ties c)

  abbrev pairs_share : ℕ → ℕ
  pairs_share c = option_map_or (λ k. cond (has_pairs clafers scopes c k) (4 * scope_of scopes c * scope_of scopes c * ties c) 0) (slice_get clafers c) 0

  abbrev bounds_share : ℕ → ℕ
  bounds_share c = option_map_or (λ k. times_share clafers scopes c k + group_weight clafers scopes c k) (slice_get clafers c) 0

  none_for : (b : Bool) (s n : ℕ) → s ≡ 0 → s * (32 * n) + cond b (4 * s * s * n) 0 ≤ 0
  none_for b s n e = subst (λ s. s * (32 * n) + cond b (4 * s * s * n) 0 ≤ 0) (sym e) (by b)
    where
      by : (b : Bool) → 0 * (32 * n) + cond b (4 * 0 * 0 * n) 0 ≤ 0
      by true = omega arith
      by false = omega arith

  clafer_weighed : IsTrue (abstract_are_empty clafers scopes) → (c : ℕ) (k : Clafer) → c < length clafers → slice_get clafers c ≡ Some k
      → slots_share c + cond (has_pairs clafers scopes c k) (4 * scope_of scopes c * scope_of scopes c * ties c) 0 + (times_share clafers scopes c k + group_weight clafers scopes c k) ≤ clafer_weight clafers scopes c k
  clafer_weighed empty c k l e = by k.is_abstract refl
    where
      concrete_is : is_concrete clafers c ≡ not k.is_abstract
      concrete_is = ap (λ o. option_map_or (λ (x : Clafer). not x.is_abstract) o false) e

      pairs : ℕ
      pairs = cond (has_pairs clafers scopes c k) (4 * scope_of scopes c * scope_of scopes c * ties c) 0

      times : ℕ
      times = 8 * max (owner_room clafers scopes c) 1 * scope_of scopes c * (counted_to k.times (scope_of scopes c) + 1)

      by : (b : Bool) → k.is_abstract ≡ b → slots_share c + pairs + (cond b (abstract_weight clafers scopes c k) times + group_weight clafers scopes c k)
          ≤ cond b (abstract_weight clafers scopes c k) (concrete_weight clafers scopes c k) + group_weight clafers scopes c k
      by true a = let none = none_for (has_pairs clafers scopes c k) (scope_of scopes c) (ties c) (abstract_none clafers scopes empty c l (concrete_is ∙ ap not a)) in omega (arith, none)
      by false a =
          let whole : concrete_weight clafers scopes c k ≡ 1 + 32 * scope_of scopes c * ties c + pairs + times = refl in
          omega (arith, whole)

  none_there : (xs : List Clafer) (i : ℕ) → i < length xs → slice_get xs i ≡ None → ⊥
  none_there [] i l e = omega (arith, l)
  none_there (x ∷ xs) zero l e = true≢false (sym (ap is_none e))
  none_there (x ∷ xs) (suc i) l e = none_there xs i (omega (arith, l)) e

  pub shares_weigh : IsTrue (abstract_are_empty clafers scopes)
      → sum_by slots_share (numbers_below (length clafers)) + sum_by pairs_share (numbers_below (length clafers)) + sum_by bounds_share (numbers_below (length clafers)) ≤ sum (map (weight_at clafers scopes) (numbers_below (length clafers)))
  shares_weigh empty =
      let less = below-less (λ c. (slots_share c + pairs_share c) + bounds_share c) (weight_at clafers scopes) (length clafers) (λ c l. at c l (slice_get clafers c) refl) in
      let a = sum-add (λ c. slots_share c + pairs_share c) bounds_share (numbers_below (length clafers)) in
      let b = sum-add slots_share pairs_share (numbers_below (length clafers)) in
      let whole = sum-map (weight_at clafers scopes) (numbers_below (length clafers)) in
      omega (arith, less, a, b, whole)
    where
      at : (c : ℕ) → c < length clafers → (o : Option Clafer) → slice_get clafers c ≡ o
          → (slots_share c + option_map_or (λ k. cond (has_pairs clafers scopes c k) (4 * scope_of scopes c * scope_of scopes c * ties c) 0) o 0) + option_map_or (λ k. times_share clafers scopes c k + group_weight clafers scopes c k) o 0
          ≤ option_map_or (clafer_weight clafers scopes c) o 0
      at c l None e = absurd (none_there clafers c l e)
      at c l (Some k) e = clafer_weighed empty c k l e

  -- ---- pairs of slots

  pair_few : (c : ℕ) → twin_share clafers scopes c + cond (refers_to_int clafers c) (equal_share clafers scopes c) 0 ≤ cond (tells_apart clafers c) (8 * ties c) 0
  pair_few c = by (tells_apart clafers c) (is_some (parent_of clafers c)) (refers_to_int clafers c) refl
    where
      p : ℕ
      p = reach clafers scopes (parent_of clafers c)

      t : ℕ
      t = reach clafers scopes (target_of clafers c)

      numbers : (n r : Bool) (p t w q : ℕ) → q ≡ t + cond r w 0 → cond n (2 * p + 2 * t + 5) 0 + cond r (2 * p + 4 * w + 10) 0 ≤ 8 * (p + q + 2)
      numbers true true p t w q e = omega (arith, e)
      numbers true false p t w q e = omega (arith, e)
      numbers false true p t w q e = omega (arith, e)
      numbers false false p t w q e = omega (arith, e)

      by : (a n r : Bool) → refers_to_int clafers c ≡ r
          → cond (a && n) (2 * p + 2 * t + 5) 0 + cond r (cond a (2 * p + 4 * value_width scopes + 10) 0) 0 ≤ cond a (8 * ties c) 0
      by false n true e = omega arith
      by false n false e = omega arith
      by true n r e = numbers n r p t (value_width scopes) (target_slots clafers scopes c)
          (targets_are clafers scopes c ∙ ap (λ b. t + cond b (range_width scopes) 0) e ∙ ap (λ w. t + cond r w 0) (range_same scopes))

  -- what is told apart has a weight for pairs
  apart_paired : (c : ℕ) (k : Clafer) → slice_get clafers c ≡ Some k → tells_apart clafers c ≡ has_pairs clafers scopes c k
  apart_paired c k e = ap (λ o. is_set clafers [] c && option_map_or (λ (x : Clafer). is_none x.parent || allows_two x.times) o true) e ∙ ap (λ b. is_set clafers [] c && (is_none k.parent || b)) (two k.times.high)
    where
      several : (n : ℕ) → nat_lt 1 n ≡ not ((n == 0) || (n == 1))
      several n = grind (arith, nat_tests)

      two : (o : Option ℕ) → option_map_or (λ high. nat_lt 1 high) o true ≡ not (option_map_or (λ high. (high == 0) || (high == 1)) o false)
      two None = refl
      two (Some n) = several n

  pairs_weighed : (c : ℕ) → c < length clafers
      → scope_of scopes c * (twin_share clafers scopes c * scope_of scopes c) + scope_of scopes c * cond (refers_to_int clafers c) (equal_share clafers scopes c * scope_of scopes c) 0 ≤ 2 * pairs_share c
  pairs_weighed c l = at (slice_get clafers c) refl
    where
      s : ℕ
      s = scope_of scopes c

      d : ℕ
      d = twin_share clafers scopes c

      e : ℕ
      e = equal_share clafers scopes c

      out : (b : Bool) (s e : ℕ) → s * cond b (e * s) 0 ≡ (s * s) * cond b e 0
      out true s e = omega arith
      out false s e = omega arith

      in_pairs : (b : Bool) (s m : ℕ) → (s * s) * cond b (8 * m) 0 ≡ 2 * cond b (4 * s * s * m) 0
      in_pairs true s m = omega arith
      in_pairs false s m = omega arith

      at : (o : Option Clafer) → slice_get clafers c ≡ o → s * (d * s) + s * cond (refers_to_int clafers c) (e * s) 0 ≤ 2 * option_map_or (λ k. cond (has_pairs clafers scopes c k) (4 * s * s * ties c) 0) o 0
      at None f = absurd (none_there clafers c l f)
      at (Some k) f =
          let few = mul-le-mul_left (s * s) (pair_few c) in
          let a = out (refers_to_int clafers c) s e in
          let b = in_pairs (tells_apart clafers c) s (ties c) in
          let same : cond (tells_apart clafers c) (4 * s * s * ties c) 0 ≡ cond (has_pairs clafers scopes c k) (4 * s * s * ties c) 0 = ap (λ b. cond b (4 * s * s * ties c) 0) (apart_paired c k f) in
          omega (arith, few, a, b, same)

  pub pairs_few : by_clafers clafers scopes (λ c. twin_share clafers scopes c * scope_of scopes c) + by_clafers clafers scopes (λ c. cond (refers_to_int clafers c) (equal_share clafers scopes c * scope_of scopes c) 0)
      ≤ 2 * sum_by pairs_share (numbers_below (length clafers))
  pairs_few =
      let add = sum-add (λ c. scope_of scopes c * (twin_share clafers scopes c * scope_of scopes c)) (λ c. scope_of scopes c * cond (refers_to_int clafers c) (equal_share clafers scopes c * scope_of scopes c) 0) (numbers_below (length clafers)) in
      let less = below-less (λ c. scope_of scopes c * (twin_share clafers scopes c * scope_of scopes c) + scope_of scopes c * cond (refers_to_int clafers c) (equal_share clafers scopes c * scope_of scopes c) 0) (λ c. 2 * pairs_share c) (length clafers) pairs_weighed in
      let twice = sum-times 2 pairs_share (numbers_below (length clafers)) in
      omega (arith, add, less, twice)

  -- ---- slots, edges and bits

  pub slots_weighed : (layout : Layout) → Fits clafers scopes layout
      → sum_by slots_share (numbers_below (length clafers)) ≡ 32 * (parent_edges clafers scopes layout + target_edges clafers scopes layout + value_width scopes * integers clafers layout + 2 * length layout.slots)
  slots_weighed layout fit =
      let whole = regrouped clafers scopes layout.slots (λ c. 32 * ties c) fit.slots in
      let each = sum-each (λ i. 32 * ties (key i)) (λ i. 32 * (((p i + t i) + value_width scopes * g i) + 2 * 1)) (numbers_below (length layout.slots)) (λ i. one (key i)) in
      let times = sum-times 32 (λ i. ((p i + t i) + value_width scopes * g i) + 2 * 1) (numbers_below (length layout.slots)) in
      let a = sum-add (λ i. (p i + t i) + value_width scopes * g i) (λ i. 2 * 1) (numbers_below (length layout.slots)) in
      let b = sum-add (λ i. p i + t i) (λ i. value_width scopes * g i) (numbers_below (length layout.slots)) in
      let c = sum-add p t (numbers_below (length layout.slots)) in
      let d = sum-times (value_width scopes) g (numbers_below (length layout.slots)) in
      let e = sum-times 2 (λ (i : ℕ). 1) (numbers_below (length layout.slots)) in
      let f = slots_are layout in
      omega (arith, whole, each, times, a, b, c, d, e, f)
    where
      key : ℕ → ℕ
      key i = slot_clafer layout.slots i

      p : ℕ → ℕ
      p i = reach clafers scopes (parent_of clafers (key i))

      t : ℕ → ℕ
      t i = reach clafers scopes (target_of clafers (key i))

      g : ℕ → ℕ
      g i = cond (refers_to_int clafers (key i)) 1 0

      bits : (b : Bool) (w : ℕ) → cond b w 0 ≡ w * cond b 1 0
      bits true w = omega arith
      bits false w = omega arith

      one : (c : ℕ) → 32 * ties c ≡ 32 * (((reach clafers scopes (parent_of clafers c) + reach clafers scopes (target_of clafers c)) + value_width scopes * cond (refers_to_int clafers c) 1 0) + 2 * 1)
      one c =
          let targets = targets_are clafers scopes c in
          let wide : cond (refers_to_int clafers c) (range_width scopes) 0 ≡ cond (refers_to_int clafers c) (value_width scopes) 0 = ap (λ w. cond (refers_to_int clafers c) w 0) (range_same scopes) in
          let out = bits (refers_to_int clafers c) (value_width scopes) in
          omega (arith, targets, wide, out)

-- ---- the sum of the parts

-- with n slots, e parent edges and at most p of them, t target edges, i integers of w bits, x for top-level, y for nested clafers and z for integers that have to differ
rules_sum : (n e p t i w x y z bounds pairs_y pairs_z pairs inputs consistent parents targets sets : ℕ) → 1 ≤ n → e ≤ p → i ≤ n → i ≤ i * w
    → inputs ≤ n + p + t + i * w → consistent ≤ 4 * p + 4 * t + 6 * n + i * (17 * w + 24) + 13 → parents ≤ 7 * p + 3 * n + 4 → targets ≤ 7 * t + 3 * n + 4
    → sets ≤ (y + 1) + (x + 1) + (z + 1) + 2 → x ≤ 6 * t → 2 * y ≤ 2 * (4 * p + 4 * t + 4 * n) + pairs_y → 2 * z ≤ 2 * (4 * p + 3 * i) + pairs_z → pairs_y + pairs_z ≤ 2 * pairs
    → inputs + (consistent + parents + targets + (bounds + 2 * n + 3) + sets + 4) + (12 * e + 5 * n + 1) ≤ 32 * (p + t + w * i + 2 * n) + pairs + bounds + 7
rules_sum n e p t i w x y z bounds pairs_y pairs_z pairs inputs consistent parents targets sets some edges few wide a b c d l f g h k = omega (arith, some, edges, few, wide, a, b, c, d, l, f, g, h, k)

bounds_sum : (n e p t i w bounds pairs inputs : ℕ) → e ≤ p → inputs ≤ n + p + t + i * w → inputs + (bounds + 2 * n + 3) + (12 * e + 5 * n + 1) ≤ 32 * (p + t + w * i + 2 * n) + pairs + bounds + 7
bounds_sum n e p t i w bounds pairs inputs edges a = omega (arith, edges, a)

module _ (clafers : List Clafer) (scopes : Scopes) (layout : Layout) (fit : Fits clafers scopes layout) (empty : IsTrue (abstract_are_empty clafers scopes)) where
  integers_slots : integers clafers layout ≤ length layout.slots
  integers_slots =
      let less = below-less (λ i. cond (refers_to_int clafers (slot_clafer layout.slots i)) 1 0) (λ i. 1) (length layout.slots) (λ i l. at (refers_to_int clafers (slot_clafer layout.slots i))) in
      let all = slots_are layout in
      omega (arith, less, all)
    where
      at : (b : Bool) → cond b 1 0 ≤ 1
      at true = omega arith
      at false = omega arith

  pub shape_few : IsTrue (each clafers (has_right_super clafers)) → IsTrue (int_le scopes.low scopes.high) → sets_cost clafers layout ≤ pairs_sets_cost clafers layout
      → size layout + shape_cost clafers scopes layout + slots_room layout ≤ sum (map (weight_at clafers scopes) (numbers_below (length clafers))) + 7
  shape_few right range sets = by (length layout.slots == 0) refl
    where
      n : ℕ
      n = length layout.slots

      p : ℕ
      p = parent_edges clafers scopes layout

      t : ℕ
      t = target_edges clafers scopes layout

      i : ℕ
      i = integers clafers layout

      w : ℕ
      w = value_width scopes

      pairs : ℕ
      pairs = sum_by (pairs_share clafers scopes) (numbers_below (length clafers))

      inputs : size layout ≤ n + p + t + i * w
      inputs = inputs_few clafers scopes layout fit

      -- what the clafers weigh
      weight : 32 * (p + t + w * i + 2 * n) + pairs + bounds_room clafers layout (length clafers) ≤ sum (map (weight_at clafers scopes) (numbers_below (length clafers)))
      weight =
          let whole = shares_weigh clafers scopes empty in
          let slots = slots_weighed clafers scopes layout fit in
          let bounds = bounds_few clafers scopes layout fit empty right in
          omega (arith, whole, slots, bounds)

      some : (k : ℕ) → (k == 0) ≡ false → 1 ≤ k
      some k e = grind arith

      wide : (k w : ℕ) → 1 ≤ w → k ≤ k * w
      wide k w h = let more = mul-le-mul_left k h in omega (arith, more)

      by : (b : Bool) → (length layout.slots == 0) ≡ b → size layout + cond b (bounds_cost clafers layout) (rules_cost clafers scopes layout) + slots_room layout ≤ sum (map (weight_at clafers scopes) (numbers_below (length clafers))) + 7
      by true e =
          let all = bounds_sum n (length layout.parents) p t i w (bounds_room clafers layout (length clafers)) pairs (size layout) (parents_few clafers scopes layout fit) inputs in
          let least = weight in
          omega (arith, all, least)
      by false e =
          let all = rules_sum n (length layout.parents) p t i w (singles_cost clafers layout (length clafers)) (slots_cost clafers layout (length layout.slots)) (values_cost clafers layout (length layout.values))
          (bounds_room clafers layout (length clafers)) (by_clafers clafers scopes (λ c. twin_share clafers scopes c * scope_of scopes c)) (by_clafers clafers scopes (λ c. cond (refers_to_int clafers c) (equal_share clafers scopes c * scope_of scopes c) 0))
          pairs (size layout) (consistent_cost scopes layout) (placed_cost layout layout.parents) (placed_cost layout layout.targets) (sets_cost clafers layout)
          (some n e) (parents_few clafers scopes layout fit) integers_slots (wide i w (some_width scopes)) inputs (consistent_few clafers scopes layout fit range) (placed_parents_few clafers scopes layout fit) (placed_targets_few clafers scopes layout fit)
          sets (singles_few clafers scopes layout fit) (nested_few clafers scopes layout fit) (values_few clafers scopes layout fit) (pairs_few clafers scopes) in
          let least = weight in
          omega (arith, all, least)

-- a weight of eight million is far below what a circuit can hold
pub model_few : (scopes : Scopes) (model : Model) (wires : ℕ) → wires ≤ clafers_weight scopes model + 7 → model_weight scopes model ≤ 8000000 → wires ≤ 268435456
model_few scopes model wires h k = numbers (clafers_weight scopes model) (sum (map (rule_weight model.clafers scopes) model.rules)) (sum (map (goal_weight model.clafers scopes) model.goals)) h k
  where
    numbers : (c r g : ℕ) → wires ≤ c + 7 → min (10 ^ 18) (8 + c + r + g) ≤ 8000000 → wires ≤ 268435456
    numbers c r g h k = omega (arith, h, k)
