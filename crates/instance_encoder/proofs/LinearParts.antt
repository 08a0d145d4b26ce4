-- The parts of a layout and its shape that go by slots, edges and bits of integers: inputs, consistency, parents and targets.
use Rattle.std.proofs.Common.{◌≡◌, ℕ, ◌+◌, ◌*◌, ◌≤◌, cond, List, length, map, get_or, sym, ap, ◌∙◌, arith}
use Rattle.std.specs.Prelude.{int_le, IsTrue}
use Rattle.std.specs.List.{All, sum_by}
use Rattle.std.proofs.lemmas.List.{length-map}
use Rattle.std.proofs.lemmas.List.Sums.{length-filter, sum_by-le}
use Rattle.std.proofs.lemmas.List.FromFn.{length-range_with_len}
use Rattle.bool_circuit.specs.declared.gate.Wire.{Wire}
use Rattle.clf_tree.specs.declared.model.Clafer.{Clafer}
use Rattle.clf_tree.specs.declared.scopes.Scopes.{Scopes}
use Rattle.clf_tree.specs.Lists.{numbers_below}
use Rattle.clf_tree.specs.Hierarchy.{parent_of, target_of, refers_to_int}
use Rattle.set_bits.specs.declared.layout.SlotBits.{SlotBits}
use Rattle.set_bits.specs.declared.layout.Layout.{Layout}
use Rattle.set_bits.specs.Fitting.{Fits, slot_clafer, value_width, value_wires, size}
use Rattle.shape_encoder.specs.Reading.{own_width, integer_cost, consistent_cost}
use Rattle.shape_encoder.specs.Placing.{placed_cost}
use Rattle.instance_encoder.proofs.Totals.{sum-each, sum-flat, sum-constant}
use Rattle.instance_encoder.proofs.Slotted.{by_slots}
use Rattle.instance_encoder.proofs.Tied.{reach, edges_few}
use Rattle.instance_encoder.proofs.Widened.{low_width, high_width}

-- ---- how many slots, edges and integers there are

pub slots_are : (layout : Layout) → by_slots layout.slots (λ c. 1) ≡ length layout.slots
slots_are layout =
    let a = sum-constant 1 (numbers_below (length layout.slots)) in
    let b = length-range_with_len 0 (length layout.slots) in
    omega (arith, a, b)

-- the edges that parents and targets can have
abbrev pub parent_edges : List Clafer → Scopes → Layout → ℕ
parent_edges clafers scopes layout = by_slots layout.slots (λ c. reach clafers scopes (parent_of clafers c))

abbrev pub target_edges : List Clafer → Scopes → Layout → ℕ
target_edges clafers scopes layout = by_slots layout.slots (λ c. reach clafers scopes (target_of clafers c))

pub parents_few : (clafers : List Clafer) (scopes : Scopes) (layout : Layout) → Fits clafers scopes layout → length layout.parents ≤ parent_edges clafers scopes layout
parents_few clafers scopes layout fit = edges_few clafers scopes layout.slots layout.parents (parent_of clafers) fit.slots fit.parents

pub targets_few : (clafers : List Clafer) (scopes : Scopes) (layout : Layout) → Fits clafers scopes layout → length layout.targets ≤ target_edges clafers scopes layout
targets_few clafers scopes layout fit = edges_few clafers scopes layout.slots layout.targets (target_of clafers) fit.slots fit.targets

-- the slots of clafers that refer to integers
abbrev pub integers : List Clafer → Layout → ℕ
integers clafers layout = by_slots layout.slots (λ c. cond (refers_to_int clafers c) 1 0)

pub integers_are : (clafers : List Clafer) (scopes : Scopes) (layout : Layout) → Fits clafers scopes layout → length layout.values ≡ integers clafers layout
integers_are clafers scopes layout fit =
    sym (length-map layout.values (λ (v : SlotBits). v.slot)) ∙ ap length fit.values ∙ length-filter (λ i. refers_to_int clafers (slot_clafer layout.slots i)) (numbers_below (length layout.slots))

live_are : (clafers : List Clafer) (scopes : Scopes) (layout : Layout) → Fits clafers scopes layout → length layout.live ≡ length layout.slots
live_are clafers scopes layout fit = sym (length-map layout.live (λ (w : Wire). w.number)) ∙ ap length fit.live ∙ length-range_with_len 0 (length layout.slots)

-- ---- inputs

wires_few : (n : ℕ) (values : List SlotBits) → All (λ v. length v.bits ≡ n) values → length (value_wires values) ≤ length values * n
wires_few n values h =
    let all = flat_length values in
    let few = sum_by-le (λ (v : SlotBits). length v.bits) n values (λ k d l. same (length (get_or values k d).bits) (h k d l)) in
    omega (arith, all, few)
  where
    same : (m : ℕ) → m ≡ n → m ≤ n
    same m e = omega (arith, e)

    bits_of : (v : SlotBits) → sum_by (λ (k : ℕ). 1) (map (λ (w : Wire). w.number) v.bits) ≡ length v.bits
    bits_of v =
        let one = sum-constant 1 (map (λ (w : Wire). w.number) v.bits) in
        let len = length-map v.bits (λ (w : Wire). w.number) in
        omega (arith, one, len)

    flat_length : (vs : List SlotBits) → length (value_wires vs) ≡ sum_by (λ (v : SlotBits). length v.bits) vs
    flat_length vs =
        let one = sum-constant 1 (value_wires vs) in
        let flat = sum-flat (λ (k : ℕ). 1) (λ (v : SlotBits). map (λ (w : Wire). w.number) v.bits) vs in
        let each = sum-each (λ (v : SlotBits). sum_by (λ (k : ℕ). 1) (map (λ (w : Wire). w.number) v.bits)) (λ v. length v.bits) vs bits_of in
        omega (arith, one, flat, each)

-- an input for each slot, edge and bit of an integer
pub inputs_few : (clafers : List Clafer) (scopes : Scopes) (layout : Layout) → Fits clafers scopes layout
    → size layout ≤ length layout.slots + parent_edges clafers scopes layout + target_edges clafers scopes layout + integers clafers layout * value_width scopes
inputs_few clafers scopes layout fit =
    let a = parents_few clafers scopes layout fit in
    let b = targets_few clafers scopes layout fit in
    let c = wires_few (value_width scopes) layout.values fit.widths in
    let d : length layout.values * value_width scopes ≡ integers clafers layout * value_width scopes = ap (λ k. k * value_width scopes) (integers_are clafers scopes layout fit) in
    omega (arith, a, b, c, d)

-- ---- consistency

integer_few : (low high n w : ℕ) → low ≤ w → high ≤ w → n ≡ w → integer_cost low high n + 1 ≤ 17 * w + 24
integer_few low high n w h k e = omega (arith, h, k, e)

pub consistent_few : (clafers : List Clafer) (scopes : Scopes) (layout : Layout) → Fits clafers scopes layout → IsTrue (int_le scopes.low scopes.high)
    → consistent_cost scopes layout ≤ 4 * parent_edges clafers scopes layout + 4 * target_edges clafers scopes layout + 6 * length layout.slots + integers clafers layout * (17 * value_width scopes + 24) + 13
consistent_few clafers scopes layout fit range =
    let a = parents_few clafers scopes layout fit in
    let b = targets_few clafers scopes layout fit in
    let live = live_are clafers scopes layout fit in
    let few = sum_by-le (λ (v : SlotBits). integer_cost (own_width scopes.low) (own_width scopes.high) (length v.bits) + 1) (17 * value_width scopes + 24) layout.values
    (λ k d l. integer_few (own_width scopes.low) (own_width scopes.high) (length (get_or layout.values k d).bits) (value_width scopes) (low_width scopes range) (high_width scopes range) (fit.widths k d l)) in
    let same : length layout.values * (17 * value_width scopes + 24) ≡ integers clafers layout * (17 * value_width scopes + 24) = ap (λ k. k * (17 * value_width scopes + 24)) (integers_are clafers scopes layout fit) in
    omega (arith, a, b, live, few, same)

-- ---- parents, and targets

pub placed_parents_few : (clafers : List Clafer) (scopes : Scopes) (layout : Layout) → Fits clafers scopes layout → placed_cost layout layout.parents ≤ 7 * parent_edges clafers scopes layout + 3 * length layout.slots + 4
placed_parents_few clafers scopes layout fit =
    let a = parents_few clafers scopes layout fit in
    let live = live_are clafers scopes layout fit in
    omega (arith, a, live)

pub placed_targets_few : (clafers : List Clafer) (scopes : Scopes) (layout : Layout) → Fits clafers scopes layout → placed_cost layout layout.targets ≤ 7 * target_edges clafers scopes layout + 3 * length layout.slots + 4
placed_targets_few clafers scopes layout fit =
    let b = targets_few clafers scopes layout fit in
    let live = live_are clafers scopes layout fit in
    omega (arith, b, live)
