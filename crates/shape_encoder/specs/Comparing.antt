-- How far slots are compared with each other.
use Rattle.std.specs.Prelude.{◌≡◌, ◌+◌, ◌-◌, ◌*◌, ◌^◌, ◌<◌, ℕ, Bool, ◌&&◌, ◌||◌, ◌==◌, List, [], length, map, Option, if◌then◌else◌, slice_index_or, slice_get, take, is_none, is_some, nat_lt, not, true, false, min, max}
use Rattle.std.specs.Option.{option_map_or}
use Rattle.std.specs.List.{All, filter, list_all, list_any, sum_by}
use Rattle.bool_circuit.specs.declared.gate.Wire.{Wire}
use Rattle.bool_circuit.specs.declared.gate.Gate.{Gate}
use Rattle.bool_circuit.specs.Circuit.{wire_value, entry, IsWireOf, Extends}
use Rattle.clf_tree.specs.declared.model.Clafer.{Clafer}
use Rattle.clf_tree.specs.Lists.{numbers_below, each_two}
use Rattle.clf_tree.specs.Hierarchy.{parent_of}
use Rattle.set_bits.specs.declared.layout.Edge.{Edge}
use Rattle.set_bits.specs.declared.layout.SlotBits.{SlotBits}
use Rattle.set_bits.specs.declared.layout.Layout.{Layout}
use Rattle.set_bits.specs.Showing.{value_bits}
use Rattle.integer_bits.specs.Numbers.{integer_of}
use Rattle.std.specs.Ordering.{int_eq}
use Rattle.std.specs.declared.vec.Vec.{Vec}
use Rattle.set_bits.specs.Fitting.{slot_clafer}
use Rattle.set_bits.specs.Sets.{is_here}
use Rattle.set_bits.specs.Reaching.{wire_at}
use Rattle.set_bits.specs.Reaching.{IsTableOf}
use Rattle.shape_encoder.specs.Reading.{IsBit}
use Rattle.shown_instance.specs.Consistent.{has_taken, are_single}
use Rattle.shown_instance.specs.Distinct.{leads_there, allows_two, tells_apart, targets_differ, integers_differ}

-- whether two instances of a clafer can have one parent, or none
abbrev pub may_be_two : List Clafer → ℕ → Bool
may_be_two clafers c = option_map_or (λ k. is_none k.parent || allows_two k.times) (slice_get clafers c) true

-- the edge that leads back
abbrev pub turned : Edge → Edge
turned e = record { from = e.to; to = e.from; here = e.here }

-- the edges with a number, turned round, and those of a slot
abbrev pub turned_by : (Edge → ℕ) → List Edge → ℕ → List Edge
turned_by key edges i = map turned (filter (λ e. key e == i) edges)

abbrev pub turned_from : List Edge → ℕ → List Edge
turned_from edges i = turned_by (λ e. e.from) edges i

abbrev pub list_at : List (List Edge) → ℕ → List Edge
list_at table i = slice_index_or table i []

-- at each of the first numbers the edges that have it, turned round
pub record HoldsBy (key : Edge → ℕ) (edges : List Edge) (count : ℕ) (table : List (List Edge)) : Type 0 where
  pub len : length table ≡ count
  pub at : (i : ℕ) → i < count → list_at table i ≡ turned_by key edges i

-- at each of the first slots its edges
abbrev pub HoldsEdges : List Edge → ℕ → List (List Edge) → Type 0
HoldsEdges edges count table = HoldsBy (λ e. e.from) edges count table

-- the clafer of the slot from which an edge leads
abbrev pub clafer_from : Layout → Edge → ℕ
clafer_from layout e = slot_clafer layout.slots e.from

-- whether a clafer stands at top level and has to have different targets
abbrev pub is_counted : List Clafer → ℕ → Bool
is_counted clafers c = tells_apart clafers c && is_none (parent_of clafers c)

-- whether no two edges of such a clafer are taken that lead to one slot
abbrev pub is_single_at : List Clafer → Layout → List Bool → ℕ → Bool
is_single_at clafers layout bits c = not (is_counted clafers c) || are_single (turned_by (clafer_from layout) layout.targets c) bits

-- whether a nested clafer has to have different targets below a parent
abbrev pub is_paired : List Clafer → ℕ → Bool
is_paired clafers c = tells_apart clafers c && is_some (parent_of clafers c)

-- whether two slots have different targets, if they are of a nested clafer
abbrev pub nested_differ : List Clafer → Layout → List Bool → ℕ → ℕ → Bool
nested_differ clafers layout bits i j = not (is_some (parent_of clafers (slot_clafer layout.slots i))) || targets_differ clafers layout bits i j

-- the slots of a clafer among the first n, in order
abbrev pub kin_below : Layout → ℕ → ℕ → List ℕ
kin_below layout n c = filter (λ i. slot_clafer layout.slots i == c) (numbers_below n)

abbrev pub kin_of : Layout → ℕ → List ℕ
kin_of layout c = kin_below layout (length layout.slots) c

-- at each of the first clafers its slots among the first n
pub record HoldsKin (layout : Layout) (n : ℕ) (count : ℕ) (table : List (List ℕ)) : Type 0 where
  pub len : length table ≡ count
  pub at : (c : ℕ) → c < count → slice_index_or table c [] ≡ kin_below layout n c

-- whether taken edges of two lists lead from one slot
abbrev pub meet : List Bool → List Edge → List Edge → Bool
meet bits es fs = list_any (λ e. has_taken fs bits e.from && entry bits e.here) es

-- one edge before another: by the slot from which they lead, then by the other
abbrev pub leads_before : Edge → Edge → Bool
leads_before x y = nat_lt x.from y.from || ((x.from == y.from) && nat_lt x.to y.to)

-- the target edges lead from slots, in the order of their ends, and slots are of clafers of the model
pub record IsOrdered (clafers : List Clafer) (layout : Layout) : Type 0 where
  pub from : All (λ e. e.from < length layout.slots) layout.targets
  pub ascending : each_two leads_before layout.targets ≡ true
  pub known : (i : ℕ) → i < length layout.slots → slot_clafer layout.slots i < length clafers

-- whether an edge is taken that leads from a slot whose wire is true
abbrev pub joins : List Gate → List (Option Wire) → List Bool → Edge → Bool
joins gates table bits e = is_here gates (wire_at table e.from) bits && entry bits e.here

-- a wire that is true where one of the first n edges is such
pub record IsJoinedSoFar (old : List Gate) (table : List (Option Wire)) (edges : List Edge) (n : ℕ) (new : List Gate) (wire : Wire) : Type 0 where
  pub extends : Extends old new (2 * n + 1)
  pub is_wire : IsWireOf new wire
  pub value : (bits : List Bool) → wire_value new wire bits ≡ list_any (joins old table bits) (take n edges)

-- a wire for each slot to which a slot can be tied
pub record IsTiedBy (gates : List Gate) (edges : List Edge) (slot : ℕ) (table : List (Option Wire)) : Type 0 where
  pub wires : IsTableOf gates table
  pub leads : (bits : List Bool) (k : ℕ) → is_here gates (wire_at table k) bits ≡ leads_there edges bits slot k

-- a wire for each slot from which an edge of a list leads
pub record IsMadeOf (gates : List Gate) (edges : List Edge) (table : List (Option Wire)) : Type 0 where
  pub wires : IsTableOf gates table
  pub leads : (bits : List Bool) (k : ℕ) → is_here gates (wire_at table k) bits ≡ has_taken edges bits k

-- and of its first n edges
pub record IsMadeSoFar (old : List Gate) (edges : List Edge) (n : ℕ) (new : List Gate) (table : List (Option Wire)) : Type 0 where
  pub extends : Extends old new n
  pub made : IsMadeOf new (take n edges) table

-- ---- what is seen: by parent, then by target, a wire

abbrev pub row_at : {A : Type 0} → List (Vec (Option Wire) A) → ℕ → List (Option Wire)
row_at rows p = option_map_or (λ row. row.items) (slice_get rows p) []

abbrev pub is_seen : {A : Type 0} → List Gate → List (Vec (Option Wire) A) → List Bool → ℕ → ℕ → Bool
is_seen gates rows bits p t = is_here gates (wire_at (row_at rows p) t) bits

-- the wires are of the circuit
pub record AreRowsOf {A : Type 0} (gates : List Gate) (rows : List (Vec (Option Wire) A)) : Type 0 where
  pub at : (p : ℕ) → IsTableOf gates (row_at rows p)

-- whether an edge to a parent is taken below which one of the targets is seen
abbrev pub is_met : {A : Type 0} → List Gate → List (Vec (Option Wire) A) → List Bool → List Edge → Edge → Bool
is_met gates rows bits targets e = list_any (joins gates (row_at rows e.from) bits) targets && entry bits e.here

-- a wire that is true where one of the first n edges to parents is such
pub record HaveMetSoFar {A : Type 0} (old : List Gate) (rows : List (Vec (Option Wire) A)) (parents targets : List Edge) (n : ℕ) (new : List Gate) (wire : Wire) : Type 0 where
  pub extends : Extends old new (n * (2 * length targets + 3) + 1)
  pub is_wire : IsWireOf new wire
  pub value : (bits : List Bool) → wire_value new wire bits ≡ list_any (is_met old rows bits targets) (take n parents)

-- a row that has the first n targets of a wire more
pub record IsMarkedSoFar (old : List Gate) (here : Wire) (targets : List Edge) (before : List (Option Wire)) (n : ℕ) (new : List Gate) (row : List (Option Wire)) : Type 0 where
  pub extends : Extends old new (2 * n)
  pub wires : IsTableOf new row
  pub value : (bits : List Bool) (t : ℕ) → is_here new (wire_at row t) bits ≡ (is_here old (wire_at before t) bits || (wire_value old here bits && has_taken (take n targets) bits t))

-- rows that have the targets below the first n parents more
pub record AreMarkedSoFar {A : Type 0} (old : List Gate) (parents targets : List Edge) (before : List (Vec (Option Wire) A)) (n : ℕ) (new : List Gate) (rows : List (Vec (Option Wire) A)) : Type 0 where
  pub extends : Extends old new (n * (2 * length targets))
  pub wires : AreRowsOf new rows
  pub value : (bits : List Bool) (p t : ℕ) → is_seen new rows bits p t ≡ (is_seen old before bits p t || (has_taken (take n parents) bits p && has_taken targets bits t))

-- ---- slots with their edges to parents and to targets, turned round

-- some slots have such edges, whose wires are those of bits
pub record AreTies (gates : List Gate) (kin : List ℕ) (parents targets : List (List Edge)) : Type 0 where
  pub parents_known : All (λ i. i < length parents) kin
  pub targets_known : All (λ i. i < length targets) kin
  pub parent_bits : (i : ℕ) → i < length parents → All (λ e. IsBit gates e.here) (list_at parents i)
  pub target_bits : (i : ℕ) → i < length targets → All (λ e. IsBit gates e.here) (list_at targets i)

module _ (parents targets : List (List Edge)) where
  -- whether two slots have one parent and one target
  abbrev pub are_twins : List Bool → ℕ → ℕ → Bool
  are_twins bits j i = meet bits (list_at parents j) (list_at parents i) && meet bits (list_at targets j) (list_at targets i)

  -- whether a slot has a parent and a target
  abbrev pub is_below_onto : List Bool → ℕ → ℕ → ℕ → Bool
  is_below_onto bits p t i = has_taken (list_at parents i) bits p && has_taken (list_at targets i) bits t

  -- how many wires a slot takes that is compared with a later one
  abbrev pub twin_cost : ℕ → ℕ
  twin_cost j = 2 * length (list_at parents j) + 2 * length (list_at targets j) + 5

  -- a slot that is compared with those before it
  abbrev pub place_cost : List ℕ → ℕ → ℕ
  place_cost kin n = length (list_at parents (slice_index_or kin n 0)) + length (list_at targets (slice_index_or kin n 0)) + sum_by twin_cost (take n kin)

  -- slots that are compared two by two
  abbrev pub twins_cost : List ℕ → ℕ → ℕ
  twins_cost kin n = sum_by (place_cost kin) (numbers_below n)

  -- a slot whose parents and targets are counted
  abbrev pub counted_cost : ℕ → ℕ
  counted_cost i = length (list_at parents i) * (4 * length (list_at targets i) + 3) + 3

  -- slots whose parents and targets are counted
  abbrev pub siblings_cost : List ℕ → ℕ
  siblings_cost kin = sum_by counted_cost kin

  -- a wire that is true where another one is and the first n of some slots are no twins of one with these parents and targets
  pub record HasNoTwinSoFar (old : List Gate) (kin : List ℕ) (ups ontos : List Edge) (all : Wire) (n : ℕ) (new : List Gate) (wire : Wire) : Type 0 where
    pub extends : Extends old new (length ups + length ontos + sum_by twin_cost (take n kin))
    pub is_wire : IsWireOf new wire
    pub value : (bits : List Bool) → wire_value new wire bits ≡ (wire_value old all bits && list_all (λ j. not (meet bits (list_at parents j) ups && meet bits (list_at targets j) ontos)) (take n kin))

  -- a wire that is true where another one is and the first n of some slots have no twins among them
  pub record AreAloneSoFar (old : List Gate) (kin : List ℕ) (all : Wire) (n : ℕ) (cost : ℕ) (new : List Gate) (wire : Wire) : Type 0 where
    pub extends : Extends old new cost
    pub is_wire : IsWireOf new wire
    pub value : (bits : List Bool) → wire_value new wire bits ≡ (wire_value old all bits && each_two (λ j i. not (are_twins bits j i)) (take n kin))

  -- and what is seen of them
  pub record AreCountedSoFar {A : Type 0} (old : List Gate) (kin : List ℕ) (all : Wire) (n : ℕ) (new : List Gate) (rows : List (Vec (Option Wire) A)) (wire : Wire) : Type 0 where
    pub alone : AreAloneSoFar old kin all n (siblings_cost (take n kin)) new wire
    pub wires : AreRowsOf new rows
    pub seen : (bits : List Bool) (p t : ℕ) → is_seen new rows bits p t ≡ list_any (is_below_onto bits p t) (take n kin)

-- a number as far as a machine word holds it
abbrev pub told : ℕ → ℕ
told n = min n (2 ^ 64 - 1)

-- what the first n slots take if they are counted, if they are compared two by two, and what they take beside a later one
pub record AreCostsSoFar (parents targets : List (List Edge)) (kin : List ℕ) (n : ℕ) (counted paired beside : ℕ) : Type 0 where
  pub counted_is : counted ≡ told (siblings_cost parents targets (take n kin))
  pub paired_is : paired ≡ told (twins_cost parents targets kin n)
  pub beside_is : beside ≡ told (sum_by (twin_cost parents targets) (take n kin))

-- ---- all slots of nested clafers

-- whether the slots of a clafer have different targets, if it is nested
abbrev pub kin_differ : List Clafer → Layout → List Bool → ℕ → Bool
kin_differ clafers layout bits c = each_two (nested_differ clafers layout bits) (kin_of layout c)

-- a wire that is true where the slots of each of the first n clafers are such
pub record KinDifferSoFar (old : List Gate) (clafers : List Clafer) (layout : Layout) (n : ℕ) (cost : ℕ) (new : List Gate) (wire : Wire) : Type 0 where
  pub extends : Extends old new cost
  pub is_wire : IsWireOf new wire
  pub value : (bits : List Bool) → wire_value new wire bits ≡ list_all (kin_differ clafers layout bits) (numbers_below n)

-- a wire that is true where no two slots of one nested clafer that has to differ have one parent and one target
pub record NestedDiffer (old : List Gate) (clafers : List Clafer) (layout : Layout) (cost : ℕ) (new : List Gate) (wire : Wire) : Type 0 where
  pub extends : Extends old new cost
  pub is_wire : IsWireOf new wire
  pub value : (bits : List Bool) → wire_value new wire bits ≡ each_two (nested_differ clafers layout bits) (numbers_below (length layout.slots))

-- a wire that is true where no two edges of one of the first n clafers, if it has to differ at top level, lead to one slot
pub record AreSingleSoFar (old : List Gate) (clafers : List Clafer) (layout : Layout) (n : ℕ) (cost : ℕ) (new : List Gate) (wire : Wire) : Type 0 where
  pub extends : Extends old new cost
  pub is_wire : IsWireOf new wire
  pub value : (bits : List Bool) → wire_value new wire bits ≡ list_all (is_single_at clafers layout bits) (numbers_below n)

-- ---- how many wires the rules add

-- for two slots
abbrev pub pair_cost : Layout → ℕ → ℕ → ℕ
pair_cost layout j i = if slot_clafer layout.slots j == slot_clafer layout.slots i then 2 * length (turned_from layout.parents j) + 2 * length (turned_from layout.targets j) + 5 else 0

-- for a slot and the ones before it
abbrev pub pairs_cost : Layout → ℕ → ℕ → ℕ
pairs_cost layout i n = sum_by (λ j. pair_cost layout j i) (numbers_below n)

-- for a slot that is compared with the ones before it, at most
abbrev pub alone_cost : Layout → ℕ → ℕ
alone_cost layout i = ((4 * length (turned_from layout.parents i) + 1) + (4 * length (turned_from layout.targets i) + 1)) + (pairs_cost layout i i + 1) + 1

abbrev pub slot_cost : List Clafer → Layout → ℕ → ℕ
slot_cost clafers layout i = if is_paired clafers (slot_clafer layout.slots i) then alone_cost layout i else 0

abbrev pub slots_cost : List Clafer → Layout → ℕ → ℕ
slots_cost clafers layout n = sum_by (slot_cost clafers layout) (numbers_below n)

-- for all slots of nested clafers, if they are compared two by two
abbrev pub targets_cost : List Clafer → Layout → ℕ
targets_cost clafers layout = slots_cost clafers layout (length layout.slots) + 1

-- for a slot whose parents and targets are counted
abbrev pub sibling_cost : Layout → ℕ → ℕ
sibling_cost layout i = length (turned_from layout.parents i) * (4 * length (turned_from layout.targets i) + 3) + 3

-- for a slot that is compared with the ones before it
abbrev pub compared_cost : Layout → ℕ → ℕ
compared_cost layout i = length (turned_from layout.parents i) + length (turned_from layout.targets i) + pairs_cost layout i i

-- for the slots of a clafer, in the form that takes fewer wires: counted, or compared two by two
abbrev pub kin_cost : List Clafer → Layout → ℕ → ℕ
kin_cost clafers layout c = if is_paired clafers c then min (sum_by (sibling_cost layout) (kin_of layout c)) (sum_by (compared_cost layout) (kin_of layout c)) else 0

abbrev pub kins_cost : List Clafer → Layout → ℕ → ℕ
kins_cost clafers layout n = sum_by (kin_cost clafers layout) (numbers_below n)

-- for all slots of nested clafers
abbrev pub nested_cost : List Clafer → Layout → ℕ
nested_cost clafers layout = kins_cost clafers layout (length clafers) + 1

-- for the edges of a clafer
abbrev pub single_cost : List Clafer → Layout → ℕ → ℕ
single_cost clafers layout c = if is_counted clafers c then 6 * length (turned_by (clafer_from layout) layout.targets c) else 0

abbrev pub singles_cost : List Clafer → Layout → ℕ → ℕ
singles_cost clafers layout n = sum_by (single_cost clafers layout) (numbers_below n)

-- ---- integers

-- whether the bit of a slot is true
abbrev pub is_on : List Wire → List Bool → ℕ → Bool
is_on live bits i = option_map_or (entry bits) (slice_get live i) false

-- whether two slots are live and their integers equal
abbrev pub are_equal : List Wire → List Bool → SlotBits → SlotBits → Bool
are_equal live bits v w = (is_on live bits v.slot && is_on live bits w.slot) && int_eq (integer_of (value_bits bits v)) (integer_of (value_bits bits w))

-- a wire that is true where an integer differs from the first n ones
pub record IntegerDiffersSoFar (old : List Gate) (clafers : List Clafer) (layout : Layout) (later : SlotBits) (n : ℕ) (cost : ℕ) (new : List Gate) (wire : Wire) : Type 0 where
  pub extends : Extends old new cost
  pub is_wire : IsWireOf new wire
  pub value : (bits : List Bool) → wire_value new wire bits ≡ list_all (λ v. integers_differ clafers layout bits v later) (take n layout.values)

-- a wire that is true where the first n integers differ from each other
pub record IntegersDifferSoFar (old : List Gate) (clafers : List Clafer) (layout : Layout) (n : ℕ) (cost : ℕ) (new : List Gate) (wire : Wire) : Type 0 where
  pub extends : Extends old new cost
  pub is_wire : IsWireOf new wire
  pub value : (bits : List Bool) → wire_value new wire bits ≡ each_two (integers_differ clafers layout bits) (take n layout.values)

abbrev pub equal_cost : SlotBits → SlotBits → ℕ
equal_cost v w = 4 * (max (length v.bits) (length w.bits) + 1) + 2

abbrev pub integer_pair_cost : Layout → SlotBits → SlotBits → ℕ
integer_pair_cost layout v w = if slot_clafer layout.slots v.slot == slot_clafer layout.slots w.slot then (2 * length (turned_from layout.parents v.slot) + 1) + equal_cost v w + 3 else 0

abbrev pub integer_pairs_cost : Layout → SlotBits → ℕ → ℕ
integer_pairs_cost layout w n = sum_by (λ v. integer_pair_cost layout v w) (take n layout.values)

abbrev pub own_value_cost : List Clafer → Layout → SlotBits → ℕ → ℕ
own_value_cost clafers layout v k = if tells_apart clafers (slot_clafer layout.slots v.slot) then (4 * length (turned_from layout.parents v.slot) + 1) + (integer_pairs_cost layout v k + 1) + 1 else 0

abbrev pub value_cost : List Clafer → Layout → ℕ → ℕ
value_cost clafers layout k = option_map_or (λ v. own_value_cost clafers layout v k) (slice_get layout.values k) 0

abbrev pub values_cost : List Clafer → Layout → ℕ → ℕ
values_cost clafers layout n = sum_by (value_cost clafers layout) (numbers_below n)

-- for all set references, where the slots of nested clafers are compared two by two
abbrev pub pairs_sets_cost : List Clafer → Layout → ℕ
pairs_sets_cost clafers layout = targets_cost clafers layout + (singles_cost clafers layout (length clafers) + 1) + (values_cost clafers layout (length layout.values) + 1) + 2

-- and where each nested clafer takes the form with fewer wires
abbrev pub sets_cost : List Clafer → Layout → ℕ
sets_cost clafers layout = nested_cost clafers layout + (singles_cost clafers layout (length clafers) + 1) + (values_cost clafers layout (length layout.values) + 1) + 2
