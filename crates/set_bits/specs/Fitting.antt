-- Which slots and wires a layout has.
use Rattle.std.specs.Prelude.{◌≡◌, ℕ, ◌+◌, ◌≤◌, ◌<◌, List, [], length, map, slice_index_or, Bool}
use Rattle.std.specs.Option.{option_map_or}
use Rattle.std.specs.List.{All, filter, flat_map, range_with_len}
use Rattle.bool_circuit.specs.declared.gate.Wire.{Wire}
use Rattle.bool_circuit.specs.declared.gate.Gate.{Gate}
use Rattle.bool_circuit.specs.Circuit.{wire_value, entry, inputs}
use Rattle.clf_tree.specs.declared.model.Clafer.{Clafer}
use Rattle.clf_tree.specs.declared.instance.Node.{Node}
use Rattle.clf_tree.specs.declared.scopes.Scopes.{Scopes}
use Rattle.clf_tree.specs.Lists.{numbers_below, has}
use Rattle.clf_tree.specs.Hierarchy.{owners, target_of, refers_to_int, concrete_below}
use Rattle.clf_tree.specs.Nodes.{scope_of}
use Rattle.clf_tree.specs.Widths.{width}
use Rattle.set_bits.specs.declared.layout.Edge.{Edge}
use Rattle.set_bits.specs.declared.layout.SlotBits.{SlotBits}
use Rattle.set_bits.specs.declared.layout.Layout.{Layout}

-- a clafer's nodes with numbers below n
abbrev pub nodes_below : ℕ → ℕ → List Node
nodes_below c n = map (λ k. record { clafer = c; number = k }) (numbers_below n)

-- the nodes within the scopes, in order
abbrev pub nodes_within : List Clafer → Scopes → List Node
nodes_within clafers scopes = flat_map (λ c. nodes_below c (scope_of scopes c)) (numbers_below (length clafers))

-- the node of a slot
abbrev pub slot : List Node → ℕ → Node
slot slots i = slice_index_or slots i (record { clafer = 0; number = 0 })

abbrev pub slot_clafer : List Node → ℕ → ℕ
slot_clafer slots i = (slot slots i).clafer

-- from a slot to each of the first n slots whose clafer is one of the near ones
abbrev pub ends_from : List ℕ → List Node → ℕ → ℕ → List (ℕ × ℕ)
ends_from near slots i n = map (λ j. (i, j)) (filter (λ j. has near (slot_clafer slots j)) (numbers_below n))

-- from each of the first n slots to each slot whose clafer is near its own
abbrev pub ends_below : (ℕ → List ℕ) → List Node → ℕ → List (ℕ × ℕ)
ends_below near slots n = flat_map (λ i. ends_from (near (slot_clafer slots i)) slots i (length slots)) (numbers_below n)

abbrev pub all_ends : (ℕ → List ℕ) → List Node → List (ℕ × ℕ)
all_ends near slots = ends_below near slots (length slots)

-- the clafers whose instances an instance can refer to
abbrev pub referred : List Clafer → ℕ → List ℕ
referred clafers c = option_map_or (concrete_below clafers) (target_of clafers c) []

-- the slots whose clafers refer to integers
abbrev pub integer_slots : List Clafer → List Node → List ℕ
integer_slots clafers slots = filter (λ i. refers_to_int clafers (slot_clafer slots i)) (numbers_below (length slots))

-- how many bits an integer target has
abbrev pub value_width : Scopes → ℕ
value_width scopes = width (record { low = scopes.low; high = scopes.high })

abbrev pub ends : List Edge → List (ℕ × ℕ)
ends edges = map (λ e. (e.from, e.to)) edges

-- the numbers of the wires of edges, and of the integers
abbrev pub edge_wires : List Edge → List ℕ
edge_wires edges = map (λ e. e.here.number) edges

abbrev pub value_wires : List SlotBits → List ℕ
value_wires values = flat_map (λ v. map (λ w. w.number) v.bits) values

-- how many wires say something of an instance
abbrev pub size : Layout → ℕ
size layout = length layout.slots + length layout.parents + length layout.targets + length (value_wires layout.values)

-- the inputs of a circuit are its first n wires, in the order of the bits
pub record IsRead (gates : List Gate) (n : ℕ) : Type 0 where
  pub count : inputs gates ≡ n
  pub within : n ≤ length gates
  pub reads : (w : Wire) → w.number < n → (bits : List Bool) → wire_value gates w bits ≡ entry bits w

-- a wire for each slot, then one for each edge that may tie two slots, then those of the integers: the wires from 0 on, in this order
pub record Fits (clafers : List Clafer) (scopes : Scopes) (layout : Layout) : Type 0 where
  pub slots : layout.slots ≡ nodes_within clafers scopes
  pub live : map (λ w. w.number) layout.live ≡ numbers_below (length layout.slots)
  pub parents : ends layout.parents ≡ all_ends (owners clafers) layout.slots
  pub parent_wires : edge_wires layout.parents ≡ range_with_len (length layout.slots) (length layout.parents)
  pub targets : ends layout.targets ≡ all_ends (referred clafers) layout.slots
  pub target_wires : edge_wires layout.targets ≡ range_with_len (length layout.slots + length layout.parents) (length layout.targets)
  pub values : map (λ v. v.slot) layout.values ≡ integer_slots clafers layout.slots
  pub widths : All (λ v. length v.bits ≡ value_width scopes) layout.values
  pub integer_wires : value_wires layout.values ≡ range_with_len (length layout.slots + length layout.parents + length layout.targets) (length (value_wires layout.values))
