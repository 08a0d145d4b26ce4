-- Which instance the bits of a layout show.
use Rattle.std.specs.Prelude.{◌≡◌, ◌&&◌, not, is_some, List, length, map, Bool, true, false, Option, Some, None, ℤ}
use Rattle.std.specs.Ordering.{int_eq}
use Rattle.std.specs.Option.{option_map_or, option_and_then}
use Rattle.std.specs.List.{list_all, list_any}
use Rattle.bool_circuit.specs.Circuit.{entry}
use Rattle.integer_bits.specs.Numbers.{integer_of}
use Rattle.clf_tree.specs.declared.model.Clafer.{Clafer}
use Rattle.clf_tree.specs.declared.instance.Node.{Node}
use Rattle.clf_tree.specs.declared.instance.Target.{Target}
use Rattle.clf_tree.specs.declared.instance.Target.TheVariants as target
use Rattle.clf_tree.specs.declared.instance.Entry.{Entry}
use Rattle.clf_tree.specs.declared.scopes.Scopes.{Scopes}
use Rattle.clf_tree.specs.Nodes.{same_node, has_node, nodes_of, entry_of, parent_in, target_node, is_within, is_in_range, is_ordered}
use Rattle.set_bits.specs.declared.layout.Edge.{Edge}
use Rattle.set_bits.specs.declared.layout.SlotBits.{SlotBits}
use Rattle.set_bits.specs.declared.layout.Layout.{Layout}
use Rattle.set_bits.specs.Fitting.{slot, size}

-- the node to which an instance's node refers, and the integer
abbrev pub target_in : List Entry → Node → Option Node
target_in entries n = option_and_then target_node (entry_of entries n)

abbrev pub integer_in : Target → Option ℤ
integer_in (target.Int z) = Some z
integer_in (target.Node n) = None

abbrev pub target_integer : Entry → Option ℤ
target_integer e = option_and_then integer_in e.target

abbrev pub integer_target_in : List Entry → Node → Option ℤ
integer_target_in entries n = option_and_then target_integer (entry_of entries n)

-- whether what an edge says is so, where `of` gives what a node is tied to
abbrev pub is_tied : (Node → Option Node) → List Node → Edge → Bool
is_tied of slots e = option_map_or (same_node (slot slots e.to)) (of (slot slots e.from)) false

-- whether some edge leads from one node to the other
abbrev pub has_edge : List Node → List Edge → Node → Node → Bool
has_edge slots edges m n = list_any (λ e. same_node (slot slots e.from) m && same_node (slot slots e.to) n) edges

-- whether a node has value bits
abbrev pub has_value_bits : List Node → List SlotBits → Node → Bool
has_value_bits slots values n = list_any (λ v. same_node (slot slots v.slot) n) values

abbrev pub value_bits : List Bool → SlotBits → List Bool
value_bits bits v = map (entry bits) v.bits

-- the bits of an edge, and what is so
abbrev pub edge_bits : List Bool → List Edge → List Bool
edge_bits bits edges = map (λ e. entry bits e.here) edges

abbrev pub ties : (Node → Option Node) → List Node → List Edge → List Bool
ties of slots edges = map (is_tied of slots) edges

-- whether the value bits are the integer, or all false where there is none
abbrev pub is_value : Option ℤ → List Bool → Bool
is_value (Some z) bs = int_eq (integer_of bs) z
is_value None bs = list_all not bs

-- each bit says a fact of the instance, and each of its facts has a bit
pub record Shows (clafers : List Clafer) (scopes : Scopes) (layout : Layout) (bits : List Bool) (entries : List Entry) : Type 0 where
  pub within : is_within clafers scopes entries ≡ true
  pub in_range : is_in_range scopes entries ≡ true
  pub ordered : is_ordered entries ≡ true
  pub size : length bits ≡ size layout
  pub live : map (entry bits) layout.live ≡ map (has_node (nodes_of entries)) layout.slots
  pub parents : edge_bits bits layout.parents ≡ ties (parent_in entries) layout.slots layout.parents
  pub has_parents : list_all (λ e. option_map_or (has_edge layout.slots layout.parents e.node) e.parent true) entries ≡ true
  pub targets : edge_bits bits layout.targets ≡ ties (target_in entries) layout.slots layout.targets
  pub has_targets : list_all (λ e. option_map_or (has_edge layout.slots layout.targets e.node) (target_node e) true) entries ≡ true
  pub values : list_all (λ v. is_value (integer_target_in entries (slot layout.slots v.slot)) (value_bits bits v)) layout.values ≡ true
  pub has_values : map (λ e. is_some (target_integer e)) entries ≡ map (λ e. has_value_bits layout.slots layout.values e.node) entries
