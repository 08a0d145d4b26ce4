-- The bits that say an instance's facts, in the order of a layout.
use Rattle.std.specs.Prelude.{◌≡◌, ◌==◌, ◌&&◌, ◌++◌, List, [], ◌∷◌, length, map, Bool, true, Option, Some, None, nat_lt, if◌then◌else◌}
use Rattle.std.specs.List.{flat_map}
use Rattle.clf_tree.specs.declared.instance.Node.{Node}
use Rattle.clf_tree.specs.declared.instance.Entry.{Entry}
use Rattle.clf_tree.specs.Lists.{each_pair}
use Rattle.clf_tree.specs.Nodes.{same_node, has_node, nodes_of, parent_in}
use Rattle.set_bits.specs.declared.layout.Edge.{Edge}
use Rattle.set_bits.specs.declared.layout.SlotBits.{SlotBits}
use Rattle.set_bits.specs.declared.layout.Layout.{Layout}
use Rattle.set_bits.specs.Fitting.{slot}
use Rattle.set_bits.specs.Showing.{ties, target_in, integer_target_in, is_value}

-- a list of bits for each slot that has value bits: as many, and they spell the slot's integer or are all false
abbrev pub are_numbers : List Entry → List Node → List SlotBits → List (List Bool) → Bool
are_numbers entries slots values numbers = each_pair (λ v bs. (length bs == length v.bits) && is_value (integer_target_in entries (slot slots v.slot)) bs) values numbers

-- which nodes are there, what their parents and targets are, and the integers to which they refer
pub record IsPacked (layout : Layout) (entries : List Entry) (bits : List Bool) : Type 0 where
  pub numbers : List (List Bool)
  pub integers : are_numbers entries layout.slots layout.values numbers ≡ true
  pub whole : bits ≡ map (has_node (nodes_of entries)) layout.slots ++ (ties (parent_in entries) layout.slots layout.parents ++ (ties (target_in entries) layout.slots layout.targets ++ flat_map (λ bs. bs) numbers))

-- the entry of each node of a list, in one pass over nodes and entries, both in order
abbrev pub aligned : List Node → List Entry → List (Option Entry)
aligned [] es = []
aligned (n ∷ ns) [] = None ∷ aligned ns []
aligned (n ∷ ns) (e ∷ es) = if same_node n e.node then Some e ∷ aligned ns es else None ∷ aligned ns (e ∷ es)

-- an edge leads from a slot to a slot
abbrev pub is_between : List Node → Edge → Bool
is_between slots e = nat_lt e.from (length slots) && nat_lt e.to (length slots)
