-- The instance that the bits of a layout tell.
use Rattle.std.specs.Prelude.{ℕ, ◌==◌, ◌&&◌, List, length, map, Bool, false, Option, Some, None, slice_get, ℤ}
use Rattle.std.specs.Option.{option_map, option_map_or, option_and_then}
use Rattle.std.specs.List.{filter, find}
use Rattle.bool_circuit.specs.Circuit.{entry}
use Rattle.integer_bits.specs.Numbers.{integer_of}
use Rattle.clf_tree.specs.declared.instance.Node.{Node}
use Rattle.clf_tree.specs.declared.instance.Target.{Target}
use Rattle.clf_tree.specs.declared.instance.Target.TheVariants as target
use Rattle.clf_tree.specs.declared.instance.Entry.{Entry}
use Rattle.clf_tree.specs.Lists.{numbers_below}
use Rattle.set_bits.specs.declared.layout.Edge.{Edge}
use Rattle.set_bits.specs.declared.layout.SlotBits.{SlotBits}
use Rattle.set_bits.specs.declared.layout.Layout.{Layout}
use Rattle.set_bits.specs.Fitting.{slot}
use Rattle.set_bits.specs.Showing.{value_bits}

-- whether the bit of a slot is true
abbrev pub is_live : Layout → List Bool → ℕ → Bool
is_live layout bits i = option_map_or (entry bits) (slice_get layout.live i) false

-- whether an edge leads from a slot, and its bit is true
abbrev pub is_taken : List Bool → ℕ → Edge → Bool
is_taken bits i e = (e.from == i) && entry bits e.here

-- the node to which the first taken edge of a slot leads
abbrev pub leads_to : List Node → List Edge → List Bool → ℕ → Option Node
leads_to slots edges bits i = option_and_then (λ e. slice_get slots e.to) (find (is_taken bits i) edges)

-- the integer of a slot that has value bits
abbrev pub is_at : ℕ → SlotBits → Bool
is_at i v = v.slot == i

abbrev pub integer_at : List SlotBits → List Bool → ℕ → Option ℤ
integer_at values bits i = option_map (λ v. integer_of (value_bits bits v)) (find (is_at i) values)

-- a node or else an integer
abbrev pub target_of : Option Node → Option ℤ → Option Target
target_of (Some n) z = Some (target.Node n)
target_of None (Some z) = Some (target.Int z)
target_of None None = None

abbrev pub entry_at : Layout → List Bool → ℕ → Entry
entry_at layout bits i = record {
  node = slot layout.slots i;
  parent = leads_to layout.slots layout.parents bits i;
  target = target_of (leads_to layout.slots layout.targets bits i) (integer_at layout.values bits i);
}

-- an entry for each slot whose live bit is true
abbrev pub shown : Layout → List Bool → List Entry
shown layout bits = map (entry_at layout bits) (filter (is_live layout bits) (numbers_below (length layout.slots)))
