-- What an entry is tied to, and bits that are added.
use Rattle.std.specs.Prelude.{◌≡◌, ◌<◌, ◌++◌, ℕ, ℤ, List, Bool, true, length, Option, Some, None, slice_get, slice_index_or, if◌then◌else◌}
use Rattle.std.specs.List.{flat_map}
use Rattle.std.specs.Option.{option_and_then}
use Rattle.integer_bits.specs.Numbers.{integer_of}
use Rattle.clf_tree.specs.declared.instance.Node.{Node}
use Rattle.clf_tree.specs.declared.instance.Entry.{Entry}
use Rattle.clf_tree.specs.Nodes.{same_node, target_node, entry_of}
use Rattle.set_bits.specs.declared.layout.SlotBits.{SlotBits}
use Rattle.set_bits.specs.Showing.{target_integer}
use Rattle.shown_instance.specs.Packed.{are_numbers}
use Rattle.instance_decoder.specs.declared.packing.Tie.{Tie}
use Rattle.instance_decoder.specs.declared.packing.Tie.TheVariants.{Parent, Target}

-- the parent, or the node to which it refers
abbrev pub end_of : Tie → Entry → Option Node
end_of Parent e = e.parent
end_of Target e = target_node e

-- the entry at a place, if it is that of the node
abbrev pub next_of : List Entry → ℕ → Node → Option Entry
next_of entries k n = option_and_then (λ e. if same_node n e.node then Some e else None) (slice_get entries k)

-- how many entries are taken
abbrev pub taken : Option Entry → ℕ
taken None = 0
taken (Some e) = 1

abbrev pub end_at : Tie → Option Entry → Option Node
end_at tie entry = option_and_then (end_of tie) entry

abbrev pub end_in : Tie → List Entry → Node → Option Node
end_in tie entries n = option_and_then (end_of tie) (entry_of entries n)

-- the integer of an entry in a table
abbrev pub integer_in_table : List (Option Entry) → ℕ → Option ℤ
integer_in_table table i = option_and_then target_integer (slice_index_or table i None)

-- lists of bits are added, one for each slot that has value bits
pub record AddsNumbers (entries : List Entry) (slots : List Node) (values : List SlotBits) (old new : List Bool) : Type 0 where
  pub numbers : List (List Bool)
  pub whole : new ≡ old ++ flat_map (λ bs. bs) numbers
  pub integers : are_numbers entries slots values numbers ≡ true

-- so many bits are added, of which P holds
pub record Adds (old new : List Bool) (count : ℕ) (P : List Bool → Type 0) : Type 0 where
  pub added : List Bool
  pub whole : new ≡ old ++ added
  pub size : length added ≡ count
  pub has : P added

-- the bits spell the integer with those that spell the rest behind them
abbrev pub SpellsBefore : ℤ → ℤ → List Bool → Type 0
SpellsBefore value rest bs = (tail : List Bool) → 0 < length tail → integer_of tail ≡ rest → integer_of (bs ++ tail) ≡ value
