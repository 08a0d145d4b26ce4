-- How far the edges are taken.
use Rattle.std.specs.Prelude.{◌≡◌, ◌+◌, ◌*◌, ◌<◌, ℕ, ℤ, Bool, ◌||◌, not, List, length, Option, take}
use Rattle.std.specs.List.{list_all}
use Rattle.std.specs.Option.{option_map_or}
use Rattle.std.specs.Prelude.{slice_get, false}
use Rattle.bool_circuit.specs.declared.gate.Wire.{Wire}
use Rattle.bool_circuit.specs.declared.gate.Gate.{Gate}
use Rattle.bool_circuit.specs.Circuit.{wire_value, wire_values, entry, IsWireOf, AreWiresOf, Extends}
use Rattle.integer_bits.specs.Numbers.{integer_at}
use Rattle.clf_tree.specs.Lists.{numbers_below}
use Rattle.clf_tree.specs.declared.scopes.Scopes.{Scopes}
use Rattle.set_bits.specs.declared.layout.Edge.{Edge}
use Rattle.set_bits.specs.declared.layout.Layout.{Layout}
use Rattle.set_bits.specs.Sets.{is_here}
use Rattle.set_bits.specs.Reaching.{wire_at, IsTableOf}
use Rattle.shown_instance.specs.Consistent.{has_taken, are_single, is_integer}
use Rattle.shape_encoder.specs.Reading.{integers_room, own_width}

-- the wires of an end of the range
pub record IsEnd (gates : List Gate) (z : ℤ) (ws : List Wire) : Type 0 where
  pub wires : AreWiresOf gates ws
  pub some : 0 < length ws
  pub width : length ws ≡ own_width z
  pub value : (bits : List Bool) → integer_at gates ws bits ≡ z

-- some wires are not all false
pub record IsSome (old : List Gate) (ws : List Wire) (n : ℕ) (new : List Gate) (wire : Wire) : Type 0 where
  pub extends : Extends old new (n + 1)
  pub is_wire : IsWireOf new wire
  pub value : (bits : List Bool) → wire_value new wire bits ≡ not (list_all not (wire_values old (take n ws) bits))

-- of the first n edges: a wire for each slot of which one is taken, and one that is true where no two of them are taken of one slot
pub record AreTaken (old : List Gate) (edges : List Edge) (n : ℕ) (new : List Gate) (table : List (Option Wire)) (single : Wire) : Type 0 where
  pub extends : Extends old new (4 * n + 1)
  pub wires : IsTableOf new table
  pub single_wire : IsWireOf new single
  pub taken : (bits : List Bool) (i : ℕ) → is_here new (wire_at table i) bits ≡ has_taken (take n edges) bits i
  pub apart : (bits : List Bool) → wire_value new single bits ≡ are_single (take n edges) bits

-- whether each of the first n slots that has a wire that is true is live
abbrev pub lead_below : List Gate → List (Option Wire) → List Wire → List Bool → ℕ → Bool
lead_below gates table live bits n = list_all (λ i. not (is_here gates (wire_at table i) bits) || option_map_or (entry bits) (slice_get live i) false) (numbers_below n)

-- a wire for the first n slots
pub record IsLedSoFar (old : List Gate) (table : List (Option Wire)) (live : List Wire) (n : ℕ) (new : List Gate) (wire : Wire) : Type 0 where
  pub extends : Extends old new (3 * n + 1)
  pub is_wire : IsWireOf new wire
  pub value : (bits : List Bool) → wire_value new wire bits ≡ lead_below old table live bits n

-- a wire for the integers of the first n slots that have one, and the ends of the range
pub record AreRanged (old : List Gate) (scopes : Scopes) (layout : Layout) (n : ℕ) (new : List Gate) (low high : List Wire) (wire : Wire) : Type 0 where
  pub extends : Extends old new (integers_room scopes (take n layout.values) + 5)
  pub least : IsEnd new scopes.low low
  pub most : IsEnd new scopes.high high
  pub is_wire : IsWireOf new wire
  pub value : (bits : List Bool) → wire_value new wire bits ≡ list_all (is_integer scopes layout bits) (take n layout.values)
