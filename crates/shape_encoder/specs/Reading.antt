-- The wires of a layout in a circuit.
use Rattle.std.specs.Prelude.{◌≡◌, ◌+◌, ◌*◌, ◌<◌, ℕ, Bool, List, length, max, ℤ}
use Rattle.std.specs.List.{All, sum_by}
use Rattle.bool_circuit.specs.declared.gate.Wire.{Wire}
use Rattle.bool_circuit.specs.declared.gate.Gate.{Gate}
use Rattle.bool_circuit.specs.Circuit.{wire_value, entry, IsWireOf}
use Rattle.clf_tree.specs.declared.scopes.Scopes.{Scopes}
use Rattle.clf_tree.specs.Widths.{width}
use Rattle.set_bits.specs.declared.layout.Edge.{Edge}
use Rattle.set_bits.specs.declared.layout.SlotBits.{SlotBits}
use Rattle.set_bits.specs.declared.layout.Layout.{Layout}

-- a wire of the circuit whose value is the bit of its number
pub record IsBit (gates : List Gate) (w : Wire) : Type 0 where
  pub wire : IsWireOf gates w
  pub value : (bits : List Bool) → wire_value gates w bits ≡ entry bits w

-- the bits of a slot's integer, of which there is one at least
pub record IsSlotOf (gates : List Gate) (slots : ℕ) (v : SlotBits) : Type 0 where
  pub known : v.slot < slots
  pub some : 0 < length v.bits
  pub bits : All (IsBit gates) v.bits

-- the wires of a layout are those of its bits
pub record IsLaid (gates : List Gate) (layout : Layout) : Type 0 where
  pub slots : length layout.live ≡ length layout.slots
  pub live : All (IsBit gates) layout.live
  pub parents : All (λ e. IsBit gates e.here) layout.parents
  pub targets : All (λ e. IsBit gates e.here) layout.targets
  pub values : All (IsSlotOf gates (length layout.live)) layout.values

-- how many bits an integer alone needs
abbrev pub own_width : ℤ → ℕ
own_width z = width (record { low = z; high = z })

-- ---- how many wires the rules add

-- for the edges of one kind
abbrev pub edges_cost : Layout → List Edge → ℕ
edges_cost layout edges = (4 * length edges + 1) + (3 * length layout.live + 1) + 1

-- for an integer of n bits, where the ends of the range have so many
abbrev pub range_cost : ℕ → ℕ → ℕ → ℕ
range_cost low high n = 8 * (max n low + 1) + 8 * (max high n + 1) + 2

abbrev pub integer_cost : ℕ → ℕ → ℕ → ℕ
integer_cost low high n = range_cost low high n + (n + 2) + 3

-- for the integers of some slots
abbrev pub integers_room : Scopes → List SlotBits → ℕ
integers_room scopes values = sum_by (λ v. integer_cost (own_width scopes.low) (own_width scopes.high) (length v.bits) + 1) values

abbrev pub integers_cost : Scopes → Layout → ℕ
integers_cost scopes layout = integers_room scopes layout.values + 5

abbrev pub consistent_cost : Scopes → Layout → ℕ
consistent_cost scopes layout = edges_cost layout layout.parents + edges_cost layout layout.targets + integers_cost scopes layout + 2
