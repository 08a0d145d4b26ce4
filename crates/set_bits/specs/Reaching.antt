-- How far an image has come.
use Rattle.std.specs.Prelude.{◌≡◌, ℕ, ◌*◌, Bool, true, false, List, take, slice_index_or, Option, Some, None, IfSome, is_some, nat_lt, if◌then◌else◌}
use Rattle.std.specs.List.{All}
use Rattle.bool_circuit.specs.declared.gate.Wire.{Wire}
use Rattle.bool_circuit.specs.declared.gate.Gate.{Gate}
use Rattle.bool_circuit.specs.Circuit.{IsWireOf, Extends}
use Rattle.set_bits.specs.declared.sets.Member.{Member}
use Rattle.set_bits.specs.declared.layout.Edge.{Edge}
use Rattle.set_bits.specs.Sets.{is_in, is_here, is_reached, has_slot, leads_to, leading}
use Rattle.set_bits.specs.Merging.{AscendBetween}

-- the wire of a slot in a table, which may be missing
abbrev pub wire_at : List (Option Wire) → ℕ → Option Wire
wire_at table slot = slice_index_or table slot None

-- the wires are of the circuit
pub record IsTableOf (gates : List Gate) (table : List (Option Wire)) : Type 0 where
  pub wires : (slot : ℕ) → IfSome (wire_at table slot) (IsWireOf gates)

-- the table has the wires of the first i members of a set
pub record IsTabled (set : List Member) (i : ℕ) (table : List (Option Wire)) : Type 0 where
  pub wires : (gates : List Gate) → All (λ m. IsWireOf gates m.here) set → IsTableOf gates table
  pub value : (gates : List Gate) (bits : List Bool) (slot : ℕ) → is_here gates (wire_at table slot) bits ≡ is_in gates (take i set) slot bits
  pub slots : (slot : ℕ) → is_some (wire_at table slot) ≡ has_slot (take i set) slot

-- the set has the wires of the first n slots of the table
pub record IsCollected (table : List (Option Wire)) (n : ℕ) (set : List Member) : Type 0 where
  pub ascending : AscendBetween 0 n set
  pub wires : (gates : List Gate) → IsTableOf gates table → All (λ m. IsWireOf gates m.here) set
  pub value : (gates : List Gate) (bits : List Bool) (slot : ℕ) → is_in gates set slot bits ≡ (if nat_lt slot n then is_here gates (wire_at table slot) bits else false)
  pub slots : (slot : ℕ) → has_slot set slot ≡ true → is_some (wire_at table slot) ≡ true

abbrev pub present : Option Wire → ℕ
present None = 0
present (Some w) = 1

-- the edges followed so far
pub record IsFollowed (old : List Gate) (from : List Member) (edges : List Edge) (new : List Gate) (reached : List (Option Wire)) : Type 0 where
  pub extends : Extends old new (2 * leading from edges)
  pub wires : IsTableOf new reached
  pub value : (bits : List Bool) (slot : ℕ) → is_here new (wire_at reached slot) bits ≡ is_reached old from edges slot bits
  pub slots : (slot : ℕ) → is_some (wire_at reached slot) ≡ leads_to from edges slot
