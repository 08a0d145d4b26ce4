-- How far the marks of a count have come.
use Rattle.std.specs.Prelude.{◌≡◌, ℕ, zero, suc, ◌+◌, ◌*◌, Bool, true, ◌&&◌, ◌||◌, List, [], ◌∷◌, length, map, not, take, nat_lt}
use Rattle.bool_circuit.specs.declared.gate.Wire.{Wire}
use Rattle.bool_circuit.specs.declared.gate.Gate.{Gate}
use Rattle.bool_circuit.specs.Circuit.{wire_value, wire_values, IsWireOf, AreWiresOf, Extends}
use Rattle.integer_bits.specs.Totals.{count_true}

-- the marks for 'more than j', 'more than j + 1' and so on of a number
abbrev pub marks : ℕ → ℕ → ℕ → List Bool
marks zero j n = []
marks (suc k) j n = nat_lt j n ∷ marks k (j + 1) n

-- the marks once a wire is added, where `below` is the mark before the first
abbrev pub next_marks : Bool → Bool → List Bool → List Bool
next_marks w below [] = []
next_marks w below (x ∷ xs) = (x || (below && w)) ∷ next_marks w x xs

-- the last of some marks, or the one before them
abbrev pub last_mark : Bool → List Bool → Bool
last_mark below [] = below
last_mark below (x ∷ xs) = last_mark x xs

-- the first i marks with one wire more counted, made on the way from the old circuit to the new; `below` is the mark before the next
pub record IsMarkedSoFar (old : List Gate) (ms : List Wire) (first wire : Wire) (i : ℕ) (new : List Gate) (next : List Wire) (below : Wire) : Type 0 where
  pub extends : Extends old new (2 * i)
  pub size : length next ≡ i
  pub wires : AreWiresOf new next
  pub below_wire : IsWireOf old below
  pub below_last : (bits : List Bool) → wire_value old below bits ≡ last_mark (wire_value old first bits) (wire_values old (take i ms) bits)
  pub values : (bits : List Bool) → wire_values new next bits ≡ next_marks (wire_value old wire bits) (wire_value old first bits) (wire_values old (take i ms) bits)

-- the marks of how many of the first i wires are true, on the way from the old circuit to the new, where `first` is a true wire
pub record IsCountedSoFar (old : List Gate) (ws : List Wire) (k : ℕ) (first : Wire) (i : ℕ) (new : List Gate) (ms : List Wire) : Type 0 where
  pub extends : Extends old new (2 * k * i + 2)
  pub size : length ms ≡ k
  pub wires : AreWiresOf new ms
  pub first_wire : IsWireOf new first
  pub first_value : (bits : List Bool) → wire_value new first bits ≡ true
  pub values : (bits : List Bool) → wire_values new ms bits ≡ marks k 0 (count_true (wire_values old (take i ws) bits))

-- the wires on which those of a are negated
pub record IsNegated (old : List Gate) (a : List Wire) (new : List Gate) (negated : List Wire) : Type 0 where
  pub extends : Extends old new (length a)
  pub wires : AreWiresOf new negated
  pub values : (bits : List Bool) → wire_values new negated bits ≡ map not (wire_values old a bits)
