-- How far the loops over the bits of numbers have come, each on its way from an old circuit to a new one.
use Rattle.std.specs.Prelude.{◌≡◌, ℕ, ◌+◌, ◌*◌, ◌^◌, ◌<◌, ◌≤◌, Bool, not, ◌&&◌, List, length, map, take, nat_lt, nat_eq, if◌then◌else◌, ℤ, pos, ◌+ℤ◌, ◌*ℤ◌, [], ◌∷◌, Option, Some, None, IfSome}
use Rattle.bool_circuit.specs.declared.gate.Wire.{Wire}
use Rattle.bool_circuit.specs.declared.gate.Gate.{Gate}
use Rattle.bool_circuit.specs.Circuit.{wire_value, wire_values, IsWireOf, AreWiresOf, Extends}
use Rattle.integer_bits.specs.Numbers.{bit, natural_of, integer_at, IsCongruent}

-- a carry, which may be missing
abbrev pub carry_at : List Gate → Option Wire → List Bool → ℕ
carry_at gates None bits = 0
carry_at gates (Some w) bits = bit (wire_value gates w bits)

abbrev pub IsCarryOf : List Gate → Option Wire → Type 0
IsCarryOf gates carry = IfSome carry (IsWireOf gates)

-- the first i bits of a sum of two numbers and a carry
pub record IsSumSoFar (old : List Gate) (a b : List Wire) (first : Option Wire) (i : ℕ) (new : List Gate) (sum : List Wire) (carry : Option Wire) : Type 0 where
  pub extends : Extends old new (5 * i)
  pub size : length sum ≡ i
  pub wires : AreWiresOf new sum
  pub carry_wire : IsCarryOf new carry
  pub value : (bits : List Bool) → natural_of (wire_values new sum bits) + carry_at new carry bits * 2 ^ i ≡ natural_of (wire_values old (take i a) bits) + natural_of (wire_values old (take i b) bits) + carry_at old first bits

-- the first i bits of the negative of a number, and whether one of the number's is true
pub record IsNegativeSoFar (old : List Gate) (a : List Wire) (i : ℕ) (new : List Gate) (negative : List Wire) (seen : Wire) : Type 0 where
  pub extends : Extends old new (2 * i + 1)
  pub size : length negative ≡ i
  pub wires : AreWiresOf new negative
  pub seen_wire : IsWireOf new seen
  pub value : (bits : List Bool) → natural_of (wire_values new negative bits) + natural_of (wire_values old (take i a) bits) ≡ bit (wire_value new seen bits) * 2 ^ i

-- wires that are true where `here` and those of a are
pub record IsMasked (old : List Gate) (here : Wire) (a : List Wire) (new : List Gate) (masked : List Wire) : Type 0 where
  pub extends : Extends old new (length a)
  pub wires : AreWiresOf new masked
  pub size : length masked ≡ length a
  pub values : (bits : List Bool) → wire_values new masked bits ≡ map (λ b. wire_value old here bits && b) (wire_values old a bits)

-- wires of the number on those of a, but for a multiple of 2 ^ width, in each circuit
pub record IsNarrowed (width : ℕ) (a ws : List Wire) : Type 0 where
  pub some : 0 < length ws
  pub few : length ws ≤ width
  pub no_more : length ws ≤ length a
  pub wires : (gates : List Gate) → AreWiresOf gates a → AreWiresOf gates ws
  pub value : (gates : List Gate) (bits : List Bool) → IsCongruent width (integer_at gates ws bits) (integer_at gates a bits)

-- the first i bits of the first number where `pick` is true, and of the second elsewhere, made on the way from the old circuit to the new
pub record IsChosenSoFar (old : List Gate) (pick : Wire) (a b : List Wire) (i : ℕ) (new : List Gate) (chosen : List Wire) : Type 0 where
  pub extends : Extends old new (3 * i)
  pub size : length chosen ≡ i
  pub wires : AreWiresOf new chosen
  pub values : (bits : List Bool) → wire_values new chosen bits ≡ (if wire_value old pick bits then wire_values old (take i a) bits else wire_values old (take i b) bits)

-- the test of the first i bits of two numbers
pub record IsTestSoFar (test : List Bool → List Bool → Bool) (old : List Gate) (a b : List Wire) (i : ℕ) (new : List Gate) (told : Wire) : Type 0 where
  pub extends : Extends old new (4 * i + 1)
  pub wire : IsWireOf new told
  pub value : (bits : List Bool) → wire_value new told bits ≡ test (wire_values old (take i a) bits) (wire_values old (take i b) bits)

-- two such tests
abbrev pub is_below : List Bool → List Bool → Bool
is_below x y = nat_lt (natural_of x) (natural_of y)

abbrev pub differs : List Bool → List Bool → Bool
differs x y = not (nat_eq (natural_of x) (natural_of y))

-- z above the bits, the lowest first
abbrev pub spelled_onto : List Bool → ℤ → ℤ
spelled_onto [] z = z
spelled_onto (b ∷ bs) z = pos (bit b) +ℤ pos 2 *ℤ spelled_onto bs z

-- the wires of the lowest i bits of z, and what is left of z above them
pub record IsSpelledSoFar (gates : List Gate) (z : ℤ) (i : ℕ) (ws : List Wire) (rest : ℤ) : Type 0 where
  pub size : length ws ≡ i
  pub wires : AreWiresOf gates ws
  pub value : (bits : List Bool) → spelled_onto (wire_values gates ws bits) rest ≡ z
