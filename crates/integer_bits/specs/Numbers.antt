-- Numbers as lists of bits and of wires, the lowest first.
use Rattle.std.specs.Prelude.{◌≡◌, ℕ, zero, suc, ◌+◌, ◌-◌, ◌*◌, ◌/◌, ◌%◌, ◌^◌, ◌<◌, ◌≤◌, nat_eq, Bool, if◌then◌else◌, List, [], ◌∷◌, length, ℤ, pos, negsuc, ◌+ℤ◌, ◌*ℤ◌, ◌≤ℤ◌, ◌<ℤ◌}
use Rattle.bool_circuit.specs.declared.gate.Wire.{Wire}
use Rattle.bool_circuit.specs.declared.gate.Gate.{Gate}
use Rattle.bool_circuit.specs.Circuit.{wire_values, AreWiresOf}

abbrev pub bit : Bool → ℕ
bit b = if b then 1 else 0

-- the natural number that bits spell
abbrev pub natural_of : List Bool → ℕ
natural_of [] = 0
natural_of (b ∷ bs) = bit b + 2 * natural_of bs

-- the integer that bits spell in two's complement: the last bit counts against the others
abbrev pub integer_of : List Bool → ℤ
integer_of [] = pos 0
integer_of (b ∷ []) = if b then negsuc 0 else pos 0
integer_of (b ∷ c ∷ bs) = pos (bit b) +ℤ pos 2 *ℤ integer_of (c ∷ bs)

-- the integer has a spelling of this many bits
pub record FitsBits (width : ℕ) (z : ℤ) : Type 0 where
  pub low : pos 0 ≤ℤ (z +ℤ pos (2 ^ (width - 1)))
  pub high : z <ℤ pos (2 ^ (width - 1))

-- whether an integer is odd, and its half, rounded down
abbrev pub is_odd : ℤ → Bool
is_odd (pos n) = nat_eq (n % 2) 1
is_odd (negsuc n) = nat_eq (n % 2) 0

abbrev pub half_of : ℤ → ℤ
half_of (pos n) = pos (n / 2)
half_of (negsuc n) = negsuc (n / 2)

-- the lowest bits of an integer in two's complement
unfoldable pub spelled : ℕ → ℤ → List Bool
spelled zero z = []
spelled (suc n) z = is_odd z ∷ spelled n (half_of z)

-- the integer that its lowest bits spell: what so many bits keep of it
unfoldable pub cut : ℕ → ℤ → ℤ
cut width z = integer_of (spelled width z)

-- the integer on some wires
abbrev pub integer_at : List Gate → List Wire → List Bool → ℤ
integer_at gates ws bits = integer_of (wire_values gates ws bits)

-- the two differ by a multiple of 2 ^ n
pub record IsCongruent (n : ℕ) (x y : ℤ) : Type 0 where
  pub below : ℕ
  pub above : ℕ
  pub equal : x +ℤ pos (below * 2 ^ n) ≡ y +ℤ pos (above * 2 ^ n)

-- the wires of a number of at most this many bits
pub record IsNumber (width : ℕ) (gates : List Gate) (ws : List Wire) : Type 0 where
  pub wires : AreWiresOf gates ws
  pub some : 0 < length ws
  pub few : length ws ≤ width

-- wires of a number of at most this many bits, which is z but for a multiple of 2 ^ width
pub record StandsFor (width : ℕ) (gates : List Gate) (z : List Bool → ℤ) (ws : List Wire) : Type 0 where
  pub number : IsNumber width gates ws
  pub value : (bits : List Bool) → IsCongruent width (integer_at gates ws bits) (z bits)

-- xs cut to n items, or with its last item repeated up to n
abbrev pub resized : {X : Type 0} → ℕ → List X → List X
resized zero xs = []
resized (suc n) [] = []
resized (suc n) (x ∷ []) = x ∷ resized n (x ∷ [])
resized (suc n) (x ∷ y ∷ xs) = x ∷ resized n (y ∷ xs)
