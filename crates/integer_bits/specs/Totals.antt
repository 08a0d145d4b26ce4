-- What sums and products of wires are.
use Rattle.std.specs.Prelude.{ℕ, ◌+◌, zero, suc, ◌-◌, ◌*◌, ◌<◌, Bool, true, false, if◌then◌else◌, List, [], ◌∷◌, length, ℤ, pos, ◌+ℤ◌, is_some, slice_get}
use Rattle.std.specs.List.{All}
use Rattle.bool_circuit.specs.declared.gate.Wire.{Wire}
use Rattle.bool_circuit.specs.declared.gate.Gate.{Gate}
use Rattle.bool_circuit.specs.Circuit.{constant_of, wire_value, IsWireOf, AreWiresOf}
use Rattle.integer_bits.specs.declared.totals.Part.{Part}
use Rattle.integer_bits.specs.Numbers.{bit, natural_of, integer_of, integer_at}

-- how many of some bits are true
abbrev pub count_true : List Bool → ℕ
count_true [] = 0
count_true (b ∷ bs) = bit b + count_true bs

-- a number where a bit is true, and 0 elsewhere
abbrev pub where_true : Bool → ℤ → ℤ
where_true b z = if b then z else pos 0

-- the sum of the parts whose `here` is true
abbrev pub sum_of_parts : List Gate → List Part → List Bool → ℤ
sum_of_parts gates [] bits = pos 0
sum_of_parts gates (p ∷ ps) bits = where_true (wire_value gates p.here bits) (integer_at gates p.bits bits) +ℤ sum_of_parts gates ps bits

-- the part is of wires of the circuit, and has a bit
pub record IsPartOf (gates : List Gate) (p : Part) : Type 0 where
  pub here : IsWireOf gates p.here
  pub wires : AreWiresOf gates p.bits
  pub some : 0 < length p.bits

abbrev pub ArePartsOf : List Gate → List Part → Type 0
ArePartsOf gates ps = All (IsPartOf gates) ps

-- bits as a number, in two's complement where it is signed
abbrev pub number_of : Bool → List Bool → ℤ
number_of true bs = integer_of bs
number_of false bs = pos (natural_of bs)

-- the most wires of a tree with n leaves, whose leaves and whose joins have so many each
abbrev pub tree_cost : ℕ → ℕ → ℕ → ℕ
tree_cost leaf join n = n * leaf + (n - 1) * join

-- n times the same
abbrev pub copies : {X : Type 0} → ℕ → X → List X
copies zero x = []
copies (suc n) x = x ∷ copies n x

-- whether a constant drives the wire
abbrev pub is_constant_of : List Gate → Wire → Bool
is_constant_of gates w = is_some (constant_of (slice_get gates w.number))
