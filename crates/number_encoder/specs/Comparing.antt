-- How far integers are compared, on the way from an old circuit to a new one.
use Rattle.std.specs.Prelude.{◌≡◌, ℕ, ◌*◌, Bool, true, ◌&&◌, ◌||◌, not, List, [], ◌∷◌, length, map, take, ℤ}
use Rattle.std.specs.Ordering.{int_eq}
use Rattle.std.specs.List.{list_any}
use Rattle.bool_circuit.specs.declared.gate.Wire.{Wire}
use Rattle.bool_circuit.specs.declared.gate.Gate.{Gate}
use Rattle.bool_circuit.specs.Circuit.{wire_value, wire_values, IsWireOf, AreWiresOf, Extends}
use Rattle.integer_bits.specs.declared.totals.Part.{Part}
use Rattle.integer_bits.specs.Numbers.{integer_at}
use Rattle.clf_tree.specs.Meaning.{all_in}
use Rattle.number_encoder.specs.Costs.{pair_cost, row_cost}
use Rattle.number_encoder.specs.Values.{present_values}

-- whether the integer of a part is among those of the parts that are there
abbrev pub is_among : List Gate → List Part → List Bool → ℤ → Bool
is_among gates ps bits z = list_any (int_eq z) (present_values gates ps bits)

-- of each part, whether its integer is among those of the ones that are there
abbrev pub are_among : List Gate → List Part → List Part → List Bool → List Bool
are_among gates ps qs bits = map (λ q. is_among gates ps bits (integer_at gates q.bits bits)) qs

-- what was seen of some integers, once one more is there if a bit is true
abbrev pub seen_more : Bool → ℤ → List Bool → List ℤ → List Bool
seen_more here z [] ys = []
seen_more here z (s ∷ ss) [] = []
seen_more here z (s ∷ ss) (y ∷ ys) = (s || (here && int_eq z y)) ∷ seen_more here z ss ys

-- the integers of parts, whether they are there or not
abbrev pub integers_of : List Gate → List Part → List Bool → List ℤ
integers_of gates ps bits = map (λ p. integer_at gates p.bits bits) ps

-- whether the integer of a part is among those of the first i of others
pub record IsFoundSoFar (old : List Gate) (part : Part) (others : List Part) (w i : ℕ) (new : List Gate) (found : Wire) : Type 0 where
  pub extends : Extends old new (i * pair_cost w)
  pub wire : IsWireOf new found
  pub value : (bits : List Bool) → wire_value new found bits ≡ is_among old (take i others) bits (integer_at old part.bits bits)

-- the same, and which of the first i others have been seen, once the part is too
pub record IsRowSoFar (old : List Gate) (part : Part) (others : List Part) (seen : List Wire) (w i : ℕ) (new : List Gate) (found : Wire)
    (next : List Wire) : Type 0 where
  pub among : IsFoundSoFar old part others w i new found
  pub size : length next ≡ i
  pub wires : AreWiresOf new next
  pub values : (bits : List Bool)
      → wire_values new next bits
      ≡ seen_more (wire_value old part.here bits) (integer_at old part.bits bits) (wire_values old (take i seen) bits)
      (integers_of old (take i others) bits)

-- whether each part that is there has been seen
abbrev pub all_marked : List Bool → List Bool → Bool
all_marked [] ss = true
all_marked (h ∷ hs) [] = true
all_marked (h ∷ hs) (s ∷ ss) = (not h || s) && all_marked hs ss

-- whether the parts are there
abbrev pub are_here : List Gate → List Part → List Bool → List Bool
are_here gates ps bits = map (λ p. wire_value gates p.here bits) ps

-- whether a wire is true, and each of the first i parts that is there has been seen
pub record IsSeenSoFar (old : List Gate) (parts : List Part) (seen : List Wire) (first : Wire) (i : ℕ) (new : List Gate) (all : Wire)
    : Type 0 where
  pub extends : Extends old new (3 * i)
  pub wire : IsWireOf new all
  pub value : (bits : List Bool)
      → wire_value new all bits
      ≡ (wire_value old first bits && all_marked (are_here old (take i parts) bits) (wire_values old (take i seen) bits))

-- whether the integers of the first i parts that are there are all among those of others
pub record AreFoundSoFar (old : List Gate) (parts others : List Part) (w i : ℕ) (new : List Gate) (all : Wire) : Type 0 where
  pub extends : Extends old new (i * row_cost (length others) w)
  pub wire : IsWireOf new all
  pub value : (bits : List Bool)
      → wire_value new all bits ≡ all_in int_eq (present_values old (take i parts) bits) (present_values old others bits)

-- the same, and which of the others have been seen among the first i parts
pub record AreRowsSoFar (old : List Gate) (parts others : List Part) (w i : ℕ) (new : List Gate) (all : Wire) (seen : List Wire)
    : Type 0 where
  pub found : AreFoundSoFar old parts others w i new all
  pub size : length seen ≡ length others
  pub wires : AreWiresOf new seen
  pub values : (bits : List Bool) → wire_values new seen bits ≡ are_among old (take i parts) others bits
