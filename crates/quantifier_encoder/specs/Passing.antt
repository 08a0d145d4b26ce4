-- Whether as many of those that are there pass as a quantifier asks for.
use Rattle.std.specs.Prelude.{◌≡◌, ℕ, ◌+◌, ◌*◌, ◌==◌, Bool, true, false, not, ◌&&◌, ◌||◌, List, [], ◌∷◌, length, take, nat_le}
use Rattle.bool_circuit.specs.declared.gate.Gate.{Gate}
use Rattle.bool_circuit.specs.declared.gate.Wire.{Wire}
use Rattle.bool_circuit.specs.Circuit.{wire_value, wire_values, IsWireOf, AreWiresOf, Extends}
use Rattle.integer_bits.specs.Totals.{count_true}
use Rattle.clf_tree.specs.declared.core_expr.Quantifier.{Quantifier}
use Rattle.clf_tree.specs.declared.core_expr.Quantifier.TheVariants as word
use Rattle.quantifier_encoder.specs.declared.tuples.Tuple.{Tuple}
use Rattle.quantifier_encoder.specs.Tuples.{guards}

-- whether each one that is there passes, and whether one does
abbrev pub all_pass : List Bool → List Bool → Bool
all_pass (here ∷ present) (pass ∷ passed) = (not here || pass) && all_pass present passed
all_pass _ _ = true

abbrev pub some_passes : List Bool → List Bool → Bool
some_passes (here ∷ present) (pass ∷ passed) = (here && pass) || some_passes present passed
some_passes _ _ = false

-- of each whether it is there and passes
abbrev pub passing : List Bool → List Bool → List Bool
passing (here ∷ present) (pass ∷ passed) = (here && pass) ∷ passing present passed
passing _ _ = []

-- whether as many of those that are there pass as the word asks for
unfoldable pub passes_present : Quantifier → List Bool → List Bool → Bool
passes_present word.All present passed = all_pass present passed
passes_present word.Some present passed = some_passes present passed
passes_present word.One present passed = count_true (passing present passed) == 1
passes_present word.Lone present passed = nat_le (count_true (passing present passed)) 1

-- the most wires for so many tuples
abbrev pub many_cost : Quantifier → ℕ → ℕ
many_cost word.All t = 3 * t + 1
many_cost word.Some t = 3 * t + 1
many_cost word.One t = t + (8 * t + 7)
many_cost word.Lone t = t + (8 * t + 7)

-- ---- how far the loops have come

-- a wire says of the first i tuples what `whole` says of guards and tests, with so many wires for each
pub record IsToldSoFar (whole : List Bool → List Bool → Bool) (cost : ℕ) (old : List Gate) (ts : List Tuple) (ws : List Wire) (i : ℕ) (new : List Gate) (w : Wire) : Type 0 where
  pub extends : Extends old new (cost * i + 1)
  pub wire : IsWireOf new w
  pub value : (bits : List Bool) → wire_value new w bits ≡ whole (guards old (take i ts) bits) (wire_values old (take i ws) bits)

-- the wires say of each of the first i tuples whether it is there and passes
pub record ArePassingSoFar (old : List Gate) (ts : List Tuple) (ws : List Wire) (i : ℕ) (new : List Gate) (found : List Wire) : Type 0 where
  pub extends : Extends old new i
  pub size : length found ≡ i
  pub wires : AreWiresOf new found
  pub values : (bits : List Bool) → wire_values new found bits ≡ passing (guards old (take i ts) bits) (wire_values old (take i ws) bits)
