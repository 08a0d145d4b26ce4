-- What the wires of an expression tell, with some bound slots.
use Rattle.std.specs.Prelude.{◌≡◌, ◌<◌, ◌≤◌, ◌++◌, ℕ, Bool, List, length, map, max}
use Rattle.bool_circuit.specs.declared.gate.Wire.{Wire}
use Rattle.bool_circuit.specs.declared.gate.Gate.{Gate}
use Rattle.bool_circuit.specs.Circuit.{wire_value, wire_values, AreWiresOf, IsWireOf}
use Rattle.integer_bits.specs.declared.totals.Part.{Part}
use Rattle.integer_bits.specs.Numbers.{integer_at}
use Rattle.integer_bits.specs.Totals.{ArePartsOf}
use Rattle.clf_tree.specs.declared.scopes.Scopes.{Scopes}
use Rattle.clf_tree.specs.Core.{Core}
use Rattle.clf_tree.specs.CoreSoundness.{clafers_in, sort}
use Rattle.clf_tree.specs.CoreWeights.{bits_of, most_nodes, range_width}
use Rattle.set_bits.specs.declared.layout.Layout.{Layout}
use Rattle.set_bits.specs.declared.sets.Member.{Member}
use Rattle.set_bits.specs.Sets.{IsSetOf, is_in}
use Rattle.told_constraints.specs.Told.{told, told_number, told_set, told_truth, values_of}
use Rattle.node_encoder.specs.Listing.{AreBelow, AreListed}
use Rattle.number_encoder.specs.Values.{present_values, widest}
use Rattle.quantifier_encoder.specs.declared.tuples.Tuple.{Tuple}

-- the wire of a truth
pub record IsTruthOf (gates : List Gate) (layout : Layout) (e : Core) (slots : List ℕ) (w : Wire) : Type 0 where
  pub wire : IsWireOf gates w
  pub value : (bits : List Bool) → wire_value gates w bits ≡ told_truth (told layout bits e slots)

-- the set of a node form, of its clafers and with as many members as it can have nodes
pub record IsNodesOf (gates : List Gate) (scopes : Scopes) (layout : Layout) (e : Core) (slots : List ℕ)
    (found : List Member) : Type 0 where
  pub set : IsSetOf gates found
  pub listed : AreListed layout (clafers_in (sort e)) found
  pub below : AreBelow (length layout.slots) found
  pub few : length found ≤ most_nodes scopes (sort e)
  pub value : (bits : List Bool) (s : ℕ) → is_in gates found s bits ≡ told_set (told layout bits e slots) s

-- the wires of a number, at most as many as it has bits
pub record IsNumberOf (gates : List Gate) (scopes : Scopes) (layout : Layout) (e : Core) (slots : List ℕ)
    (ws : List Wire) : Type 0 where
  pub wires : AreWiresOf gates ws
  pub some : 0 < length ws
  pub few : length ws ≤ bits_of scopes (sort e)
  pub value : (bits : List Bool) → integer_at gates ws bits ≡ told_number (told layout bits e slots)

-- the integers of a node form, or the one of a number, as parts
pub record IsSideOf (gates : List Gate) (scopes : Scopes) (layout : Layout) (e : Core) (slots : List ℕ)
    (ps : List Part) : Type 0 where
  pub parts : ArePartsOf gates ps
  pub few : length ps ≤ most_nodes scopes (sort e)
  pub narrow : widest ps ≤ max (range_width scopes) (bits_of scopes (sort e))
  pub value : (bits : List Bool) → present_values gates ps bits ≡ values_of layout bits (told layout bits e slots)

-- the tests of a truth at some tuples, bound behind some slots
pub record AreTestsOf (gates : List Gate) (layout : Layout) (e : Core) (slots : List ℕ) (ts : List Tuple)
    (ws : List Wire) : Type 0 where
  pub wires : AreWiresOf gates ws
  pub each : length ws ≡ length ts
  pub value : (bits : List Bool) → wire_values gates ws bits ≡ map (λ t. told_truth (told layout bits e (slots ++ t.slots))) ts
