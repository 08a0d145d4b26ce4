-- When wires say of the bits of a layout whether they show an instance, and which constraints hold in it.
use Rattle.std.specs.Prelude.{◌≡◌, ◌≤◌, ◌<ℤ◌, ◌≤ℤ◌, ◌^◌, ◌+◌, ◌*◌, ℕ, ◌&&◌, Bool, not, List, length, map, pos, neg_ℤ, IsTrue}
use Rattle.std.specs.List.{list_all}
use Rattle.bool_circuit.specs.declared.gate.Gate.{Gate}
use Rattle.bool_circuit.specs.declared.gate.Wire.{Wire}
use Rattle.bool_circuit.specs.Circuit.{input_wires, wire_value, wire_values, IsWireOf, AreWiresOf}
use Rattle.canonical_encoder.specs.Slots.{are_canonical, canonical_cost}
use Rattle.cdcl_search.specs.Progress.{assignment_of}
use Rattle.clause_store.specs.declared.clause.Literal.{Literal}
use Rattle.clf_tree.specs.declared.model.Model.{Model}
use Rattle.clf_tree.specs.declared.scopes.Scopes.{Scopes}
use Rattle.clf_tree.specs.Lists.{numbers_below}
use Rattle.clf_tree.specs.Named.{each, contains_itself}
use Rattle.clf_tree.specs.Satisfies.{holds, laws_of}
use Rattle.instance_encoder.specs.Shaping.{shape_cost}
use Rattle.model_reader.specs.declared.reader.Read.{Read}
use Rattle.set_bits.specs.declared.layout.Layout.{Layout}
use Rattle.set_bits.specs.Fitting.{Fits, IsRead, size}
use Rattle.shape_encoder.specs.Reading.{IsLaid}
use Rattle.shown_instance.specs.Consistent.{abstract_are_empty}
use Rattle.shown_instance.specs.Shaped.{is_shaped}
use Rattle.shown_instance.specs.Shown.{shown}
use Rattle.question_space.specs.declared.encoded.Encoded.{Encoded}

-- the layout is that of the model within the scopes; no clafer contains itself, abstract ones have the scope 0, and 64 bits hold the range
pub record IsPlaced (model : Model) (scopes : Scopes) (layout : Layout) : Type 0 where
  pub fits : Fits model.clafers scopes layout
  pub acyclic : IsTrue (each model.clafers (λ c. not (contains_itself model.clafers c)))
  pub empty : IsTrue (abstract_are_empty model.clafers scopes)
  pub low : neg_ℤ (pos (2 ^ 63)) ≤ℤ scopes.low
  pub high : scopes.high <ℤ pos (2 ^ 63)

-- the wires of the rules tell at shaped bits which constraints hold in the instance that the bits show
abbrev pub TellRules : Model → Scopes → Layout → List Gate → List Wire → Type 0
TellRules model scopes layout gates rules =
    (bits : List Bool) → length bits ≡ size layout → IsTrue (is_shaped model.clafers scopes layout bits)
    → wire_values gates rules bits ≡ map (holds model.clafers (shown layout bits)) (laws_of model)

-- the inputs are the bits of the layout, one wire tells whether bits show a tree of the right shape that is canonical, and one for each
-- constraint whether it holds in that instance
pub record IsOnWires (model : Model) (scopes : Scopes) (layout : Layout) (gates : List Gate) (structure : Wire)
    (rules : List Wire) : Type 0 where
  pub placed : IsPlaced model scopes layout
  pub laid : IsLaid gates layout
  pub inputs : input_wires gates ≡ numbers_below (size layout)
  pub structure_in : IsWireOf gates structure
  pub rules_in : AreWiresOf gates rules
  pub count : length rules ≡ length model.rules
  pub structure_is : (bits : List Bool)
      → wire_value gates structure bits ≡ (is_shaped model.clafers scopes layout bits && are_canonical model.clafers layout bits)
  pub rules_are : TellRules model scopes layout gates rules

-- whether a wire and all of some others are true
abbrev pub all_hold : List Gate → Wire → List Wire → List Bool → Bool
all_hold gates first others bits = wire_value gates first bits && list_all (λ b. b) (wire_values gates others bits)

-- beside them one wire that is true where all those are, and no more wires than a weight
pub record IsWired (model : Model) (scopes : Scopes) (weight : ℕ) (layout : Layout) (gates : List Gate) (structure : Wire)
    (rules : List Wire) (whole : Wire) : Type 0 where
  pub wires : IsOnWires model scopes layout gates structure rules
  pub whole_in : IsWireOf gates whole
  pub whole_is : (bits : List Bool) → wire_value gates whole bits ≡ all_hold gates structure rules bits
  pub few : length gates ≤ weight

-- a model that was read, on wires
pub record IsEncoded (read : Read) (layout : Layout) (e : Encoded) : Type 0 where
  pub same : e.core.clafers ≡ read.model.clafers
  pub wired : IsWired read.model read.scopes read.weight layout e.circuit e.structure e.rules e.whole

-- a layout, as many inputs as it has bits, and the wire of the structure, with no more wires than the shape takes
pub record IsStructured (model : Model) (scopes : Scopes) (layout : Layout) (gates : List Gate) (structure : Wire) : Type 0 where
  pub placed : IsPlaced model scopes layout
  pub reads : IsRead gates (size layout)
  pub inputs : input_wires gates ≡ numbers_below (size layout)
  pub structure_in : IsWireOf gates structure
  pub structure_is : (bits : List Bool) → wire_value gates structure bits ≡ is_shaped model.clafers scopes layout bits
  pub few : length gates ≤ size layout + shape_cost model.clafers scopes layout

-- the same with a wire that tells whether what the bits show is canonical, too
pub record IsArranged (model : Model) (scopes : Scopes) (layout : Layout) (gates : List Gate) (structure : Wire) : Type 0 where
  pub placed : IsPlaced model scopes layout
  pub reads : IsRead gates (size layout)
  pub inputs : input_wires gates ≡ numbers_below (size layout)
  pub structure_in : IsWireOf gates structure
  pub structure_is : (bits : List Bool)
      → wire_value gates structure bits ≡ (is_shaped model.clafers scopes layout bits && are_canonical model.clafers layout bits)
  pub few : length gates ≤ size layout + shape_cost model.clafers scopes layout + canonical_cost layout

-- the literal that is true where a wire is
abbrev pub literal_of : Wire → Literal
literal_of wire = record { code = 2 * wire.number }

-- the values of the first variables, as many as the layout has bits
abbrev pub first_values : List Bool → Layout → List Bool
first_values values layout = map (assignment_of values) (numbers_below (size layout))
