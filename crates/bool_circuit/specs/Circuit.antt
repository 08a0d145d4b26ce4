-- Circuits as lists of gates, and the value of each wire.
use Rattle.std.specs.Prelude.{◌≡◌, ℕ, ◌+◌, ◌<◌, ◌≤◌, Bool, false, not, ◌&&◌, ◌||◌, if◌then◌else◌, List, [], ◌∷◌, ◌++◌, length, fold, slice_index_or, slice_get, Option, Some, None, ◌⊎◌, map}
use Rattle.std.specs.List.{All}
use Rattle.bool_circuit.specs.declared.gate.Wire.{Wire}
use Rattle.bool_circuit.specs.declared.gate.Gate.{Gate}
use Rattle.bool_circuit.specs.declared.gate.Gate.TheVariants.{Input, Constant, Not, And, Or, Xor, Choose}

abbrev pub bool_xor : Bool → Bool → Bool
bool_xor a b = if a then not b else b

-- the entry of a wire in a list of values
abbrev pub entry : List Bool → Wire → Bool
entry vs w = slice_index_or vs w.number false

-- the value of a gate, from the input bits and the values of its operands
abbrev pub gate_value : List Bool → (Wire → Bool) → Gate → Bool
gate_value bits at (Input k) = slice_index_or bits k false
gate_value bits at (Constant b) = b
gate_value bits at (Not a) = not (at a)
gate_value bits at (And a b) = at a && at b
gate_value bits at (Or a b) = at a || at b
gate_value bits at (Xor a b) = bool_xor (at a) (at b)
gate_value bits at (Choose p a b) = if at p then at a else at b

-- the values of all wires, in their order
unfoldable pub values : List Bool → List Gate → List Bool
values bits gates = fold (λ vs g. vs ++ gate_value bits (entry vs) g ∷ []) [] gates

-- the value of a wire of a circuit at given input bits
unfoldable pub wire_value : List Gate → Wire → List Bool → Bool
wire_value gates w bits = entry (values bits gates) w

-- the wires of a list of gates that begins at wire n, that inputs drive
abbrev pub inputs_from : ℕ → List Gate → List ℕ
inputs_from n [] = []
inputs_from n (Input _ ∷ gates) = n ∷ inputs_from (n + 1) gates
inputs_from n (_ ∷ gates) = inputs_from (n + 1) gates

-- the wires of a circuit that inputs drive, by their numbers
abbrev pub input_wires : List Gate → List ℕ
input_wires gates = inputs_from 0 gates

-- the number of inputs
abbrev pub inputs : List Gate → ℕ
inputs gates = length (input_wires gates)

-- the inputs of the list are numbered in their order, from k on
abbrev pub AreNumbered : ℕ → List Gate → Type 0
AreNumbered k [] = Unit {0}
AreNumbered k (Input j ∷ gates) = (j ≡ k) × AreNumbered (k + 1) gates
AreNumbered k (_ ∷ gates) = AreNumbered k gates

-- a gate's operands are below n, and the number of an input is below m
abbrev pub IsGateBelow : ℕ → ℕ → Gate → Type 0
IsGateBelow m n (Input k) = k < m
IsGateBelow m n (Constant b) = Unit {0}
IsGateBelow m n (Not a) = a.number < n
IsGateBelow m n (And a b) = (a.number < n) × (b.number < n)
IsGateBelow m n (Or a b) = (a.number < n) × (b.number < n)
IsGateBelow m n (Xor a b) = (a.number < n) × (b.number < n)
IsGateBelow m n (Choose p a b) = (p.number < n) × (a.number < n) × (b.number < n)

-- each gate of the list, which begins at place n of a circuit with m inputs, stands behind its operands
abbrev pub AreBehind : ℕ → ℕ → List Gate → Type 0
AreBehind m n [] = Unit {0}
AreBehind m n (g ∷ gates) = IsGateBelow m n g × AreBehind m (n + 1) gates

-- what each circuit with m inputs keeps
pub record IsCircuit (m : ℕ) (gates : List Gate) : Type 0 where
  pub input_count : inputs gates ≡ m
  pub numbered : AreNumbered 0 gates
  pub behind : AreBehind m 0 gates
  pub few : length gates ≤ 268435456

-- the gate drives the wire of the new circuit, which is the old one, or has this gate more
pub record IsGateAdded (old new : List Gate) (g : Gate) (w : Wire) : Type 0 where
  pub at : slice_get new w.number ≡ Some g
  pub gates : (new ≡ old) ⊎ (new ≡ old ++ g ∷ [])

-- a wire of the circuit
abbrev pub IsWireOf : List Gate → Wire → Type 0
IsWireOf gates w = w.number < length gates

-- the new circuit has the wires of the old one, with their values, at most n more, and the same inputs
pub record Extends (old new : List Gate) (n : ℕ) : Type 0 where
  pub at_least : length old ≤ length new
  pub at_most : length new ≤ length old + n
  pub same_inputs : input_wires new ≡ input_wires old
  pub keeps : (w : Wire) → IsWireOf old w → (bits : List Bool) → wire_value new w bits ≡ wire_value old w bits

-- ---- what a gate tells before any bits are known

-- the value of a constant
abbrev pub constant_of : Option Gate → Option Bool
constant_of (Some (Constant b)) = Some b
constant_of _ = None

-- the operand of a negation
abbrev pub negated_by : Option Gate → Option Wire
negated_by (Some (Not a)) = Some a
negated_by _ = None

-- the first wire negates the second
abbrev pub IsNegation : List Gate → Wire → Wire → Type 0
IsNegation gates a b = slice_get gates a.number ≡ Some (Not b)

-- the first wire is true only where the second is
pub record IsBelow (gates : List Gate) (a b : Wire) : Type 0 where
  pub both : (bits : List Bool) → (wire_value gates a bits && wire_value gates b bits) ≡ wire_value gates a bits
  pub either : (bits : List Bool) → (wire_value gates a bits || wire_value gates b bits) ≡ wire_value gates b bits

-- ---- several wires

-- the values of wires
abbrev pub wire_values : List Gate → List Wire → List Bool → List Bool
wire_values gates ws bits = map (λ w. wire_value gates w bits) ws

abbrev pub AreWiresOf : List Gate → List Wire → Type 0
AreWiresOf gates ws = All (IsWireOf gates) ws
