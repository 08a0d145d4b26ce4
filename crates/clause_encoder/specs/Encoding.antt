-- What the clauses of a circuit say.
use Rattle.std.specs.Prelude.{◌≡◌, ℕ, ◌+◌, ◌*◌, ◌<◌, ◌≤◌, ◌↔◌, Bool, true, not, ◌&&◌, if◌then◌else◌, List, [], ◌∷◌, ◌++◌, length}
use Rattle.std.specs.List.{All, list_any, list_all}
use Rattle.bool_circuit.specs.declared.gate.Wire.{Wire}
use Rattle.bool_circuit.specs.declared.gate.Gate.{Gate}
use Rattle.bool_circuit.specs.declared.gate.Gate.TheVariants.{Input, Constant, Not, And, Or, Xor, Choose}
use Rattle.bool_circuit.specs.Circuit.{gate_value, wire_value, input_wires, inputs, IsWireOf}
use Rattle.clause_store.specs.declared.clause.Literal.{Literal}
use Rattle.clause_store.specs.Literals.{HasVariablesBelow}
use Rattle.clause_store.specs.Satisfaction.{value_at, SatisfiesAll, IsAbove, IsSatisfiableAbove}
use Rattle.clause_store.specs.Store.{Store}

-- ---- the clauses of a whole circuit

-- the clauses of a circuit and its root: first those of the gates, and then the root's unit
pub record Encodes (gates : List Gate) (root : Wire) (store : Store) : Type 0 where
  pub front : List (List Literal)
  pub root_last : store.clauses ≡ front ++ (record { code = 2 * root.number } ∷ []) ∷ []
  pub few : length front ≤ 4 * length gates
  pub below : All (HasVariablesBelow (length gates)) store.clauses
  pub live : All (λ b. b ≡ true) store.live
  pub satisfiable : (bits : List Bool) → length bits ≡ inputs gates → IsSatisfiableAbove (input_wires gates) bits front
  pub only_values : (bits : List Bool) → length bits ≡ inputs gates → (v : ℕ → Bool) → IsAbove (input_wires gates) bits v → SatisfiesAll v front
      → (w : Wire) → IsWireOf gates w → v w.number ≡ wire_value gates w bits
  pub root_decides : (bits : List Bool) → length bits ≡ inputs gates → (IsSatisfiableAbove (input_wires gates) bits store.clauses ↔ (wire_value gates root bits ≡ true))

-- ---- gate by gate

-- the value of a literal, of a clause and of several clauses
abbrev pub literal_value : (ℕ → Bool) → Literal → Bool
literal_value v l = value_at v l.code

abbrev pub clause_value : (ℕ → Bool) → List Literal → Bool
clause_value v c = list_any (literal_value v) c

abbrev pub all_true : (ℕ → Bool) → List (List Literal) → Bool
all_true v clauses = list_all (clause_value v) clauses

abbrev pub same_bool : Bool → Bool → Bool
same_bool x y = if x then y else not y

-- whether an assignment gives the wire n the value of its gate; an input may have any
abbrev pub is_gate_kept : (ℕ → Bool) → ℕ → Gate → Bool
is_gate_kept v n (Input k) = true
is_gate_kept v n (Constant b) = same_bool (v n) b
is_gate_kept v n (Not x) = same_bool (v n) (gate_value [] (λ w. v w.number) (Not x))
is_gate_kept v n (And x y) = same_bool (v n) (gate_value [] (λ w. v w.number) (And x y))
is_gate_kept v n (Or x y) = same_bool (v n) (gate_value [] (λ w. v w.number) (Or x y))
is_gate_kept v n (Xor x y) = same_bool (v n) (gate_value [] (λ w. v w.number) (Xor x y))
is_gate_kept v n (Choose p x y) = same_bool (v n) (gate_value [] (λ w. v w.number) (Choose p x y))

-- whether it does so for each gate of a list that begins at wire n
abbrev pub are_gates_kept : (ℕ → Bool) → ℕ → List Gate → Bool
are_gates_kept v n [] = true
are_gates_kept v n (g ∷ gates) = is_gate_kept v n g && are_gates_kept v (n + 1) gates

-- the literals that say that a wire is true, and that it is false
pub record AreLiteralsOf (literals : Literal × Literal) (wire : ℕ) : Type 0 where
  pub on_code : literals.0.code ≡ 2 * wire
  pub off_code : literals.1.code ≡ 2 * wire + 1
  pub on : (v : ℕ → Bool) → literal_value v literals.0 ≡ v wire
  pub off : (v : ℕ → Bool) → literal_value v literals.1 ≡ not (v wire)

-- a clause that holds exactly where `told` is true, and has no literal above a code
pub record IsClauseOf (clause : List Literal) (code : ℕ) (told : (ℕ → Bool) → Bool) : Type 0 where
  pub says : (v : ℕ → Bool) → clause_value v clause ≡ told v
  pub below : (n : ℕ) → code < 2 * n → HasVariablesBelow n clause

-- at most k live clauses came in; they hold exactly where `told` is true, and have no literal above a code
pub record SaysMore (old new : Store) (k code : ℕ) (told : (ℕ → Bool) → Bool) : Type 0 where
  pub few : length new.clauses ≤ length old.clauses + k
  pub says : (v : ℕ → Bool) → all_true v new.clauses ≡ (all_true v old.clauses && told v)
  pub below : (n : ℕ) → code < 2 * n → All (HasVariablesBelow n) old.clauses → All (HasVariablesBelow n) new.clauses
  pub live : All (λ b. b ≡ true) old.live → All (λ b. b ≡ true) new.live

-- the clauses of gates that begin at wire 0
pub record EncodesGates (gates : List Gate) (store : Store) : Type 0 where
  pub few : length store.clauses ≤ 4 * length gates
  pub says : (v : ℕ → Bool) → all_true v store.clauses ≡ are_gates_kept v 0 gates
  pub below : All (HasVariablesBelow (length gates)) store.clauses
  pub live : All (λ b. b ≡ true) store.live
