-- Vectors compared with the numbers of goals on wires.
use Rattle.std.specs.Prelude.{◌≡◌, ◌+◌, ◌*◌, ℕ, Bool, true, false, List, length, map, take, ℤ}
use Rattle.std.specs.List.{All}
use Rattle.std.specs.Option.{option_map_or}
use Rattle.bool_circuit.specs.declared.gate.Gate.{Gate}
use Rattle.bool_circuit.specs.declared.gate.Wire.{Wire}
use Rattle.bool_circuit.specs.Circuit.{wire_value, wire_values, AreWiresOf, IsWireOf, Extends}
use Rattle.clf_tree.specs.declared.model.Goal.{Goal}
use Rattle.clf_tree.specs.declared.vector.Question.{Question}
use Rattle.clf_tree.specs.declared.vector.Vector.{Vector}
use Rattle.clf_tree.specs.Front.{is_better_somewhere}
use Rattle.integer_bits.specs.Numbers.{integer_at, IsNumber}
use Rattle.question_space.specs.Vectors.{question_tests, vector_cost}

-- for each goal whether the least is wanted
abbrev pub ways_in : List Goal → List Bool
ways_in goals = map (λ g. g.least) goals

-- the numbers of goals on wires
abbrev pub goal_values : List Gate → List (List Wire) → List Bool → List ℤ
goal_values gates numbers bits = map (λ ws. integer_at gates ws bits) numbers

-- each has at most 64 bits
abbrev pub AreNumbers : List Gate → List (List Wire) → Type 0
AreNumbers gates numbers = All (IsNumber 64 gates) numbers

-- whether some goal is worse, or is better, in u than in v
abbrev pub differs : Bool → List Bool → List ℤ → List ℤ → Bool
differs true ways u v = is_better_somewhere ways v u
differs false ways u v = is_better_somewhere ways u v

-- a wire tells whether some of the first n goals is worse, or is better, than in a vector
pub record IsCompared (worse : Bool) (old : List Gate) (goals : List Goal) (numbers : List (List Wire)) (vector : List ℤ) (n : ℕ)
    (new : List Gate) (wire : Wire) : Type 0 where
  pub extends : Extends old new (vector_cost n)
  pub known : IsWireOf new wire
  pub value : (bits : List Bool) → wire_value new wire bits ≡ differs worse (ways_in (take n goals)) (goal_values old numbers bits) vector

-- wires tell for each of the first n vectors whether some goal is better than in it
pub record AreBlocks (old : List Gate) (goals : List Goal) (numbers : List (List Wire)) (found : List Vector) (n : ℕ) (new : List Gate)
    (wires : List Wire) : Type 0 where
  pub extends : Extends old new (n * vector_cost (length goals))
  pub known : AreWiresOf new wires
  pub values : (bits : List Bool)
      → wire_values new wires bits ≡ map (λ f. is_better_somewhere (ways_in goals) (goal_values old numbers bits) f.values) (take n found)

-- how many wires the tests of a question take at most
abbrev pub tests_cost : ℕ → Question → ℕ
tests_cost goals question = length question.found * vector_cost goals + option_map_or (λ w. 2 * vector_cost goals + 2) question.improve 0

-- wires tell what the vectors of a question ask of the numbers
pub record AreTests (old : List Gate) (goals : List Goal) (numbers : List (List Wire)) (question : Question) (new : List Gate)
    (wires : List Wire) : Type 0 where
  pub extends : Extends old new (tests_cost (length goals) question)
  pub known : AreWiresOf new wires
  pub values : (bits : List Bool) → wire_values new wires bits ≡ question_tests (ways_in goals) question (goal_values old numbers bits)
