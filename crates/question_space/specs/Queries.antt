-- A question on the wires of a model, and what answers it.
use Rattle.std.specs.Prelude.{◌≡◌, ◌≤◌, ◌+◌, ◌^◌, ℕ, Bool, List, ◌++◌, length, IsTrue}
use Rattle.std.specs.List.{All}
use Rattle.std.specs.Option.{option_map_or}
use Rattle.bool_circuit.specs.declared.gate.Gate.{Gate}
use Rattle.bool_circuit.specs.declared.gate.Wire.{Wire}
use Rattle.bool_circuit.specs.Circuit.{wire_value, wire_values, AreWiresOf, IsWireOf}
use Rattle.clause_store.specs.Literals.{HasVariablesBelow}
use Rattle.clf_tree.specs.declared.model.Model.{Model}
use Rattle.clf_tree.specs.declared.scopes.Scopes.{Scopes}
use Rattle.clf_tree.specs.declared.vector.Question.{Question}
use Rattle.clf_tree.specs.Front.{ways_of}
use Rattle.clf_tree.specs.Satisfies.{vector_of}
use Rattle.model_reader.specs.declared.reader.Read.{Read}
use Rattle.set_bits.specs.declared.layout.Layout.{Layout}
use Rattle.set_bits.specs.Fitting.{size}
use Rattle.shown_instance.specs.Shaped.{is_shaped}
use Rattle.shown_instance.specs.Shown.{shown}
use Rattle.question_space.specs.declared.encoded.Encoded.{Encoded}
use Rattle.question_space.specs.declared.replies.Reply.{Reply}
use Rattle.question_space.specs.Asking.{AreCompleteFor, AreExactFor, ArePosedFor, IsAnswerFor, IsCanonicalFor, IsSettled}
use Rattle.question_space.specs.Encoding.{IsOnWires, IsWired, all_hold}
use Rattle.question_space.specs.Comparisons.{AreNumbers}
use Rattle.question_space.specs.Amounts.{TellVector}
use Rattle.question_space.specs.Vectors.{question_cost, question_tests}

-- the model on wires, with the numbers of its goals
pub record HasGoals (model : Model) (scopes : Scopes) (limit : ℕ) (layout : Layout) (gates : List Gate) (structure : Wire)
    (rules : List Wire) (whole : Wire) (numbers : List (List Wire)) : Type 0 where
  pub wired : IsWired model scopes limit layout gates structure rules whole
  pub numbers_in : AreNumbers gates numbers
  pub tell : TellVector model scopes layout gates numbers

-- at shaped bits wires tell what the vectors of a question ask of the vector of the instance that the bits show
abbrev pub TellTests : Model → Scopes → Question → Layout → List Gate → List Wire → Type 0
TellTests model scopes question layout gates tests =
    (bits : List Bool) → length bits ≡ size layout → IsTrue (is_shaped model.clafers scopes layout bits)
    → wire_values gates tests bits ≡ question_tests (ways_of model) question (vector_of model (shown layout bits))

-- the model on wires, a wire for each vector of the question, and one that is true where structure, constraints and vectors are
pub record IsAsked (model : Model) (scopes : Scopes) (question : Question) (limit : ℕ) (layout : Layout) (gates : List Gate)
    (structure : Wire) (rules tests : List Wire) (root : Wire) : Type 0 where
  pub wires : IsOnWires model scopes layout gates structure rules
  pub tests_in : AreWiresOf gates tests
  pub many : length tests ≡ length question.found + option_map_or (λ v. 1) question.improve 0
  pub tests_are : TellTests model scopes question layout gates tests
  pub root_in : IsWireOf gates root
  pub root_is : (bits : List Bool) → wire_value gates root bits ≡ all_hold gates structure (rules ++ tests) bits
  pub few : length gates ≤ limit

-- how many wires a question takes at most
abbrev pub limit_of : Read → Question → ℕ
limit_of read question = read.weight + question_cost (length read.model.goals) question

-- a question to a model that was read
pub record IsAskedFor (read : Read) (question : Question) (layout : Layout) (e : Encoded) (tests : List Wire) (root : Wire) : Type 0 where
  pub same : e.core.clafers ≡ read.model.clafers
  pub asked : IsAsked read.model read.scopes question (limit_of read question) layout e.circuit e.structure e.rules tests root

-- clauses that pose the question, its parts, and its answer
pub record IsReply (read : Read) (question : Question) (layout : Layout) (budget : ℕ) (r : Reply) : Type 0 where
  pub light : All (HasVariablesBelow (limit_of read question)) r.clauses.clauses
  pub exact : AreExactFor read question layout r.clauses.clauses
  pub complete : AreCompleteFor read question layout r.clauses.clauses
  pub posed : ArePosedFor read question r.clauses.clauses r.parts
  pub answer : IsAnswerFor read question budget r.clauses.clauses r.answer
  pub canonical : IsCanonicalFor read r.answer
  pub enough : 3 ^ (limit_of read question) ≤ budget → IsSettled r.answer
