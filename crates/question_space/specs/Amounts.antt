-- What the wires of goals tell.
use Rattle.std.specs.Prelude.{◌≡◌, ℕ, Bool, List, [], length, map, take, ℤ, IsTrue}
use Rattle.bool_circuit.specs.declared.gate.Gate.{Gate}
use Rattle.bool_circuit.specs.declared.gate.Wire.{Wire}
use Rattle.bool_circuit.specs.Circuit.{Extends}
use Rattle.clf_tree.specs.declared.core_expr.CoreExpr.{CoreExpr}
use Rattle.clf_tree.specs.declared.instance.Entry.{Entry}
use Rattle.clf_tree.specs.declared.model.Clafer.{Clafer}
use Rattle.clf_tree.specs.declared.model.Model.{Model}
use Rattle.clf_tree.specs.declared.scopes.Scopes.{Scopes}
use Rattle.clf_tree.specs.Core.{core}
use Rattle.clf_tree.specs.CoreMeaning.{integer_in, meaning}
use Rattle.clf_tree.specs.Satisfies.{vector_of}
use Rattle.set_bits.specs.declared.layout.Layout.{Layout}
use Rattle.set_bits.specs.Fitting.{size}
use Rattle.shown_instance.specs.Shaped.{is_shaped, ShowsShaped}
use Rattle.shown_instance.specs.Shown.{shown}
use Rattle.question_space.specs.Comparisons.{AreNumbers, goal_values}
use Rattle.question_space.specs.Wiring.{truths_cost}

-- what goals mean in an instance
abbrev pub amounts : List CoreExpr → List Entry → List ℤ
amounts goals entries = map (λ x. integer_in (meaning entries (core x) [])) goals

-- at bits that show a tree of the right shape numbers are what goals mean in the instance
abbrev pub TellAmounts : List Clafer → Scopes → Layout → List Gate → List CoreExpr → List (List Wire) → Type 0
TellAmounts clafers scopes layout gates goals numbers =
    (bits : List Bool) → ShowsShaped clafers scopes layout bits → goal_values gates numbers bits ≡ amounts goals (shown layout bits)

-- the numbers of the first n goals
pub record AreGoals (clafers : List Clafer) (scopes : Scopes) (layout : Layout) (old : List Gate) (goals : List CoreExpr) (n : ℕ)
    (new : List Gate) (numbers : List (List Wire)) : Type 0 where
  pub extends : Extends old new (truths_cost scopes (take n goals))
  pub known : AreNumbers new numbers
  pub tell : TellAmounts clafers scopes layout new (take n goals) numbers

-- at shaped bits the numbers are the vector of the instance that the bits show
abbrev pub TellVector : Model → Scopes → Layout → List Gate → List (List Wire) → Type 0
TellVector model scopes layout gates numbers =
    (bits : List Bool) → length bits ≡ size layout → IsTrue (is_shaped model.clafers scopes layout bits)
    → goal_values gates numbers bits ≡ vector_of model (shown layout bits)
