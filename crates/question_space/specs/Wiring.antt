-- What the wires of constraints tell, and how many they are.
use Rattle.std.specs.Prelude.{◌≡◌, ◌+◌, ◌≤◌, int_le, ℕ, Bool, List, [], length, map, take, IsTrue}
use Rattle.std.specs.List.{All, sum_by}
use Rattle.bool_circuit.specs.declared.gate.Gate.{Gate}
use Rattle.bool_circuit.specs.declared.gate.Wire.{Wire}
use Rattle.bool_circuit.specs.Circuit.{wire_value, wire_values, AreWiresOf, IsWireOf, Extends}
use Rattle.canonical_encoder.specs.Slots.{canonical_cost}
use Rattle.clf_tree.specs.declared.core_expr.CoreExpr.{CoreExpr}
use Rattle.clf_tree.specs.declared.core_expr.CoreModel.{CoreModel}
use Rattle.clf_tree.specs.declared.instance.Entry.{Entry}
use Rattle.clf_tree.specs.declared.model.Clafer.{Clafer}
use Rattle.clf_tree.specs.declared.model.Model.{Model}
use Rattle.clf_tree.specs.declared.scopes.Scopes.{Scopes}
use Rattle.clf_tree.specs.Core.{core}
use Rattle.clf_tree.specs.CoreMeaning.{goals_in, meaning, truth_in, truths_in}
use Rattle.clf_tree.specs.CoreSoundness.{is_instance, IsSoundGoal, IsSoundTruth}
use Rattle.clf_tree.specs.CoreWeights.{core_weight}
use Rattle.clf_tree.specs.Lists.{each_pair}
use Rattle.clf_tree.specs.Named.{each, has_right_super}
use Rattle.clf_tree.specs.Satisfies.{holds, laws_of, vector_of}
use Rattle.instance_encoder.specs.Shaping.{shape_cost}
use Rattle.int_widths.specs.Weight.{model_weight}
use Rattle.relational_core.specs.Light.{is_light_goal, is_light_truth}
use Rattle.set_bits.specs.declared.layout.Layout.{Layout}
use Rattle.set_bits.specs.Fitting.{Fits, size}
use Rattle.shown_instance.specs.Consistent.{abstract_are_empty}
use Rattle.shown_instance.specs.Shaped.{ShowsShaped}
use Rattle.shown_instance.specs.Shown.{shown}
use Rattle.question_space.specs.Encoding.{all_hold}

-- how many wires truths take at most: what they weigh
abbrev pub truths_cost : Scopes → List CoreExpr → ℕ
truths_cost scopes truths = sum_by (λ x. core_weight scopes (core x)) truths

-- what truths mean in an instance
abbrev pub meanings : List CoreExpr → List Entry → List Bool
meanings truths entries = map (λ x. truth_in (meaning entries (core x) [])) truths

-- at bits that show a tree of the right shape wires have the values that truths have in the instance
abbrev pub TellTruths : List Clafer → Scopes → Layout → List Gate → List CoreExpr → List Wire → Type 0
TellTruths clafers scopes layout gates truths wires =
    (bits : List Bool) → ShowsShaped clafers scopes layout bits → wire_values gates wires bits ≡ meanings truths (shown layout bits)

-- the wires of the first n truths
pub record AreRulesSoFar (clafers : List Clafer) (scopes : Scopes) (layout : Layout) (old : List Gate) (truths : List CoreExpr) (n : ℕ)
    (new : List Gate) (wires : List Wire) : Type 0 where
  pub extends : Extends old new (truths_cost scopes (take n truths))
  pub known : AreWiresOf new wires
  pub count : length wires ≡ n
  pub tell : TellTruths clafers scopes layout new (take n truths) wires

-- the wires of all truths
abbrev pub AreRules : List Clafer → Scopes → Layout → List Gate → List CoreExpr → List Gate → List Wire → Type 0
AreRules clafers scopes layout old truths = AreRulesSoFar clafers scopes layout old truths (length truths)

-- a wire is true where the first and n others are
pub record IsConjunctionSoFar (old : List Gate) (first : Wire) (others : List Wire) (n : ℕ) (new : List Gate) (wire : Wire) : Type 0 where
  pub extends : Extends old new n
  pub known : IsWireOf new wire
  pub value : (bits : List Bool) → wire_value new wire bits ≡ all_hold old first (take n others) bits

-- truths, and goals, that are sound, with no node bound
abbrev pub AreSound : List Clafer → Scopes → List CoreExpr → Type 0
AreSound clafers scopes truths = All (λ x. IsSoundTruth clafers scopes (core x)) truths

abbrev pub AreSoundGoals : List Clafer → Scopes → List CoreExpr → Type 0
AreSoundGoals clafers scopes goals = All (λ x. IsSoundGoal clafers scopes (core x)) goals

-- how many wires the layout, the structure, truths and a conjunction of them take at most
abbrev pub wires_cost : Model → Scopes → Layout → List CoreExpr → ℕ
wires_cost model scopes layout truths =
    size layout + shape_cost model.clafers scopes layout + canonical_cost layout + (truths_cost scopes truths + length truths)

-- the relational model of a model: each constraint has a sound truth with its meaning, lighter than the constraint, and each goal a sound
-- number with its value, no heavier than the goal
pub record IsLowered (model : Model) (scopes : Scopes) (core_model : CoreModel) : Type 0 where
  pub same : core_model.clafers ≡ model.clafers
  pub meaning_is : (entries : List Entry) → IsTrue (is_instance model.clafers scopes entries)
      → truths_in core_model entries ≡ map (holds model.clafers entries) (laws_of model)
  pub sound : AreSound model.clafers scopes core_model.truths
  pub light : IsTrue (each_pair (is_light_truth model.clafers scopes) core_model.truths model.rules)
  pub goals_are : (entries : List Entry) → IsTrue (is_instance model.clafers scopes entries)
      → goals_in core_model entries ≡ vector_of model entries
  pub sound_goals : AreSoundGoals core_model.clafers scopes core_model.goals
  pub light_goals : IsTrue (each_pair (is_light_goal model.clafers scopes) core_model.goals model.goals)

-- the layout, the structure, truths that are lighter than the constraints, and a conjunction of them take no more wires than the model
-- weighs, where it weighs 8,000,000 at most; supers are abstract, abstract clafers have the scope 0, and the range of integers is not empty
abbrev pub AreWithinWeight : Model → Scopes → Layout → List CoreExpr → Type 0
AreWithinWeight model scopes layout truths =
    Fits model.clafers scopes layout → IsTrue (abstract_are_empty model.clafers scopes)
    → IsTrue (each model.clafers (has_right_super model.clafers))
    → IsTrue (int_le scopes.low scopes.high)
    → IsTrue (each_pair (is_light_truth model.clafers scopes) truths model.rules) → model_weight scopes model ≤ 8000000
    → wires_cost model scopes layout truths ≤ model_weight scopes model

-- and with goals that are no heavier than those of the model, their numbers are within it too
abbrev pub AreGoalsWithinWeight : Model → Scopes → Layout → List CoreExpr → List CoreExpr → Type 0
AreGoalsWithinWeight model scopes layout truths goals =
    Fits model.clafers scopes layout → IsTrue (abstract_are_empty model.clafers scopes)
    → IsTrue (each model.clafers (has_right_super model.clafers))
    → IsTrue (int_le scopes.low scopes.high)
    → IsTrue (each_pair (is_light_truth model.clafers scopes) truths model.rules)
    → IsTrue (each_pair (is_light_goal model.clafers scopes) goals model.goals) → model_weight scopes model ≤ 8000000
    → wires_cost model scopes layout truths + truths_cost scopes goals ≤ model_weight scopes model
