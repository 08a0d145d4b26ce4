-- Choices among the constraints of a model and the vectors of a question.
use Rattle.std.specs.Prelude.{◌≡◌, Bool, true, List, [], ◌∷◌, ◌++◌, length, None, if◌then◌else◌}
use Rattle.std.specs.Option.{option_map_or}
use Rattle.clf_tree.specs.declared.model.Model.{Model}
use Rattle.clf_tree.specs.declared.vector.Question.{Question}

-- the items whose flags are true
abbrev pub chosen : {X : Type 0} → List Bool → List X → List X
chosen (b ∷ bs) (x ∷ xs) = if b then x ∷ chosen bs xs else chosen bs xs
chosen _ _ = []

-- which constraints, which found vectors, and whether the vector to improve is taken; the structure always is
pub record Choice : Type 0 where
  pub rules : List Bool
  pub found : List Bool
  pub improve : Bool

-- a choice has a flag for each constraint and for each found vector
pub record IsChoice (model : Model) (question : Question) (choice : Choice) : Type 0 where
  pub rules : length choice.rules ≡ length model.rules
  pub found : length choice.found ≡ length question.found

-- the model with the chosen constraints alone, and the question with the chosen vectors alone
abbrev pub chosen_model : Choice → Model → Model
chosen_model choice model = record model { rules = chosen choice.rules model.rules }

abbrev pub chosen_question : Choice → Question → Question
chosen_question choice question =
    record { found = chosen choice.found question.found; improve = if choice.improve then question.improve else None }

-- the flags of the parts, in their order: structure, constraints, found vectors, the vector to improve where there is one
abbrev pub flags : Choice → Question → List Bool
flags choice question = true ∷ (choice.rules ++ (choice.found ++ option_map_or (λ v. choice.improve ∷ []) question.improve []))
