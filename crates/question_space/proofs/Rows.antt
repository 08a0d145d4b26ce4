-- Choices, flags and parts of small questions.
use Rattle.std.proofs.Common.{◌≡◌, ℕ, true, false, [], ◌∷◌, refl}
use Rattle.std.specs.Prelude.{None, Some, pos}
use Rattle.clf_tree.specs.declared.vector.Question.{Question}
use Rattle.clf_tree.specs.declared.vector.Vector.{Vector}
use Rattle.question_space.specs.Choices.{Choice, chosen, chosen_question, flags}
use Rattle.question_space.specs.Encoding.{literal_of}
use Rattle.question_space.specs.Posing.{but_last}

-- the first and the third of three
two_of_three : chosen {X = ℕ} (true ∷ false ∷ true ∷ []) (4 ∷ 5 ∷ 6 ∷ []) ≡ 4 ∷ 6 ∷ []
two_of_three = refl

all_but_the_last : but_last {X = ℕ} (4 ∷ 5 ∷ 6 ∷ []) ≡ 4 ∷ 5 ∷ []
all_but_the_last = refl

-- a question without vectors, and one with a found vector and one to improve
abbrev plain : Question
plain = record { found = []; improve = None }

abbrev vector : Vector
vector = record { values = pos 7 ∷ [] }

abbrev better : Question
better = record { found = vector ∷ []; improve = Some vector }

-- the second of two constraints, without the found vector, but with the one to improve
abbrev choice : Choice
choice = record { rules = false ∷ true ∷ []; found = false ∷ []; improve = true }

flags_of_all : flags choice better ≡ true ∷ false ∷ true ∷ false ∷ true ∷ []
flags_of_all = refl

flags_of_plain : flags (record { rules = false ∷ true ∷ []; found = []; improve = true }) plain ≡ true ∷ false ∷ true ∷ []
flags_of_plain = refl

one_vector : chosen_question choice better ≡ record { found = []; improve = Some vector }
one_vector = refl

third_wire : literal_of (record { number = 3 }) ≡ record { code = 6 }
third_wire = refl
