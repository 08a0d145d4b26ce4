-- What the vectors of a question ask of a vector, and how many wires they take.
use Rattle.std.specs.Prelude.{ℕ, ◌+◌, ◌*◌, Bool, List, [], ◌∷◌, ◌++◌, length, map, ℤ}
use Rattle.std.specs.Option.{option_map_or}
use Rattle.clf_tree.specs.declared.vector.Question.{Question}
use Rattle.clf_tree.specs.Front.{is_better_somewhere, dominates}

-- for each found vector whether v is better somewhere, and for the one to improve whether v dominates it
abbrev pub question_tests : List Bool → Question → List ℤ → List Bool
question_tests ways question v =
    map (λ f. is_better_somewhere ways v f.values) question.found
    ++ option_map_or (λ w. dominates ways v w.values ∷ []) question.improve []

-- how many wires a comparison with a vector takes at most, of so many goals: a constant and two wires a bit for each
abbrev pub vector_cost : ℕ → ℕ
vector_cost goals = 1 + goals * 1035

-- how many wires a question takes at most: a comparison for each found vector, two for the one to improve, and their conjunction
abbrev pub question_cost : ℕ → Question → ℕ
question_cost goals question =
    length question.found * (vector_cost goals + 1)
    + option_map_or (λ w. 2 * vector_cost goals + 3) question.improve 0
