-- What is chosen of a list, and what a question asks of a vector.
use Rattle.std.proofs.Common.{◌≡◌, ◌+◌, Bool, true, false, ◌&&◌, List, [], ◌∷◌, ◌++◌, length, map, refl, sym, ap, ◌∙◌, arith}
use Rattle.std.specs.Prelude.{ℤ, Option, Some, None, if◌then◌else◌}
use Rattle.std.specs.List.{All, list_all}
use Rattle.std.specs.Option.{option_map_or}
use Rattle.std.proofs.lemmas.List.Elements.{All-head, All-tail, All-nil, All-cons}
use Rattle.clf_tree.specs.declared.vector.Question.{Question}
use Rattle.clf_tree.specs.declared.vector.Vector.{Vector}
use Rattle.clf_tree.specs.Front.{admits, dominates, is_better_somewhere}
use Rattle.question_space.specs.Asking.{HasNoVectors}
use Rattle.question_space.specs.Choices.{Choice, chosen, chosen_question}
use Rattle.question_space.specs.Vectors.{question_tests}

-- of the values of a function those of the chosen items
pub chosen-map : {X Y : Type 0} (f : X → Y) (fs : List Bool) (xs : List X) → chosen fs (map f xs) ≡ map f (chosen fs xs)
chosen-map f [] xs = refl
chosen-map f (b ∷ fs) [] = refl
chosen-map f (true ∷ fs) (x ∷ xs) = ap (λ ys. f x ∷ ys) (chosen-map f fs xs)
chosen-map f (false ∷ fs) (x ∷ xs) = chosen-map f fs xs

-- with a flag for each of the first items, of two lists those chosen of each
pub chosen-append : {X : Type 0} (fs gs : List Bool) (xs ys : List X) → length fs ≡ length xs
    → chosen (fs ++ gs) (xs ++ ys) ≡ chosen fs xs ++ chosen gs ys
chosen-append [] gs [] ys e = refl
chosen-append [] gs (x ∷ xs) ys e = absurd (omega (arith, e))
chosen-append (b ∷ fs) gs [] ys e = absurd (omega (arith, e))
chosen-append (true ∷ fs) gs (x ∷ xs) ys e = ap (λ zs. x ∷ zs) (chosen-append fs gs xs ys (omega (arith, e)))
chosen-append (false ∷ fs) gs (x ∷ xs) ys e = chosen-append fs gs xs ys (omega (arith, e))

-- what holds of each item holds of each chosen one
pub All-chosen : {X : Type 0} (P : X → Type 0) (fs : List Bool) (xs : List X) → All P xs → All P (chosen fs xs)
All-chosen P [] xs h = All-nil P
All-chosen P (b ∷ fs) [] h = All-nil P
All-chosen P (true ∷ fs) (x ∷ xs) h = All-cons P x (chosen fs xs) (All-head P x xs h) (All-chosen P fs xs (All-tail P x xs h))
All-chosen P (false ∷ fs) (x ∷ xs) h = All-chosen P fs xs (All-tail P x xs h)

-- all of two lists are true where all of each are
pub all_append : (xs ys : List Bool) → list_all (λ b. b) (xs ++ ys) ≡ (list_all (λ b. b) xs && list_all (λ b. b) ys)
all_append [] ys = refl
all_append (true ∷ xs) ys = all_append xs ys
all_append (false ∷ xs) ys = refl

pub all_of_map : {X : Type 0} (test : X → Bool) (xs : List X) → list_all (λ b. b) (map test xs) ≡ list_all test xs
all_of_map test [] = refl
all_of_map test (x ∷ xs) = ap (λ b. test x && b) (all_of_map test xs)

and_true : (b : Bool) → (b && true) ≡ b
and_true true = refl
and_true false = refl

-- the tests of the vector to improve, and their conjunction
abbrev last_tests : List Bool → Option Vector → List ℤ → List Bool
last_tests ways improve v = option_map_or (λ w. dominates ways v w.values ∷ []) improve []

last_admits : (ways : List Bool) (improve : Option Vector) (v : List ℤ)
    → list_all (λ b. b) (last_tests ways improve v) ≡ option_map_or (λ w. dominates ways v w.values) improve true
last_admits ways None v = refl
last_admits ways (Some w) v = and_true (dominates ways v w.values)

-- a question admits a vector where all its tests are true
pub tests_admit : (ways : List Bool) (question : Question) (v : List ℤ)
    → list_all (λ b. b) (question_tests ways question v) ≡ admits ways question v
tests_admit ways question v =
    let first : Vector → Bool = λ (f : Vector). is_better_somewhere ways v f.values in
    all_append (map first question.found) (last_tests ways question.improve v)
    ∙ ap (λ b. b && list_all (λ c. c) (last_tests ways question.improve v)) (all_of_map first question.found)
    ∙ ap (λ b. list_all first question.found && b) (last_admits ways question.improve v)

-- the flags of the vectors of a question
abbrev pub vector_flags : Choice → Question → List Bool
vector_flags choice question = choice.found ++ option_map_or (λ v. choice.improve ∷ []) question.improve []

-- of the test of the vector to improve and its flag
last_chosen : (ways : List Bool) (flag : Bool) (improve : Option Vector) (v : List ℤ)
    → chosen (option_map_or (λ w. flag ∷ []) improve []) (last_tests ways improve v) ≡ last_tests ways (if flag then improve else None) v
last_chosen ways true None v = refl
last_chosen ways false None v = refl
last_chosen ways true (Some w) v = refl
last_chosen ways false (Some w) v = refl

-- the chosen tests are those of the chosen question
pub chosen_tests : (ways : List Bool) (choice : Choice) (question : Question) (v : List ℤ) → length choice.found ≡ length question.found
    → chosen (vector_flags choice question) (question_tests ways question v) ≡ question_tests ways (chosen_question choice question) v
chosen_tests ways choice question v count =
    let first : Vector → Bool = λ (f : Vector). is_better_somewhere ways v f.values in
    let long : length choice.found ≡ length (map first question.found) = count ∙ sym (length_map first question.found) in
    chosen-append choice.found (option_map_or (λ w. choice.improve ∷ []) question.improve []) (map first question.found)
    (last_tests ways question.improve v) long
    ∙ ap (λ bs. bs ++ chosen (option_map_or (λ w. choice.improve ∷ []) question.improve []) (last_tests ways question.improve v))
    (chosen-map first choice.found question.found)
    ∙ ap (λ bs. map first (chosen choice.found question.found) ++ bs) (last_chosen ways choice.improve question.improve v)
  where
    length_map : {X : Type 0} (test : X → Bool) (xs : List X) → length (map test xs) ≡ length xs
    length_map test [] = refl
    length_map test (x ∷ xs) = omega (arith, length_map test xs)

-- a question without vectors has no tests
pub no_tests : (ways : List Bool) (question : Question) (v : List ℤ) → HasNoVectors question → question_tests ways question v ≡ []
no_tests ways question v (found, improve) = rw (found, improve) refl
