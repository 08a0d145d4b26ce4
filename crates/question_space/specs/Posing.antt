-- When clauses, with the literals of their parts, pose a question.
use Rattle.std.specs.Prelude.{◌≡◌, ◌↔◌, ◌+◌, ◌-◌, ◌<◌, List, [], ◌∷◌, ◌++◌, length, map, take, IsTrue}
use Rattle.std.specs.Option.{option_map_or}
use Rattle.clause_store.specs.declared.clause.Literal.{Literal}
use Rattle.clause_store.specs.Satisfaction.{Assignment, SatisfiesAll}
use Rattle.clf_tree.specs.declared.instance.Entry.{Entry}
use Rattle.clf_tree.specs.declared.model.Model.{Model}
use Rattle.clf_tree.specs.declared.scopes.Scopes.{Scopes}
use Rattle.clf_tree.specs.declared.vector.Question.{Question}
use Rattle.clf_tree.specs.Front.{admits, ways_of}
use Rattle.clf_tree.specs.Nodes.{is_ordered}
use Rattle.clf_tree.specs.Satisfies.{satisfies, vector_of}
use Rattle.question_space.specs.Choices.{Choice, IsChoice, chosen, chosen_model, chosen_question, flags}

-- an instance that satisfies the model and whose vector the question admits
pub record Answers (model : Model) (scopes : Scopes) (question : Question) : Type 0 where
  pub entries : List Entry
  pub ordered : IsTrue (is_ordered entries)
  pub satisfied : IsTrue (satisfies model scopes entries)
  pub admitted : IsTrue (admits (ways_of model) question (vector_of model entries))

-- some assignment satisfies the clauses
abbrev pub IsSatisfiable : List (List Literal) → Type 0
IsSatisfiable clauses = (v : Assignment) × SatisfiesAll v clauses

-- all items but the last, and the clause of one literal
abbrev pub but_last : {X : Type 0} → List X → List X
but_last xs = take (length xs - 1) xs

abbrev pub unit : Literal → List Literal
unit literal = literal ∷ []

-- the chosen parts as units, behind all clauses but the last
abbrev pub chosen_clauses : Choice → Question → List (List Literal) → List Literal → List (List Literal)
chosen_clauses choice question clauses parts = but_last clauses ++ map unit (chosen (flags choice question) parts)

-- the clauses have a solution exactly where the question has an answer; and without the last clause, with any choice of the parts as
-- units, exactly where the chosen model has an instance whose vector the chosen question admits
pub record IsPosed (model : Model) (scopes : Scopes) (question : Question) (clauses : List (List Literal))
    (parts : List Literal) : Type 0 where
  pub whole : IsSatisfiable clauses ↔ Answers model scopes question
  pub count : length parts ≡ 1 + length model.rules + length question.found + option_map_or (λ v. 1) question.improve 0
  pub some : 0 < length clauses
  pub each : (choice : Choice) → IsChoice model question choice
      → IsSatisfiable (chosen_clauses choice question clauses parts)
      ↔ Answers (chosen_model choice model) scopes (chosen_question choice question)
