-- Points of a front, and questions that no instance answers.
use Rattle.std.specs.Prelude.{◌≡◌, ℕ, ◌<◌, false, List, map, ℤ, IsTrue}
use Rattle.std.specs.List.{All, Contains, list_all}
use Rattle.clf_tree.specs.declared.model.Model.{Model}
use Rattle.clf_tree.specs.declared.scopes.Scopes.{Scopes}
use Rattle.clf_tree.specs.declared.vector.Point.{Point}
use Rattle.clf_tree.specs.declared.vector.Question.{Question}
use Rattle.clf_tree.specs.Lists.{each_two}
use Rattle.clf_tree.specs.Satisfies.{satisfies, vector_of}
use Rattle.clf_tree.specs.Front.{is_better_somewhere, dominates, before, admits, ways_of, Reaches, IsOptimal}

-- the vectors of points
abbrev pub vectors_of : List Point → List (List ℤ)
vectors_of points = map (λ p. p.vector.values) points

-- the vectors that a question names as found
abbrev pub found_of : Question → List (List ℤ)
found_of question = map (λ f. f.values) question.found

-- better somewhere than each of these vectors
abbrev pub IsOutside : Model → List (List ℤ) → List ℤ → Type 0
IsOutside model vectors v = IsTrue (list_all (is_better_somewhere (ways_of model) v) vectors)

-- the question admits no vector that is reached
abbrev pub IsUnanswered : Model → Scopes → Question → Type 0
IsUnanswered model scopes question = (v : List ℤ) → Reaches model scopes v → admits (ways_of model) question v ≡ false

-- the instance of a point satisfies, and has the point's vector
pub record IsWitnessed (model : Model) (scopes : Scopes) (p : Point) : Type 0 where
  pub satisfied : IsTrue (satisfies model scopes p.witness.entries)
  pub has_vector : vector_of model p.witness.entries ≡ p.vector.values

-- members of the front, in order, each with an instance that has its vector
pub record ArePoints (model : Model) (scopes : Scopes) (points : List Point) : Type 0 where
  pub ordered : IsTrue (each_two (before (ways_of model)) (vectors_of points))
  pub optimal : All (IsOptimal model scopes) (vectors_of points)
  pub witnessed : All (IsWitnessed model scopes) points

-- not all members of the front are among these vectors
abbrev pub HasMore : Model → Scopes → List (List ℤ) → Type 0
HasMore model scopes vectors = ((v : List ℤ) → IsOptimal model scopes v → Contains vectors v) → ⊥

-- a number that is less of every reached vector than of each one that it dominates
abbrev pub FallsByDominance : Model → Scopes → (List ℤ → ℕ) → Type 0
FallsByDominance model scopes gap =
    (u w : List ℤ) → Reaches model scopes u → Reaches model scopes w → IsTrue (dominates (ways_of model) u w) → gap u < gap w
