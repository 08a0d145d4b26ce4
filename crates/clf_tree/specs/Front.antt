-- Dominance, the order of vectors, questions, and the front.
use Rattle.std.specs.Prelude.{◌≡◌, ◌&&◌, ◌||◌, Bool, true, false, not, List, ◌∷◌, map, ℤ, int_lt, IsTrue, ◌↔◌, Contains, if◌then◌else◌}
use Rattle.std.specs.Option.{option_map_or}
use Rattle.std.specs.Ordering.{int_eq}
use Rattle.std.specs.List.{list_all}
use Rattle.clf_tree.specs.declared.model.Model.{Model}
use Rattle.clf_tree.specs.declared.vector.Question.{Question}
use Rattle.clf_tree.specs.declared.instance.Entry.{Entry}
use Rattle.clf_tree.specs.declared.scopes.Scopes.{Scopes}
use Rattle.clf_tree.specs.Lists.{each_two}
use Rattle.clf_tree.specs.Nodes.{is_ordered}
use Rattle.clf_tree.specs.Satisfies.{satisfies, vector_of}

-- x is better than y, where the least or the greatest is wanted
abbrev pub better : Bool → ℤ → ℤ → Bool
better least x y = if least then int_lt x y else int_lt y x

-- whether some goal is better in u than in v
abbrev pub is_better_somewhere : List Bool → List ℤ → List ℤ → Bool
is_better_somewhere (way ∷ ways) (x ∷ u) (y ∷ v) = better way x y || is_better_somewhere ways u v
is_better_somewhere _ _ _ = false

-- u is at least as good in every goal and better in one
abbrev pub dominates : List Bool → List ℤ → List ℤ → Bool
dominates ways u v = not (is_better_somewhere ways v u) && is_better_somewhere ways u v

-- u is better in the first goal in which they differ
abbrev pub before : List Bool → List ℤ → List ℤ → Bool
before (way ∷ ways) (x ∷ u) (y ∷ v) = better way x y || (int_eq x y && before ways u v)
before _ _ _ = false

-- better somewhere than each found vector, and dominating the one to improve
abbrev pub admits : List Bool → Question → List ℤ → Bool
admits ways question v =
    list_all (λ f. is_better_somewhere ways v f.values) question.found && option_map_or (λ w. dominates ways v w.values) question.improve true

abbrev pub ways_of : Model → List Bool
ways_of model = map (λ g. g.least) model.goals

-- an instance that satisfies and has the vector
pub record Reaches (model : Model) (scopes : Scopes) (v : List ℤ) : Type 0 where
  pub entries : List Entry
  pub ordered : IsTrue (is_ordered entries)
  pub satisfied : IsTrue (satisfies model scopes entries)
  pub has_vector : vector_of model entries ≡ v

-- reached, and dominated by no vector that is reached
pub record IsOptimal (model : Model) (scopes : Scopes) (v : List ℤ) : Type 0 where
  pub reached : Reaches model scopes v
  pub undominated : (w : List ℤ) → Reaches model scopes w → dominates (ways_of model) w v ≡ false

-- the optimal vectors, in order, each once
pub record IsFront (model : Model) (scopes : Scopes) (front : List (List ℤ)) : Type 0 where
  pub ordered : IsTrue (each_two (before (ways_of model)) front)
  pub members : (v : List ℤ) → Contains front v ↔ IsOptimal model scopes v
