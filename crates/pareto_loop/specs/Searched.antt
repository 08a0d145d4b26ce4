-- How the search for a front ends.
use Rattle.std.specs.Prelude.{◌≡◌, ℕ, ◌+◌, ◌^◌, ◌<◌, ◌≤◌, List, [], length, None, IsSomeAnd, IsTrue}
use Rattle.clause_store.specs.declared.clause.Literal.{Literal}
use Rattle.clause_store.specs.Store.{Store}
use Rattle.clf_tree.specs.declared.instance.Instance.{Instance}
use Rattle.clf_tree.specs.declared.vector.FrontEnd.{FrontEnd}
use Rattle.clf_tree.specs.declared.vector.FrontEnd.TheVariants.{Finished, Spent, Full}
use Rattle.clf_tree.specs.declared.vector.Point.{Point}
use Rattle.clf_tree.specs.Front.{IsOptimal, IsFront}
use Rattle.clf_tree.specs.Satisfies.{satisfies, vector_of}
use Rattle.goal_vectors.specs.Points.{vectors_of, found_of, IsOutside, ArePoints, HasMore}
use Rattle.model_reader.specs.declared.reader.Read.{Read}
use Rattle.question_space.specs.declared.spending.Spending.{Spending}
use Rattle.question_space.specs.Spendings.{IsSpending, IsClosing}
use Rattle.pareto_loop.specs.declared.searched.Halt.{Halt}
use Rattle.pareto_loop.specs.declared.searched.Searched.{Searched}

-- what the space keeps of its last question, with what was shown or spent on it
abbrev pub kept : Store → List Literal → Halt → Spending
kept clauses parts halt = record { question = halt.question; clauses = clauses; parts = parts; claim = halt.claim }

-- the question asks for any vector beyond those of the points, and what is kept shows that there is none
pub record ClosesBeyond (read : Read) (points : List Point) (clauses : Store) (parts : List Literal) (halt : Halt) : Type 0 where
  pub beyond : found_of halt.question ≡ vectors_of points
  pub any : halt.question.improve ≡ None
  pub closing : IsClosing read.model read.scopes (kept clauses parts halt)

-- the question asks for a vector beyond those of the points, and the budget is spent on it; of a model without goals only a small budget is
pub record SpendsBeyond (read : Read) (budget : ℕ) (points : List Point) (clauses : Store) (parts : List Literal)
    (halt : Halt) : Type 0 where
  pub beyond : found_of halt.question ≡ vectors_of points
  pub spending : IsSpending read.model read.scopes budget (kept clauses parts halt)
  pub small : read.model.goals ≡ [] → budget < 3 ^ (read.weight + 24)

-- the points are the whole front, with one claim for each, and one that nothing is beyond them
pub record IsFinished (read : Read) (most : ℕ) (clauses : Store) (parts : List Literal) (s : Searched) : Type 0 where
  pub whole : IsFront read.model read.scopes (vectors_of s.front.points)
  pub few : length s.front.points ≤ most
  pub claims : s.front.claims ≡ length s.front.points + 1
  pub closed : IsSomeAnd s.halt (ClosesBeyond read s.front.points clauses parts)

-- the budget of a question was spent; there is one claim for each point
pub record IsSpent (read : Read) (most budget : ℕ) (clauses : Store) (parts : List Literal) (s : Searched) : Type 0 where
  pub few : length s.front.points ≤ most
  pub claims : s.front.claims ≡ length s.front.points
  pub spent : IsSomeAnd s.halt (SpendsBeyond read budget s.front.points clauses parts)

-- there are as many points as were asked for, and a further member of the front: the vector of an instance, which is none of theirs
pub record IsFull (read : Read) (most : ℕ) (further : Instance) (s : Searched) : Type 0 where
  pub all : length s.front.points ≡ most
  pub claims : s.front.claims ≡ length s.front.points
  pub no_halt : s.halt ≡ None
  pub satisfied : IsTrue (satisfies read.model read.scopes further.entries)
  pub outside : IsOutside read.model (vectors_of s.front.points) (vector_of read.model further.entries)
  pub optimal : IsOptimal read.model read.scopes (vector_of read.model further.entries)
  pub more : HasMore read.model read.scopes (vectors_of s.front.points)

abbrev pub EndsBy : Read → ℕ → ℕ → Store → List Literal → Searched → FrontEnd → Type 0
EndsBy read most budget clauses parts s Finished = IsFinished read most clauses parts s
EndsBy read most budget clauses parts s Spent = IsSpent read most budget clauses parts s
EndsBy read most budget clauses parts s (Full further) = IsFull read most further s

-- the points are members of the front, in order, each with an instance that has its vector, however the search ended
pub record IsSearched (read : Read) (most budget : ℕ) (clauses : Store) (parts : List Literal) (s : Searched) : Type 0 where
  pub points : ArePoints read.model read.scopes s.front.points
  pub ended : EndsBy read most budget clauses parts s s.front.ended
