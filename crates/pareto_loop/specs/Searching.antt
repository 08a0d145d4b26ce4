-- What the steps of a search for a front give.
use Rattle.std.specs.Prelude.{◌≡◌, ℕ, ◌+◌, ◌*◌, ◌<◌, true, List, length, Option, Some, None, is_none, cond, IsTrue}
use Rattle.std.specs.Option.{option_map_or}
use Rattle.clause_store.specs.declared.clause.Literal.{Literal}
use Rattle.clause_store.specs.Store.{Store}
use Rattle.clf_tree.specs.declared.instance.Instance.{Instance}
use Rattle.clf_tree.specs.declared.vector.Point.{Point}
use Rattle.clf_tree.specs.declared.vector.Question.{Question}
use Rattle.clf_tree.specs.declared.vector.Vector.{Vector}
use Rattle.clf_tree.specs.Front.{dominates, ways_of, IsOptimal, IsFront}
use Rattle.clf_tree.specs.Satisfies.{satisfies, vector_of}
use Rattle.goal_vectors.specs.Points.{vectors_of, found_of, IsOutside, IsUnanswered, IsWitnessed, HasMore}
use Rattle.model_reader.specs.declared.reader.Read.{Read}
use Rattle.question_space.specs.declared.claims.Answer.{Answer}
use Rattle.question_space.specs.declared.claims.Answer.TheVariants as answer
use Rattle.question_space.specs.Spendings.{IsClosing}
use Rattle.pareto_loop.specs.declared.aims.Stride.{Stride}
use Rattle.pareto_loop.specs.declared.asking.Told.{Told}
use Rattle.pareto_loop.specs.declared.asking.Told.TheVariants as told
use Rattle.pareto_loop.specs.declared.improving.Climb.{Climb}
use Rattle.pareto_loop.specs.declared.improving.Turn.{Turn}
use Rattle.pareto_loop.specs.declared.improving.Turn.TheVariants as turn
use Rattle.pareto_loop.specs.declared.improving.Improved.{Improved}
use Rattle.pareto_loop.specs.declared.improving.Improved.TheVariants as improved
use Rattle.pareto_loop.specs.declared.searched.Halt.{Halt}
use Rattle.pareto_loop.specs.declared.searching.Next.{Next}
use Rattle.pareto_loop.specs.declared.searching.Next.TheVariants as next
use Rattle.pareto_loop.specs.Gaps.{gap}
use Rattle.pareto_loop.specs.Searched.{kept, ClosesBeyond, SpendsBeyond}

-- an answer, with its question where there is none
abbrev pub told_of : Question → Answer → Told
told_of question (answer.Found instance) = told.Found instance
told_of question (answer.Empty claim) = told.Empty (record { question = question; claim = claim })
told_of question (answer.Spent claim) = told.Spent (record { question = question; claim = claim })

-- an instance that satisfies, with a vector beyond those of the points, which dominates the one to improve, if there is one
pub record IsBeyond (read : Read) (points : List Point) (improve : Option Vector) (found : Instance) : Type 0 where
  pub satisfied : IsTrue (satisfies read.model read.scopes found.entries)
  pub outside : IsOutside read.model (vectors_of points) (vector_of read.model found.entries)
  pub improves : IsTrue (option_map_or (λ w. dominates (ways_of read.model) (vector_of read.model found.entries) w.values) improve true)

-- there is no such instance, and what is kept shows it
pub record NothingBeyond (read : Read) (points : List Point) (improve : Option Vector) (clauses : Store) (parts : List Literal)
    (halt : Halt) : Type 0 where
  pub beyond : found_of halt.question ≡ vectors_of points
  pub asked : halt.question.improve ≡ improve
  pub unanswered : IsUnanswered read.model read.scopes halt.question
  pub closing : IsClosing read.model read.scopes (kept clauses parts halt)

-- what a question beyond the points gave
abbrev pub IsTold : Read → ℕ → List Point → Option Vector → Store → List Literal → Told → Type 0
IsTold read budget points improve clauses parts (told.Found instance) = IsBeyond read points improve instance
IsTold read budget points improve clauses parts (told.Empty halt) = NothingBeyond read points improve clauses parts halt
IsTold read budget points improve clauses parts (told.Spent halt) = SpendsBeyond read budget points clauses parts halt

-- an instance on the way to a point: beyond the points, with its own vector
pub record IsOnTheWay (read : Read) (points : List Point) (p : Point) : Type 0 where
  pub witnessed : IsWitnessed read.model read.scopes p
  pub outside : IsOutside read.model (vectors_of points) p.vector.values

-- a further point: besides, no instance dominates it
pub record IsFurther (read : Read) (points : List Point) (p : Point) : Type 0 where
  pub way : IsOnTheWay read points p
  pub optimal : IsOptimal read.model read.scopes p.vector.values

-- how far it is from one that nothing improves; a stride that may be too long counts one
abbrev pub rest_of : Read → Climb → ℕ
rest_of read climb = 2 * gap (ways_of read.model) climb.best.vector.values + cond (is_none climb.stride) 0 1

-- one question on the way: less is left, or it was the last
abbrev pub IsTurn : Read → ℕ → List Point → Store → List Literal → Climb → Turn → Type 0
IsTurn read budget points clauses parts climb (turn.On next) = IsOnTheWay read points next.best × (rest_of read next < rest_of read climb)
IsTurn read budget points clauses parts climb (turn.Top point) = IsFurther read points point
IsTurn read budget points clauses parts climb (turn.Spent halt) = SpendsBeyond read budget points clauses parts halt

-- the end of the way
abbrev pub IsImproved : Read → ℕ → List Point → Store → List Literal → Improved → Type 0
IsImproved read budget points clauses parts (improved.Best point) = IsFurther read points point
IsImproved read budget points clauses parts (improved.Spent halt) = SpendsBeyond read budget points clauses parts halt

-- nothing is beyond the points, so they are the whole front
pub record IsLast (read : Read) (points : List Point) (clauses : Store) (parts : List Literal) (halt : Halt) : Type 0 where
  pub whole : IsFront read.model read.scopes (vectors_of points)
  pub closed : ClosesBeyond read points clauses parts halt

-- beside as many points as were asked for, an instance whose vector is a further member of the front
pub record IsOneMore (read : Read) (most : ℕ) (points : List Point) (further : Instance) : Type 0 where
  pub all : length points ≡ most
  pub satisfied : IsTrue (satisfies read.model read.scopes further.entries)
  pub outside : IsOutside read.model (vectors_of points) (vector_of read.model further.entries)
  pub optimal : IsOptimal read.model read.scopes (vector_of read.model further.entries)
  pub more : HasMore read.model read.scopes (vectors_of points)

-- one turn of the search
abbrev pub IsNext : Read → ℕ → ℕ → List Point → Store → List Literal → Next → Type 0
IsNext read most budget points clauses parts (next.Another point) = IsFurther read points point × (length points < most)
IsNext read most budget points clauses parts (next.Finished halt) = IsLast read points clauses parts halt
IsNext read most budget points clauses parts (next.Spent halt) = SpendsBeyond read budget points clauses parts halt
IsNext read most budget points clauses parts (next.Full instance) = IsOneMore read most points instance

-- after a question that found nothing: the best is the top, or a stride too long is left out
abbrev pub settled_from : Point → Option Stride → ℕ → Turn
settled_from best None steps = turn.Top best
settled_from best (Some s) steps = turn.On (record { best = best; stride = None; steps = steps })

abbrev pub next_of : Improved → Next
next_of (improved.Best point) = next.Another point
next_of (improved.Spent halt) = next.Spent halt

-- the same where there are enough points
abbrev pub full_of : Improved → Next
full_of (improved.Best point) = next.Full point.witness
full_of (improved.Spent halt) = next.Spent halt
