-- Fronts, as far as they were found, and what the last question about them leaves.
use Rattle.std.specs.Prelude.{◌≡◌, ◌≢◌, ℕ, ◌+◌, ◌^◌, ◌<◌, ◌≤◌, List, [], length, None, ℤ, IsTrue}
use Rattle.clf_tree.specs.declared.instance.Instance.{Instance}
use Rattle.clf_tree.specs.declared.vector.Front.{Front}
use Rattle.clf_tree.specs.declared.vector.FrontEnd.{FrontEnd}
use Rattle.clf_tree.specs.declared.vector.FrontEnd.TheVariants.{Finished, Spent, Full}
use Rattle.clf_tree.specs.declared.vector.Question.{Question}
use Rattle.clf_tree.specs.Front.{IsFront, IsOptimal}
use Rattle.clf_tree.specs.Satisfies.{satisfies, vector_of}
use Rattle.any_instance.specs.Settled.{IsRefuted}
use Rattle.goal_vectors.specs.Points.{vectors_of, found_of, ArePoints, IsOutside}
use Rattle.model_reader.specs.declared.reader.Read.{Read}
use Rattle.question_space.specs.declared.spending.Spending.{Spending}
use Rattle.question_space.specs.Spendings.{IsSpending, IsClosing}

-- the most points that a front is told with
abbrev pub most_points : ℕ
most_points = 1024

-- the question asks for any vector that is better somewhere than each of these
abbrev pub AsksBeyond : List (List ℤ) → Question → Type 0
AsksBeyond vectors question = (found_of question ≡ vectors) × (question.improve ≡ None)

-- the points are the whole front, in order, each with an instance that has its vector, with a claim for each and one more; and what is
-- handed back refutes the question for any vector beyond them
pub record IsWhole (read : Read) (closed : Spending) (found : Front) : Type 0 where
  pub points : ArePoints read.model read.scopes found.points
  pub whole : IsFront read.model read.scopes (vectors_of found.points)
  pub some : found.points ≢ []
  pub few : length found.points ≤ most_points
  pub ended : found.ended ≡ Finished
  pub claims : found.claims ≡ length found.points + 1
  pub closing : IsClosing read.model read.scopes closed
  pub beyond : AsksBeyond (vectors_of found.points) closed.question

-- the points are members of the front, in order, each with an instance that has its vector, with a claim for each; and the budget is
-- spent on a question beyond them, which comes without goals only where it is below 3 to the power of the weight and 24
pub record IsPart (read : Read) (budget : ℕ) (spent : Spending) (found : Front) : Type 0 where
  pub points : ArePoints read.model read.scopes found.points
  pub few : length found.points ≤ most_points
  pub ended : found.ended ≡ Spent
  pub claims : found.claims ≡ length found.points
  pub spending : IsSpending read.model read.scopes budget spent
  pub beyond : found_of spent.question ≡ vectors_of found.points
  pub short : read.model.goals ≡ [] → budget < 3 ^ (read.weight + 24)

-- the points are members of the front, in order, each with an instance that has its vector, with a claim for each; they are as many as
-- are told, and the front has a further member: the vector of an instance, which is none of theirs
pub record IsTooLong (read : Read) (found : Front) : Type 0 where
  pub points : ArePoints read.model read.scopes found.points
  pub all : length found.points ≡ most_points
  pub further : Instance
  pub satisfied : IsTrue (satisfies read.model read.scopes further.entries)
  pub optimal : IsOptimal read.model read.scopes (vector_of read.model further.entries)
  pub outside : IsOutside read.model (vectors_of found.points) (vector_of read.model further.entries)
  pub ended : found.ended ≡ Full further
  pub claims : found.claims ≡ length found.points

-- what a closed or a spent question leaves, by how the search ended
abbrev pub IsHalted : Read → ℕ → Spending → Front → FrontEnd → Type 0
IsHalted read budget left found Finished = (found.points ≡ [] → IsRefuted read left) × (found.points ≢ [] → IsWhole read left found)
IsHalted read budget left found Spent = IsPart read budget left found
IsHalted read budget left found (Full further) = ⊥
