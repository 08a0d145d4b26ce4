-- What the answers to a question say.
use Rattle.std.specs.Prelude.{◌≡◌, ◌↔◌, Bool, ℕ, List, [], None, length, IsTrue}
use Rattle.canonical_instances.specs.Canonical.{is_canonical}
use Rattle.certified_solver.specs.Verdicts.{IsRefutation}
use Rattle.clause_store.specs.declared.clause.Literal.{Literal}
use Rattle.clause_store.specs.Satisfaction.{IsSatisfiableAbove}
use Rattle.clf_tree.specs.declared.instance.Entry.{Entry}
use Rattle.clf_tree.specs.declared.model.Model.{Model}
use Rattle.clf_tree.specs.declared.scopes.Scopes.{Scopes}
use Rattle.clf_tree.specs.declared.vector.Question.{Question}
use Rattle.clf_tree.specs.Front.{admits, ways_of}
use Rattle.clf_tree.specs.Lists.{numbers_below}
use Rattle.clf_tree.specs.Nodes.{is_ordered}
use Rattle.clf_tree.specs.Renaming.{IsIsomorphic}
use Rattle.clf_tree.specs.Satisfies.{satisfies, vector_of}
use Rattle.model_reader.specs.declared.reader.Read.{Read}
use Rattle.set_bits.specs.declared.layout.Layout.{Layout}
use Rattle.set_bits.specs.Fitting.{size}
use Rattle.set_bits.specs.Showing.{Shows}
use Rattle.question_space.specs.declared.claims.Answer.{Answer}
use Rattle.question_space.specs.declared.claims.Answer.TheVariants.{Found, Empty, Spent}
use Rattle.question_space.specs.Posing.{Answers, IsPosed}
use Rattle.question_space.specs.Spendings.{IsSpentOver}

-- the question asks for any instance
abbrev pub HasNoVectors : Question → Type 0
HasNoVectors question = (question.found ≡ []) × (question.improve ≡ None)

-- the bits show a canonical instance that satisfies the model and whose vector the question admits
pub record ShowsAnswer (model : Model) (scopes : Scopes) (question : Question) (layout : Layout) (bits : List Bool) : Type 0 where
  pub entries : List Entry
  pub shows : Shows model.clafers scopes layout bits entries
  pub satisfied : IsTrue (satisfies model scopes entries)
  pub admitted : IsTrue (admits (ways_of model) question (vector_of model entries))
  pub canonical : IsTrue (is_canonical model.clafers entries)

-- the clauses can be satisfied above bits of a layout exactly where the bits show an answer
abbrev pub AreExact : Model → Scopes → Question → Layout → List (List Literal) → Type 0
AreExact model scopes question layout clauses =
    (bits : List Bool) → length bits ≡ size layout
    → IsSatisfiableAbove (numbers_below (size layout)) bits clauses ↔ ShowsAnswer model scopes question layout bits

-- an instance is isomorphic to one that bits show above which the clauses can be satisfied
pub record IsAnsweredBy (model : Model) (scopes : Scopes) (layout : Layout) (clauses : List (List Literal))
    (entries : List Entry) : Type 0 where
  pub others : List Entry
  pub bits : List Bool
  pub isomorphic : IsIsomorphic scopes entries others
  pub shows : Shows model.clafers scopes layout bits others
  pub satisfiable : IsSatisfiableAbove (numbers_below (size layout)) bits clauses

-- so is each instance that satisfies the model and whose vector the question admits
abbrev pub AreComplete : Model → Scopes → Question → Layout → List (List Literal) → Type 0
AreComplete model scopes question layout clauses =
    (entries : List Entry) → IsTrue (is_ordered entries) → IsTrue (satisfies model scopes entries)
    → IsTrue (admits (ways_of model) question (vector_of model entries)) → IsAnsweredBy model scopes layout clauses entries

-- an answer is an instance that satisfies the model and whose vector the question admits; or there is none, and a checker has accepted
-- that the clauses are refuted; or the budget is spent
abbrev pub IsAnswer : Model → Scopes → Question → ℕ → List (List Literal) → Answer → Type 0
IsAnswer model scopes question budget clauses (Found instance) =
    IsTrue (satisfies model scopes instance.entries) × IsTrue (admits (ways_of model) question (vector_of model instance.entries))
IsAnswer model scopes question budget clauses (Empty claim) =
    (Answers model scopes question → ⊥) × IsRefutation clauses claim.derivation.chains × (claim.given ≡ length clauses)
IsAnswer model scopes question budget clauses (Spent claim) =
    IsSpentOver clauses budget claim.derivation.chains × (claim.given ≡ length clauses)

-- the same of a model that was read
abbrev pub AreExactFor : Read → Question → Layout → List (List Literal) → Type 0
AreExactFor read = AreExact read.model read.scopes

abbrev pub AreCompleteFor : Read → Question → Layout → List (List Literal) → Type 0
AreCompleteFor read = AreComplete read.model read.scopes

abbrev pub ArePosedFor : Read → Question → List (List Literal) → List Literal → Type 0
ArePosedFor read = IsPosed read.model read.scopes

abbrev pub IsAnswerFor : Read → Question → ℕ → List (List Literal) → Answer → Type 0
IsAnswerFor read = IsAnswer read.model read.scopes

-- an instance that is found is canonical
abbrev pub IsCanonicalAnswer : Model → Answer → Type 0
IsCanonicalAnswer model (Found instance) = IsTrue (is_canonical model.clafers instance.entries)
IsCanonicalAnswer model (Empty claim) = Unit {0}
IsCanonicalAnswer model (Spent claim) = Unit {0}

-- the same of a model that was read
abbrev pub IsCanonicalFor : Read → Answer → Type 0
IsCanonicalFor read = IsCanonicalAnswer read.model

-- the budget is not spent
abbrev pub IsSettled : Answer → Type 0
IsSettled (Found instance) = Unit {0}
IsSettled (Empty claim) = Unit {0}
IsSettled (Spent claim) = ⊥
