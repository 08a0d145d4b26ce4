-- What a spent and a closed question leave.
use Rattle.std.specs.Prelude.{◌≡◌, ◌-◌, ◌≤◌, ℕ, List, length}
use Rattle.cdcl_search.specs.Progress.{AreNewResults}
use Rattle.clause_store.specs.declared.clause.Literal.{Literal}
use Rattle.clause_store.specs.declared.derivation.Chain.{Chain}
use Rattle.clause_store.specs.Resolution.{IsLawful, Refutes}
use Rattle.clf_tree.specs.declared.model.Model.{Model}
use Rattle.clf_tree.specs.declared.scopes.Scopes.{Scopes}
use Rattle.question_space.specs.declared.spending.Spending.{Spending}
use Rattle.question_space.specs.Posing.{IsPosed}

-- lawful, and the last so many results are new: no tautology, no given clause, no earlier result, not empty
pub record IsSpentOver (given : List (List Literal)) (budget : ℕ) (chains : List Chain) : Type 0 where
  pub lawful : IsLawful given chains
  pub enough : budget ≤ length chains
  pub new : AreNewResults given (length chains - budget) chains

-- the clauses pose the question, and the claim is a derivation over all of them with as many new results as the budget
pub record IsSpending (model : Model) (scopes : Scopes) (budget : ℕ) (s : Spending) : Type 0 where
  pub posed : IsPosed model scopes s.question s.clauses.clauses s.parts
  pub given : s.claim.given ≡ length s.clauses.clauses
  pub spent : IsSpentOver s.clauses.clauses budget s.claim.derivation.chains

-- the clauses pose the question, and the claim is a derivation over all of them that refutes them
pub record IsClosing (model : Model) (scopes : Scopes) (s : Spending) : Type 0 where
  pub posed : IsPosed model scopes s.question s.clauses.clauses s.parts
  pub given : s.claim.given ≡ length s.clauses.clauses
  pub refutes : Refutes s.clauses.clauses s.claim.derivation.chains
