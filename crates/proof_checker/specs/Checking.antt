use Rattle.std.specs.Prelude.{ℕ, ◌≡◌, ◌<◌, ◌≤◌, List, All, Option, length, MatchOption}
use Rattle.std.specs.Borrow.{Bor}
use Rattle.clause_store.specs.declared.clause.Literal.{Literal}
use Rattle.clause_store.specs.declared.derivation.Chain.{Chain}
use Rattle.clause_store.specs.Literals.{HasVariablesBelow}
use Rattle.clause_store.specs.Store.{clause_at}

-- each variable of the chain is below a number
pub record IsChainWithin (n : ℕ) (chain : Chain) : Type 0 where
  pub pivots : All (λ step. step.pivot < n) chain.steps
  pub result : HasVariablesBelow n chain.result

-- each variable of the clauses and of the chains is below a number
pub record IsWithin (n : ℕ) (given : List (List Literal)) (chains : List Chain) : Type 0 where
  pub clauses_within : All (HasVariablesBelow n) given
  pub chains_within : All (IsChainWithin n) chains

-- what a look-up answers: the clause with the number, or nothing where there is none
abbrev pub IsClauseAt : List (List Literal) → ℕ → Option (Bor (List Literal)) → Type 0
IsClauseAt known number answer =
    MatchOption answer (length known ≤ number) (λ clause. (number < length known) × (clause.now ≡ clause_at known number))
