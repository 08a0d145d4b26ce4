-- What a caller sees of a search.
use Rattle.std.specs.Prelude.{ℕ, ◌≡◌, ◌≢◌, ◌+◌, ◌*◌, ◌<◌, ◌≤◌, ◌⊎◌, [], ◌∷◌, ◌++◌, Bool, true, false, List, length, take, map, slice_index_or}
use Rattle.clause_store.specs.declared.clause.Literal.{Literal}
use Rattle.clause_store.specs.declared.derivation.Chain.{Chain}
use Rattle.clause_store.specs.Literals.{literals_of}
use Rattle.clause_store.specs.Satisfaction.{Assignment}
use Rattle.clause_store.specs.Store.{clause_at}
use Rattle.clause_store.specs.Resolution.{known_clauses, Refutes}
use Rattle.cdcl_search.specs.declared.engine.Ended.{Ended}
use Rattle.cdcl_search.specs.declared.engine.Ended.TheVariants.{Satisfied, Refuted, Spent}

-- the given clauses, the chains that were learned, in order, and whether the last run satisfied the clauses
pub record Progress : Type 0 where
  pub given : List (List Literal)
  pub chains : List Chain
  pub is_satisfied : Bool

-- the value that a list of values gives each variable
abbrev pub assignment_of : List Bool → Assignment
assignment_of values = λ variable. slice_index_or values variable false

-- the clause holds a variable with both signs
abbrev pub IsTautology : List Literal → Type 0
IsTautology clause = (p : ℕ) × (literals_of clause (2 * p) ≡ true) × (literals_of clause (2 * p + 1) ≡ true)

-- the clauses have the same literals
abbrev pub HaveSameLiterals : List Literal → List Literal → Type 0
HaveSameLiterals c d = (code : ℕ) → literals_of c code ≡ literals_of d code

-- the clause has a literal, no variable with both signs, and other literals than each known clause
pub record IsNewClause (known : List (List Literal)) (clause : List Literal) : Type 0 where
  pub some : clause ≢ []
  pub no_tautology : IsTautology clause → ⊥
  pub not_known : (i : ℕ) → i < length known → HaveSameLiterals (clause_at known i) clause → ⊥

-- the results of the chains
abbrev pub results_of : List Chain → List (List Literal)
results_of chains = map (λ chain. chain.result) chains

-- from a number of chains on, each result is new against the given clauses and the results before it
abbrev pub AreNewResults : List (List Literal) → ℕ → List Chain → Type 0
AreNewResults given from chains =
    (j : ℕ) → from ≤ j → j < length chains → IsNewClause (known_clauses given (take j chains)) (clause_at (results_of chains) j)

-- the last result is empty
abbrev pub EndsEmpty : List Chain → Type 0
EndsEmpty chains = (before : List Chain) × (last : Chain) × (chains ≡ before ++ last ∷ []) × (last.result ≡ [])

-- the chains have grown, and each result that has come is new, or empty
pub record Continues (old new : Progress) : Type 0 where
  pub more : List Chain
  pub grown : new.chains ≡ old.chains ++ more
  pub each : (j : ℕ) → length old.chains ≤ j → j < length new.chains
      → IsNewClause (known_clauses new.given (take j new.chains)) (clause_at (results_of new.chains) j) ⊎ (clause_at (results_of new.chains) j ≡ [])

-- how a run with a budget ends
abbrev pub IsRunEnded : Progress → Progress → ℕ → Ended → Type 0
IsRunEnded old new budget Satisfied = new.is_satisfied ≡ true
IsRunEnded old new budget Refuted = Refutes new.given new.chains × EndsEmpty new.chains
IsRunEnded old new budget Spent = (length new.chains ≡ length old.chains + budget) × AreNewResults new.given (length old.chains) new.chains
