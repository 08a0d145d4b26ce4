-- Steps of resolution over clauses as lists of codes. `known` lists the clauses that have a number: the given ones,
-- then the results.
use Rattle.std.specs.Prelude.{ℕ, ◌≡◌, ◌/◌, ◌<◌, ◌==◌, ◌++◌, ◌↔◌, [], ◌∷◌, true, List, length, get_or, filter, map, not}
use Rattle.clause_store.specs.declared.derivation.Step.{Step}
use Rattle.clause_store.specs.declared.clause.Literal.{Literal}
use Rattle.clause_store.specs.Literals.{literals_of}
use Rattle.clause_store.specs.Store.{clause_at}
use Rattle.cdcl_search.specs.Literals.{flip, Has}

-- the clause without the literals of a variable
abbrev pub without : ℕ → List ℕ → List ℕ
without v c = filter (λ l. not (l / 2 == v)) c

-- the rest of both clauses
abbrev pub resolvent : ℕ → List ℕ → List ℕ → List ℕ
resolvent v c d = without v c ++ without v d

-- the variable occurs in c with one sign alone, and in d with the other alone
pub record Clash (v : ℕ) (c d : List ℕ) (l : ℕ) : Type 0 where
  pub variable : l / 2 ≡ v
  pub here : Has c (flip l)
  pub not_here : Has c l → ⊥
  pub there : Has d l
  pub not_there : Has d (flip l) → ⊥

-- what the steps make of the clause c
abbrev pub resolved : List (List ℕ) → List ℕ → List Step → List ℕ
resolved known c [] = c
resolved known c (s ∷ steps) = resolved known (resolvent s.pivot c (get_or known s.clause [])) steps

abbrev pub AreLawful : List (List ℕ) → List ℕ → List Step → Type 0
AreLawful known c [] = Unit {0}
AreLawful known c (s ∷ steps) =
    (s.clause < length known)
    × ((l : ℕ) × Clash s.pivot c (get_or known s.clause []) l)
    × AreLawful known (resolvent s.pivot c (get_or known s.clause [])) steps

-- the steps lead from the clause with the number `start` to the literals `codes`
pub record IsTraced (known : List (List ℕ)) (start : ℕ) (steps : List Step) (codes : List ℕ) : Type 0 where
  pub begins : start < length known
  pub steps_lawful : AreLawful known (get_or known start []) steps
  pub gives : (l : ℕ) → Has codes l ↔ Has (resolved known (get_or known start []) steps) l

-- the clause has exactly these literals
abbrev pub IsClauseOf : List ℕ → List Literal → Type 0
IsClauseOf codes clause = (l : ℕ) → Has codes l ↔ (literals_of clause l ≡ true)

-- the clauses of the store, in order, are those that have a number
pub record IsNamed (store : List (List ℕ)) (known : List (List Literal)) : Type 0 where
  pub as_many : length store ≡ length known
  pub same : (i : ℕ) → i < length store → IsClauseOf (get_or store i []) (clause_at known i)

-- a clause with these literals in this order
abbrev pub clause_of : List ℕ → List Literal
clause_of codes = map (λ n. record { code = n }) codes

-- the codes of a clause's literals
abbrev pub codes_of : List Literal → List ℕ
codes_of clause = map (λ l. l.code) clause
