use Rattle.std.specs.Prelude.{ℕ, ◌≡◌, ◌<◌, ◌+◌, ◌*◌, ◌/◌, ◌==◌, ◌||◌, ◌&&◌, ◌⊎◌, Bool, true, false, not, List, [], ◌∷◌, ◌++◌, Any, length, map}
use Rattle.clause_store.specs.declared.clause.Literal.{Literal}
use Rattle.clause_store.specs.declared.derivation.Step.{Step}
use Rattle.clause_store.specs.declared.derivation.Chain.{Chain}
use Rattle.clause_store.specs.Literals.{LiteralSet, literals_of}
use Rattle.clause_store.specs.Store.{clause_at}

-- a variable occurs with exactly the sign of one literal, and not with that of the other
pub record OccursOnlyAs (clause : ℕ → Bool) (literal opposite : ℕ) : Type 0 where
  pub there : clause literal ≡ true
  pub alone : clause opposite ≡ false

-- a variable occurs in one clause with exactly one sign, and in the other with exactly the other sign
abbrev pub Clashes : LiteralSet → LiteralSet → ℕ → Type 0
Clashes c d pivot =
    (OccursOnlyAs c (2 * pivot) (2 * pivot + 1) × OccursOnlyAs d (2 * pivot + 1) (2 * pivot))
    ⊎ (OccursOnlyAs c (2 * pivot + 1) (2 * pivot) × OccursOnlyAs d (2 * pivot) (2 * pivot + 1))

-- what both clauses hold beside the pivot
abbrev pub resolvent : LiteralSet → LiteralSet → ℕ → LiteralSet
resolvent c d pivot = λ code. (c code || d code) && not (code / 2 == pivot)

-- the steps lead from a clause to exactly a result, where `known` has the clauses that they may name
abbrev pub ResolvesTo : List (List Literal) → LiteralSet → List Step → LiteralSet → Type 0
ResolvesTo known c [] result = (code : ℕ) → c code ≡ result code
ResolvesTo known c (step ∷ steps) result =
    (step.clause < length known)
    × Clashes c (literals_of (clause_at known step.clause)) step.pivot
    × ResolvesTo known (resolvent c (literals_of (clause_at known step.clause)) step.pivot) steps result

-- the chain names known clauses alone, and leads from its start to exactly its result
abbrev pub IsLawfulChain : List (List Literal) → Chain → Type 0
IsLawfulChain known chain =
    (chain.start < length known)
    × ResolvesTo known (literals_of (clause_at known chain.start)) chain.steps (literals_of chain.result)

-- the clauses that a chain may name: the given ones, and the results of the chains before it
abbrev pub known_clauses : List (List Literal) → List Chain → List (List Literal)
known_clauses given earlier = given ++ map (λ chain. chain.result) earlier

-- each chain is lawful, and its result is known to those after it
abbrev pub IsLawful : List (List Literal) → List Chain → Type 0
IsLawful known [] = Unit {0}
IsLawful known (chain ∷ chains) = IsLawfulChain known chain × IsLawful (known ++ chain.result ∷ []) chains

-- the derivation is lawful, and some result is empty
pub record Refutes (given : List (List Literal)) (chains : List Chain) : Type 0 where
  pub lawful : IsLawful given chains
  pub empty : Any (λ chain. chain.result ≡ []) chains
