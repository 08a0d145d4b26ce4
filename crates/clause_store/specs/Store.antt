use Rattle.std.specs.Prelude.{ℕ, ◌≡◌, ◌≤◌, ◌^◌, Bool, List, [], All, length, slice_index_or}
use Rattle.clause_store.specs.declared.clause.Literal.{Literal}
use Rattle.clause_store.specs.Literals.{HasVariablesBelow}

-- the clauses of a store, and for each of them whether it is live
pub record Store : Type 0 where
  pub clauses : List (List Literal)
  pub live : List Bool

-- the clause with a number
abbrev pub clause_at : List (List Literal) → ℕ → List Literal
clause_at clauses number = slice_index_or clauses number []

-- a store keeps: a flag for each clause, few enough clauses that a u32 numbers them and as many results, and the least
-- number above their variables
pub record IsStore (clauses : List (List Literal)) (live : List Bool) (variables : ℕ) : Type 0 where
  pub flags : length live ≡ length clauses
  pub few : length clauses ≤ 2147483647
  pub above : All (HasVariablesBelow variables) clauses
  pub least : (n : ℕ) → All (HasVariablesBelow n) clauses → variables ≤ n
  pub small : variables ≤ 2 ^ 31
