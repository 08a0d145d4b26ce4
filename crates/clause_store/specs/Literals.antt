use Rattle.std.specs.Prelude.{ℕ, ◌<◌, ◌/◌, ◌==◌, Bool, List, All, AllPairs}
use Rattle.std.specs.List.{list_any}
use Rattle.clause_store.specs.declared.clause.Literal.{Literal}

-- the variable of a literal
abbrev pub variable_of : Literal → ℕ
variable_of l = l.code / 2

-- the codes ascend, so no literal is there twice
abbrev pub IsAscending : List Literal → Type 0
IsAscending clause = AllPairs (λ a b. a.code < b.code) clause

-- each variable of the clause is below a number
abbrev pub HasVariablesBelow : ℕ → List Literal → Type 0
HasVariablesBelow n clause = All (λ l. variable_of l < n) clause

-- a set of literals, by their codes
abbrev pub LiteralSet : Type 0
LiteralSet = ℕ → Bool

-- the literals of a clause
abbrev pub literals_of : List Literal → LiteralSet
literals_of clause = λ code. list_any (λ l. l.code == code) clause
