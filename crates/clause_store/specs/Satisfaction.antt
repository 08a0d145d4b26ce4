use Rattle.std.specs.Prelude.{ℕ, ◌≡◌, ◌<◌, ◌/◌, ◌%◌, ◌==◌, Bool, true, false, not, if◌then◌else◌, List, All, Any, length, slice_index_or}
use Rattle.clause_store.specs.declared.clause.Literal.{Literal}

-- a value for each variable
abbrev pub Assignment : Type 0
Assignment = ℕ → Bool

-- the value of the literal with a code: that of its variable, or where it is negated the opposite
abbrev pub value_at : Assignment → ℕ → Bool
value_at v code = if code % 2 == 0 then v (code / 2) else not (v (code / 2))

-- some literal of the clause is true
abbrev pub Satisfies : Assignment → List Literal → Type 0
Satisfies v clause = Any (λ l. value_at v l.code ≡ true) clause

-- each clause is satisfied
abbrev pub SatisfiesAll : Assignment → List (List Literal) → Type 0
SatisfiesAll v clauses = All (Satisfies v) clauses

abbrev pub IsUnsatisfiable : List (List Literal) → Type 0
IsUnsatisfiable clauses = (v : ℕ → Bool) → SatisfiesAll v clauses → ⊥

-- the assignment gives each of some variables, in order, the value of the bit with its place
abbrev pub IsAbove : List ℕ → List Bool → Assignment → Type 0
IsAbove variables bits v = (k : ℕ) → k < length variables → v (slice_index_or variables k 0) ≡ slice_index_or bits k false

-- some assignment above given bits satisfies all clauses
abbrev pub IsSatisfiableAbove : List ℕ → List Bool → List (List Literal) → Type 0
IsSatisfiableAbove variables bits clauses = (v : Assignment) × IsAbove variables bits v × SatisfiesAll v clauses
