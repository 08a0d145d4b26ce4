use Rattle.std.specs.Prelude.{ℕ, ◌≡◌, ◌<◌, ◌*◌, ◌+◌, Bool, false, not, List, All, length, slice_index_or, count_by}
use Rattle.clause_store.specs.declared.clause.Literal.{Literal}
use Rattle.clause_store.specs.declared.derivation.Chain.{Chain}
use Rattle.clause_store.specs.Literals.{LiteralSet}

-- the literals that are marked
abbrev pub marked : List Bool → LiteralSet
marked marks = λ code. slice_index_or marks code false

-- how many literals are marked
abbrev pub count_of : List Bool → ℕ
count_of marks = count_by (λ b. b) marks

-- the variable is marked with one sign alone: the positive one, or the negated one
pub record IsMarkedAs (marks : List Bool) (variable : ℕ) (positive : Bool) : Type 0 where
  pub of_positive : marked marks (2 * variable) ≡ positive
  pub of_negated : marked marks (2 * variable + 1) ≡ not positive

-- no literal is marked
abbrev pub IsClear : List Bool → Type 0
IsClear marks = (code : ℕ) → marked marks code ≡ false

-- each code is below a number
abbrev pub HasCodesBelow : ℕ → List Literal → Type 0
HasCodesBelow n literals = All (λ l. l.code < n) literals

-- there is a mark for each literal of some variables, and none is set
pub record IsReady (variables : ℕ) (marks : List Bool) : Type 0 where
  pub sized : length marks ≡ 2 * variables
  pub clear : IsClear marks

-- each code of the chain is below a number
pub record HasChainCodesBelow (n : ℕ) (chain : Chain) : Type 0 where
  pub pivots : All (λ step. 2 * step.pivot + 1 < n) chain.steps
  pub result : HasCodesBelow n chain.result
