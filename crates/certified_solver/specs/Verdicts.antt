-- What the answers of a solver say.
use Rattle.std.specs.Prelude.{ℕ, ◌≡◌, List, Option, Some, None, All, length}
use Rattle.clause_store.specs.declared.clause.Literal.{Literal}
use Rattle.clause_store.specs.declared.derivation.Chain.{Chain}
use Rattle.clause_store.specs.Literals.{HasVariablesBelow}
use Rattle.clause_store.specs.Satisfaction.{SatisfiesAll}
use Rattle.clause_store.specs.Resolution.{IsLawful, Refutes}
use Rattle.proof_checker.specs.Checking.{IsWithin}
use Rattle.cdcl_search.specs.Progress.{assignment_of, AreNewResults}
use Rattle.certified_solver.specs.declared.Verdict.{Verdict}
use Rattle.certified_solver.specs.declared.Verdict.TheVariants.{Yes, No, Spent}

-- the derivation refutes the clauses, and a checker of their variables accepts it
pub record IsRefutation (given : List (List Literal)) (chains : List Chain) : Type 0 where
  pub refutes : Refutes given chains
  pub within : (n : ℕ) → All (HasVariablesBelow n) given → IsWithin n given chains

-- what a checker makes of chains: a refutation with these very chains, or nothing, where they refute nothing
abbrev pub IsChecked : List (List Literal) → List Chain → Option (List Chain) → Type 0
IsChecked given chains (Some accepted) = IsRefutation given accepted × (accepted ≡ chains)
IsChecked given chains None = Refutes given chains → ⊥

-- as many lawful chains as the budget allows, each with a new result
pub record IsSpent (given : List (List Literal)) (chains : List Chain) (budget : ℕ) : Type 0 where
  pub lawful : IsLawful given chains
  pub all : length chains ≡ budget
  pub new : AreNewResults given 0 chains

abbrev pub IsVerdict : List (List Literal) → ℕ → Verdict → Type 0
IsVerdict given budget (Yes values) = SatisfiesAll (assignment_of values) given
IsVerdict given budget (No refutation) = IsRefutation given refutation
IsVerdict given budget (Spent derivation) = IsSpent given derivation.chains budget

-- the answer is Yes or No
abbrev pub IsDecided : Verdict → Type 0
IsDecided (Yes values) = Unit {0}
IsDecided (No refutation) = Unit {0}
IsDecided (Spent derivation) = ⊥

-- the answer Yes has a value of each variable of the clauses
abbrev pub HasAllValues : List (List Literal) → Verdict → Type 0
HasAllValues given (Yes values) = All (HasVariablesBelow (length values)) given
HasAllValues given (No refutation) = Unit {0}
HasAllValues given (Spent derivation) = Unit {0}
