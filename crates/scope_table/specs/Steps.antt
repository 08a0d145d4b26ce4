-- What the loops go by.
use Rattle.std.specs.Prelude.{ℕ, ◌+◌, ◌<◌, ◌≡◌, ◌&&◌, List, [], ◌∷◌, length, map, sum, get_or, nat_eq, Option, Some, None, Result, Ok, Err, if◌then◌else◌}
use Rattle.std.specs.List.{filter}
use Rattle.clf_base.specs.declared.fault.Refusal.{Refusal}
use Rattle.clf_tree.specs.declared.model.Clafer.{Clafer}
use Rattle.clf_tree.specs.declared.scopes.Given.{Given}
use Rattle.clf_tree.specs.declared.scopes.GivenScope.{GivenScope}
use Rattle.clf_tree.specs.Lists.{numbers_below}
use Rattle.clf_tree.specs.Hierarchy.{concrete_below, is_concrete, is_a}
use Rattle.scope_table.specs.Paths.{named_by, given_to}
use Rattle.scope_table.specs.Largest.{scope, told}
use Rattle.scope_table.specs.Refusals.{given_refusal}

-- a total once each clafer of a list has added to its own
abbrev pub added : List ℕ → ℕ → ℕ → ℕ → ℕ
added [] more d total = total
added (v ∷ vs) more d total = added vs more d (if nat_eq v d then told (total + more) else total)

-- a table of what is given to each clafer
abbrev pub IsGiven : List Clafer → List GivenScope → List (Option ℕ) → Type 0
IsGiven clafers given table = (c : ℕ) → get_or table c None ≡ given_to clafers given c

-- the clafer of a given scope that isn't refused, or its refusal
abbrev pub IsOwnOrRefused : List Clafer → List GivenScope → GivenScope → Result ℕ Refusal → Type 0
IsOwnOrRefused clafers before g (Ok c) = (given_refusal clafers before g ≡ None) × (named_by clafers g.path ≡ Some c) × (c < length clafers) × (given_to clafers before c ≡ None)
IsOwnOrRefused clafers before g (Err r) = given_refusal clafers before g ≡ Some r

-- of each clafer the scopes of the concrete clafers that are-a it
abbrev pub AreTotals : List Clafer → (ℕ → ℕ) → List ℕ → Type 0
AreTotals clafers of totals = (d : ℕ) → d < length clafers → get_or totals d 0 ≡ told (sum (map of (concrete_below clafers d)))

abbrev pub AreLargest : List Clafer → Given → List ℕ → Type 0
AreLargest clafers given of = (c : ℕ) → get_or of c 0 ≡ told (scope clafers given c)

-- the scopes of the concrete clafers below n that are-a d
abbrev pub total_below : List Clafer → (ℕ → ℕ) → ℕ → ℕ → ℕ
total_below clafers of d n = sum (map of (filter (λ o. is_concrete clafers o && is_a clafers o d) (numbers_below n)))

-- totals of the clafers below n
abbrev pub AreBelow : List Clafer → (ℕ → ℕ) → ℕ → List ℕ → Type 0
AreBelow clafers of n totals = (d : ℕ) → d < length clafers → get_or totals d 0 ≡ told (total_below clafers of d n)
