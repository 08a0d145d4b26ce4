-- The clause that a conflict teaches.
use Rattle.std.specs.Prelude.{ℕ, ◌≡◌, ◌+◌, ◌-◌, ◌/◌, ◌<◌, ◌≤◌, ◌↔◌, ◌⊎◌, [], List, length, get_or}
use Rattle.cdcl_search.specs.Literals.{flip, Has}
use Rattle.cdcl_search.specs.Trails.{FalseBelow, Agree, IsTrail}
use Rattle.cdcl_search.specs.declared.trail.Trail.{Trail}

-- the clause is `lower` and one literal more, which became false at the place k, and each literal of `lower` before `base`
pub record IsAsserting (t : Trail) (base k : ℕ) (lower : List ℕ) : Type 0 where
  pub within : k < t.count
  pub after : base ≤ k
  pub below : (l : ℕ) → Has lower l → FalseBelow t.values.items t.places.items l base

-- the same literals
abbrev pub AreSame : List ℕ → List ℕ → Type 0
AreSame c d = (l : ℕ) → Has c l ↔ Has d l

-- no literal beside its opposite
abbrev pub IsNoTautology : List ℕ → Type 0
IsNoTautology c = (l : ℕ) → Has c l → Has c (flip l) → ⊥

-- no clause of the store has the same literals
abbrev pub IsNew : List (List ℕ) → List ℕ → Type 0
IsNew store c = (i : ℕ) → i < length store → AreSame (get_or store i []) c → ⊥

-- back at a place, nothing that was made true before it has changed
pub record IsUndone (old new : Trail) (m : ℕ) : Type 0 where
  pub trail : IsTrail new.values.items new.places.items new.literals.items m
  pub count : new.count ≡ m
  pub agree : Agree old.values.items old.places.items new.values.items new.places.items m
  pub places : new.places ≡ old.places
  pub reasons : new.reasons ≡ old.reasons
  pub literals : new.literals ≡ old.literals
  pub limits : new.limits ≡ old.limits

-- each literal stands before the reach, and one of them right before it, if it is not 0
pub record IsReach (w lower : List ℕ) (i reach : ℕ) : Type 0 where
  pub before : (j : ℕ) → j < i → get_or w (get_or lower j 0 / 2) 0 < reach
  pub reached : (reach ≡ 0) ⊎ ((l : ℕ) × Has lower l × (get_or w (l / 2) 0 + 1 ≡ reach))

-- the first limit that is not before the reach, where only the one right before is looked at
pub record IsTarget (limits : List ℕ) (reach d : ℕ) : Type 0 where
  pub within : d < length limits
  pub far : reach ≤ get_or limits d 0
  pub first : 0 < d → get_or limits (d - 1) 0 < reach
