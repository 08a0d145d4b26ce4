-- How the watches of one clause change.
use Rattle.std.specs.Prelude.{ℕ, ◌≡◌, ◌≢◌, ◌<◌, ◌≤◌, ◌⊎◌, ◌++◌, [], ◌∷◌, List, length, get_or, set, Option, Some, None}
use Rattle.cdcl_search.specs.Literals.{Has}
use Rattle.cdcl_search.specs.Rows.{Stands}
use Rattle.cdcl_search.specs.declared.watches.Watches.{Watches}

abbrev pub IsPartner : ℕ → ℕ → ℕ → Option ℕ → Type 0
IsPartner a b f None = (a ≢ f) × (b ≢ f)
IsPartner a b f (Some o) = ((a ≡ f) × (o ≡ b)) ⊎ ((b ≡ f) × (o ≡ a))

pub record IsRewatched (old new : Watches) (i other fresh : ℕ) : Type 0 where
  pub firsts : new.firsts.items ≡ set old.firsts.items i other
  pub seconds : new.seconds.items ≡ set old.seconds.items i fresh
  pub lists : new.lists ≡ set old.lists fresh (get_or old.lists fresh [] ++ i ∷ [])
  pub short : new.short ≡ old.short
  pub done : new.done ≡ old.done

-- the first n numbers stay
pub record IsFront (old new : List ℕ) (n : ℕ) : Type 0 where
  pub len : n ≤ length new
  pub same : (j : ℕ) → j < n → get_or new j 0 ≡ get_or old j 0

-- no number leaves a list
pub record AreMore (old new : List (List ℕ)) : Type 0 where
  pub len : length new ≡ length old
  pub keeps : (x i : ℕ) → Stands (get_or old x []) 0 i → Stands (get_or new x []) 0 i

-- the watches of the first n clauses stay, and no clause leaves a list
pub record Keeps (old new : Watches) (n : ℕ) : Type 0 where
  pub firsts : IsFront old.firsts.items new.firsts.items n
  pub seconds : IsFront old.seconds.items new.seconds.items n
  pub lists : AreMore old.lists new.lists
  pub short : (i : ℕ) → Stands old.short.items 0 i → Stands new.short.items 0 i
  pub done : new.done ≡ old.done

-- a clause's two literals are watched
pub record IsAdded (w : Watches) (i a b : ℕ) : Type 0 where
  pub firsts_len : i < length w.firsts.items
  pub seconds_len : i < length w.seconds.items
  pub first : get_or w.firsts.items i 0 ≡ a
  pub second : get_or w.seconds.items i 0 ≡ b
  pub in_first : Stands (get_or w.lists a []) 0 i
  pub in_second : Stands (get_or w.lists b []) 0 i

pub record IsAddedShort (w : Watches) (i : ℕ) : Type 0 where
  pub firsts_len : i < length w.firsts.items
  pub seconds_len : i < length w.seconds.items
  pub short : Stands w.short.items 0 i
  pub first : get_or w.firsts.items i 0 ≡ 4294967295
  pub second : get_or w.seconds.items i 0 ≡ 4294967295

-- a literal of the clause other than its first
abbrev pub IsOther : List ℕ → Option ℕ → Type 0
IsOther c None = (j : ℕ) → j < length c → get_or c j 0 ≡ get_or c 0 0
IsOther c (Some x) = Has c x × (x ≢ get_or c 0 0) × (0 < length c)

-- where a literal of the clause is that is not false and not the other watched one, from one index on and before another
abbrev pub IsSpareBetween : List ℕ → List ℕ → ℕ → ℕ → ℕ → Option ℕ → Type 0
IsSpareBetween v c other from to None = (j : ℕ) → from ≤ j → j < to → (get_or c j 0 ≡ other) ⊎ (get_or v (get_or c j 0) 0 ≡ 2)
IsSpareBetween v c other from to (Some at) = (at < length c) × (get_or c at 0 ≢ other) × (get_or v (get_or c at 0) 0 ≢ 2)

-- where it is in the whole clause
abbrev pub IsSpare : List ℕ → List ℕ → ℕ → Option ℕ → Type 0
IsSpare v c other None = (j : ℕ) → j < length c → (get_or c j 0 ≡ other) ⊎ (get_or v (get_or c j 0) 0 ≡ 2)
IsSpare v c other (Some at) = (at < length c) × (get_or c at 0 ≢ other) × (get_or v (get_or c at 0) 0 ≢ 2)
