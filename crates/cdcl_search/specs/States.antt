-- A search's state, and what one clause says there.
use Rattle.std.specs.Prelude.{ℕ, ◌≡◌, ◌+◌, ◌*◌, ◌/◌, ◌<◌, [], List, length, get_or}
use Rattle.std.specs.Prelude.{set, Option, Some, None}
use Rattle.cdcl_search.specs.Trails.{FalseBelow, with_true}
use Rattle.cdcl_search.specs.Searches.{Quiet, Forces, IsSearch}
use Rattle.cdcl_search.specs.declared.trail.Trail.{Trail}
use Rattle.cdcl_search.specs.declared.trail.Status.{Status}
use Rattle.cdcl_search.specs.declared.trail.Status.TheVariants.{AllFalse, Unit, Other}

-- the parts of a trail other than the assignment of one literal stay
pub record IsAssigned (old new : Trail) (l r : ℕ) : Type 0 where
  pub values : new.values.items ≡ with_true old.values.items l
  pub places : new.places.items ≡ set old.places.items (l / 2) old.count
  pub reasons : new.reasons.items ≡ set old.reasons.items (l / 2) r
  pub literals : new.literals.items ≡ set old.literals.items old.count l
  pub count : new.count ≡ old.count + 1
  pub limits : new.limits ≡ old.limits

-- each literal of each clause is one of the search's variables
abbrev pub AreWithin : List (List ℕ) → ℕ → Type 0
AreWithin store n = (i : ℕ) → i < length store → (j : ℕ) → j < length (get_or store i []) → get_or (get_or store i []) j 0 < 2 * n

abbrev pub AreLiterals : List (List ℕ) → ℕ → Type 0
AreLiterals store n = (i : ℕ) → i < length store → (j : ℕ) → j < length (get_or store i []) → get_or (get_or store i []) j 0 < n

pub record IsState (store : List (List ℕ)) (t : Trail) : Type 0 where
  pub search : IsSearch 4294967295 store t.values.items t.places.items t.reasons.items t.literals.items t.count t.limits.items
  pub within : AreWithin store (length t.literals.items)
  pub few : 2 * length t.literals.items < 4294967296
  pub store_few : length store < 4294967295

abbrev pub IsStatus : Trail → List ℕ → Status → Type 0
IsStatus t c AllFalse = (j : ℕ) → j < length c → FalseBelow t.values.items t.places.items (get_or c j 0) t.count
IsStatus t c (Unit u) = (get_or t.values.items u 0 ≡ 0) × Forces t.values.items t.places.items c u t.count
IsStatus t c Other = Quiet t.values.items t.places.items c t.count

-- nothing follows from any clause
abbrev pub AreQuiet : List (List ℕ) → Trail → Type 0
AreQuiet store t = (i : ℕ) → i < length store → Quiet t.values.items t.places.items (get_or store i []) t.count

-- each literal of the clause is false
abbrev pub IsFalse : Trail → List ℕ → Type 0
IsFalse t c = (j : ℕ) → j < length c → FalseBelow t.values.items t.places.items (get_or c j 0) t.count

-- a clause that is false, or nothing that follows
abbrev pub IsPropagated : List (List ℕ) → Trail → Option ℕ → Type 0
IsPropagated store t None = AreQuiet store t
IsPropagated store t (Some at) = (at < length store) × IsFalse t (get_or store at [])
