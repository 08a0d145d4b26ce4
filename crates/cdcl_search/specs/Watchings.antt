-- Two literals of each clause are watched: while both may be true, or one of them is, nothing follows from the clause.
use Rattle.std.specs.Prelude.{ℕ, ◌≡◌, ◌≢◌, ◌+◌, ◌*◌, ◌/◌, ◌<◌, ◌≤◌, ◌⊎◌, [], List, length, get_or}
use Rattle.cdcl_search.specs.Literals.{Has}
use Rattle.cdcl_search.specs.Rows.{Stands}
use Rattle.cdcl_search.specs.Trails.{FalseBelow, TrueBelow}
use Rattle.cdcl_search.specs.States.{IsFalse}
use Rattle.cdcl_search.specs.declared.trail.Trail.{Trail}
use Rattle.cdcl_search.specs.declared.watches.Watches.{Watches}
use Rattle.cdcl_search.specs.declared.propagation.Visit.{Visit}
use Rattle.cdcl_search.specs.declared.propagation.Visit.TheVariants.{Passed, Moved, Conflict}

-- no two literals of the clause differ
abbrev pub IsShort : List ℕ → Type 0
IsShort c = (l m : ℕ) → Has c l → Has c m → l ≡ m

-- where one of two literals is false since before the place p, the other is true since before the place q
pub record Guarded (v w : List ℕ) (a b p q : ℕ) : Type 0 where
  pub first : FalseBelow v w a p → TrueBelow v w b q
  pub second : FalseBelow v w b p → TrueBelow v w a q

-- a and b are two literals of the clause, and their lists have its number
pub record IsPair (lists : List (List ℕ)) (c : List ℕ) (a b i : ℕ) : Type 0 where
  pub first : Has c a
  pub second : Has c b
  pub differ : a ≢ b
  pub in_first : Stands (get_or lists a []) 0 i
  pub in_second : Stands (get_or lists b []) 0 i

-- the two literals guard one another at each limit, and where the propagation stands
pub record Guards (v w limits : List ℕ) (a b done count : ℕ) : Type 0 where
  pub here : Guarded v w a b done count
  pub earlier : (j : ℕ) → j < length limits → Guarded v w a b (get_or limits j 0) (get_or limits j 0)

-- the same for the literal f, whose list is done as far as an index
pub record Todo (v w : List ℕ) (a b f count i : ℕ) (row : List ℕ) (at : ℕ) : Type 0 where
  pub first : a ≡ f → TrueBelow v w b count ⊎ Stands row at i
  pub second : b ≡ f → TrueBelow v w a count ⊎ Stands row at i

pub record IsRoom (store : List (List ℕ)) (t : Trail) (w : Watches) : Type 0 where
  pub firsts : length store ≤ length w.firsts.items
  pub seconds : length store ≤ length w.seconds.items
  pub lists : length w.lists ≡ 2 * length t.literals.items
  pub done : w.done ≤ t.count
  pub limits : (j : ℕ) → j < length t.limits.items → get_or t.limits.items j 0 ≤ w.done

-- a short clause watches nothing
pub record IsShortAt (store : List (List ℕ)) (w : Watches) (i : ℕ) : Type 0 where
  pub short : IsShort (get_or store i [])
  pub stands : Stands w.short.items 0 i
  pub first : get_or w.firsts.items i 0 ≡ 4294967295
  pub second : get_or w.seconds.items i 0 ≡ 4294967295

abbrev pub IsPairAt : List (List ℕ) → Watches → ℕ → Type 0
IsPairAt store w i = IsPair w.lists (get_or store i []) (get_or w.firsts.items i 0) (get_or w.seconds.items i 0) i

abbrev pub GuardsAt : Trail → Watches → ℕ → Type 0
GuardsAt t w i = Guards t.values.items t.places.items t.limits.items (get_or w.firsts.items i 0) (get_or w.seconds.items i 0) w.done t.count

-- the first n clauses are short, or two of their literals are watched
pub record IsCovered (store : List (List ℕ)) (w : Watches) (n : ℕ) : Type 0 where
  pub firsts : n ≤ length w.firsts.items
  pub seconds : n ≤ length w.seconds.items
  pub covered : (i : ℕ) → i < n → IsShortAt store w i ⊎ IsPairAt store w i

-- between two places of the trail
pub record IsWatching (store : List (List ℕ)) (t : Trail) (w : Watches) : Type 0 where
  pub room : IsRoom store t w
  pub covered : (i : ℕ) → i < length store → IsShortAt store w i ⊎ (IsPairAt store w i × GuardsAt t w i)

abbrev pub TodoAt : Trail → Watches → ℕ → ℕ → ℕ → Type 0
TodoAt t w f at i = Todo t.values.items t.places.items (get_or w.firsts.items i 0) (get_or w.seconds.items i 0) f t.count i (get_or w.lists f []) at

-- within one: the literal f is false there, and its list is done as far as an index
pub record IsVisiting (store : List (List ℕ)) (t : Trail) (w : Watches) (f at : ℕ) : Type 0 where
  pub room : IsRoom store t w
  pub covered : (i : ℕ) → i < length store → IsShortAt store w i ⊎ (IsPairAt store w i × GuardsAt t w i × TodoAt t w f at i)
  pub within : f < 2 * length t.literals.items
  pub place : get_or t.places.items (f / 2) 0 ≡ w.done
  pub value : get_or t.values.items f 0 ≡ 2
  pub before : w.done < t.count

-- what a visit of one clause gives
abbrev pub IsVisited : List (List ℕ) → Trail → Watches → ℕ → ℕ → ℕ → Visit → Type 0
IsVisited store t w f at n Passed = IsVisiting store t w f (at + 1) × (length (get_or w.lists f []) ≡ n)
IsVisited store t w f at n Moved = IsVisiting store t w f at × (length (get_or w.lists f []) + 1 ≡ n)
IsVisited store t w f at n (Conflict i) = IsWatching store t w × (i < length store) × IsFalse t (get_or store i [])

-- what is true stays true
abbrev pub KeepsTrue : Trail → Trail → Type 0
KeepsTrue old new = (l : ℕ) → TrueBelow old.values.items old.places.items l old.count → TrueBelow new.values.items new.places.items l new.count

-- each short clause as far as an index of `short` has a true literal
abbrev pub AreSettled : List (List ℕ) → Trail → Watches → ℕ → Type 0
AreSettled store t w at = (k : ℕ) → k < at → get_or w.short.items k 0 < length store → IsShort (get_or store (get_or w.short.items k 0) [])
    → (l : ℕ) × Has (get_or store (get_or w.short.items k 0) []) l × TrueBelow t.values.items t.places.items l t.count
