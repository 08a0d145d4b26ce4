-- A search as a whole, and how a run of it ends.
use Rattle.std.specs.Prelude.{ℕ, ◌≡◌, ◌+◌, ◌<◌, ◌≤◌, ◌⊎◌, ◌++◌, [], List, length, get_or, take, map, Bool, true, false, IsTrue}
use Rattle.cdcl_search.specs.declared.engine.Engine.{Engine}
use Rattle.cdcl_search.specs.declared.engine.Ended.{Ended}
use Rattle.cdcl_search.specs.declared.engine.Ended.TheVariants.{Satisfied, Refuted, Spent}
use Rattle.clause_store.specs.declared.derivation.Chain.{Chain}
use Rattle.cdcl_search.specs.Literals.{Has}
use Rattle.cdcl_search.specs.States.{IsState}
use Rattle.cdcl_search.specs.Watchings.{IsWatching}
use Rattle.cdcl_search.specs.Marks.{AreClear}
use Rattle.clause_store.specs.declared.clause.Literal.{Literal}
use Rattle.clause_store.specs.Resolution.{known_clauses, IsLawful}
use Rattle.cdcl_search.specs.Derivations.{IsNamed, clause_of}
use Rattle.cdcl_search.specs.Teachings.{IsTaught, IsRefuted}
use Rattle.cdcl_search.specs.Progress.{EndsEmpty}
use Rattle.cdcl_search.specs.Learnings.{IsNew, IsNoTautology}

-- the given clauses of a search
abbrev pub given_clauses : Engine → List (List Literal)
given_clauses s = map clause_of (take s.given s.arena)

-- The first `given` clauses are the given ones, and the others are the results of the chains, which are lawful.
pub record IsWhole (s : Engine) : Type 0 where
  pub state : IsState s.arena s.trail
  pub watching : IsWatching s.arena s.trail s.watches
  pub marks : length s.analysis.marks.items ≡ length s.trail.literals.items
  pub clear : IsTrue s.is_clear → AreClear s.analysis.marks.items
  pub given : s.given ≤ length s.arena
  pub named : IsNamed s.arena (known_clauses (given_clauses s) s.chains.items)
  pub lawful : IsLawful (given_clauses s) s.chains.items

-- each clause from a number on is new: it has a literal, no literal beside its opposite, and other literals than each before it
pub record IsFresh (store : List (List ℕ)) (i : ℕ) : Type 0 where
  pub new : IsNew (take i store) (get_or store i [])
  pub no_tautology : IsNoTautology (get_or store i [])
  pub some : 0 < length (get_or store i [])

abbrev pub AreFresh : ℕ → List (List ℕ) → Type 0
AreFresh from store = (i : ℕ) → from ≤ i → i < length store → IsFresh store i

-- each clause from a number on is new, or empty
abbrev pub AreFreshOrEmpty : ℕ → List (List ℕ) → Type 0
AreFreshOrEmpty from store = (i : ℕ) → from ≤ i → i < length store → IsFresh store i ⊎ (get_or store i [] ≡ [])

-- a conflict that wants memory changes neither the store nor the chains
pub record IsSameLog (store : List (List ℕ)) (chains : List Chain) (store' : List (List ℕ)) (chains' : List Chain) : Type 0 where
  pub same_store : store' ≡ store
  pub same_chains : chains' ≡ chains

-- what a conflict does to them
abbrev pub IsStep : List (List ℕ) → List Chain → List (List ℕ) → List Chain → Type 0
IsStep store chains store' chains' = IsSameLog store chains store' chains' ⊎ (IsTaught store chains store' chains' ⊎ IsRefuted store chains store' chains')

-- the store and the chains have grown by fresh clauses, or empty ones
pub record IsLonger (store : List (List ℕ)) (chains : List Chain) (store' : List (List ℕ)) (chains' : List Chain) : Type 0 where
  pub more : List Chain
  pub grown : chains' ≡ chains ++ more
  pub longer : length store ≤ length store'
  pub each : AreFreshOrEmpty (length store) store'

-- a conflict gives the empty clause, or one that is new
abbrev pub IsConflictDone : Engine → Engine → Bool → Type 0
IsConflictDone old new true = IsRefuted old.arena old.chains.items new.arena new.chains.items
IsConflictDone old new false = IsTaught old.arena old.chains.items new.arena new.chains.items

-- each clause has a true literal
abbrev pub AreSatisfied : List (List ℕ) → List ℕ → Type 0
AreSatisfied store values = (i : ℕ) → i < length store → (l : ℕ) × Has (get_or store i []) l × (get_or values l 0 ≡ 1)

-- a search that is whole, and whose last run has found values, if it says so
pub record IsKept (s : Engine) (is_satisfied : Bool) : Type 0 where
  pub whole : IsWhole s
  pub satisfied : is_satisfied ≡ true → AreSatisfied s.arena s.trail.values.items

abbrev pub IsEnded : Engine → Engine → ℕ → Ended → Type 0
IsEnded old new budget Satisfied = AreSatisfied new.arena new.trail.values.items
IsEnded old new budget Refuted = EndsEmpty new.chains.items
IsEnded old new budget Spent = (length new.arena ≡ length old.arena + budget) × AreFresh (length old.arena) new.arena
