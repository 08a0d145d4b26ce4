-- What a name means below a clafer.
use Rattle.std.specs.Prelude.{ℕ, ◌≡◌, ◌≢◌, ◌≤◌, true, List, length}
use Rattle.clf_tree.specs.declared.model.Clafer.{Clafer}
use Rattle.name_resolver.specs.declared.nearest.Nearest.{Nearest}
use Rattle.name_resolver.specs.declared.nearest.Nearest.TheVariants as found
use Rattle.name_resolver.specs.Ways.{Way, is_named}

-- a clafer of the name, and a way of one step or more that leads to it
pub record Hit (clafers : List Clafer) (c : ℕ) (name : List ℕ) (way : List ℕ) (d : ℕ) : Type 0 where
  pub leads : Way clafers c way d
  pub some_step : 1 ≤ length way
  pub named : is_named clafers name d ≡ true

-- no way of fewer steps leads to a clafer of the name
abbrev pub IsShortest : List Clafer → ℕ → List ℕ → List ℕ → Type 0
IsShortest clafers c name way = (other : List ℕ) (e : ℕ) → Hit clafers c name other e → length way ≤ length other

-- the clafers of the name to which the shortest ways lead: none, one, or several
pub data IsNearest (clafers : List Clafer) (c : ℕ) (name : List ℕ) : Nearest → Type 0 where
  nothing : ((way : List ℕ) (d : ℕ) → Hit clafers c name way d → ⊥) → IsNearest clafers c name found.Nothing
  only : {d : ℕ} (way : List ℕ) → Hit clafers c name way d → IsShortest clafers c name way
      → ((other : List ℕ) (e : ℕ) → Hit clafers c name other e → length other ≡ length way → e ≡ d)
      → IsNearest clafers c name (found.Only d)
  several : (d e : ℕ) (way other : List ℕ) → Hit clafers c name way d → IsShortest clafers c name way
      → Hit clafers c name other e → length other ≡ length way → d ≢ e
      → IsNearest clafers c name found.Several
