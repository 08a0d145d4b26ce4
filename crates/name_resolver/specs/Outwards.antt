-- What a name means from a clafer: below it, below its declaring parents outwards, or at top level.
use Rattle.std.specs.Prelude.{ℕ, ◌≡◌, ◌+◌, ◌&&◌, Bool, List, length, slice_get, Option, Some, None, is_none}
use Rattle.std.specs.Option.{option_map_or}
use Rattle.std.specs.List.{filter}
use Rattle.clf_tree.specs.declared.model.Clafer.{Clafer}
use Rattle.clf_tree.specs.Lists.{numbers_below}
use Rattle.clf_tree.specs.Hierarchy.{parent_of}
use Rattle.name_resolver.specs.declared.nearest.Nearest.TheVariants as nearest
use Rattle.name_resolver.specs.declared.outside.Found.{Found}
use Rattle.name_resolver.specs.declared.outside.Found.TheVariants as found
use Rattle.name_resolver.specs.declared.steps.Meant.TheVariants as meant
use Rattle.name_resolver.specs.Ways.{is_named}
use Rattle.name_resolver.specs.LookUp.{IsNearest}
use Rattle.name_resolver.specs.FirstWay.{IsTaken}

abbrev pub is_at_top : List Clafer → List ℕ → ℕ → Bool
is_at_top clafers name c = is_none (parent_of clafers c) && is_named clafers name c

-- the first clafer of the name at top level
abbrev pub at_top : List Clafer → List ℕ → Found
at_top clafers name = option_map_or (λ c. found.Means (meant.Top c)) (slice_get (filter (is_at_top clafers name) (numbers_below (length clafers))) 0) found.Nothing

-- what a name means from a context that is so many parents out: the clafer of the name that is nearest below it, by the way that is
-- taken; where several are nearest, nothing more; where none is, what it means from its declaring parent; outside all, a clafer at
-- top level
pub data Means (clafers : List Clafer) (name : List ℕ) : Option ℕ → ℕ → Found → Type 0 where
  below : {c out d : ℕ} {way : List ℕ} → IsNearest clafers c name (nearest.Only d) → IsTaken clafers c way d
      → Means clafers name (Some c) out (found.Means (meant.Below out way))
  ambiguous : {c out : ℕ} → IsNearest clafers c name nearest.Several → Means clafers name (Some c) out found.Several
  outside : {c out : ℕ} {p : Option ℕ} {r : Found} → IsNearest clafers c name nearest.Nothing → parent_of clafers c ≡ p → Means clafers name p (out + 1) r
      → Means clafers name (Some c) out r
  top : {out : ℕ} → Means clafers name None out (at_top clafers name)
