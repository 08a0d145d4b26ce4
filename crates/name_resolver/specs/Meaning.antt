-- What a name means, as a function.
use Rattle.std.specs.Prelude.{ℕ, zero, suc, ◌+◌, ◌≡◌, ◌↔◌, Bool, true, List, length, Option, Some, None, IsTrue, nat_lt}
use Rattle.std.specs.List.{list_all}
use Rattle.clf_tree.specs.declared.model.Clafer.{Clafer}
use Rattle.clf_tree.specs.Hierarchy.{parent_of, is_below}
use Rattle.clf_tree.specs.Named.{each, follows_parent}
use Rattle.name_resolver.specs.declared.nearest.Nearest.{Nearest}
use Rattle.name_resolver.specs.declared.nearest.Nearest.TheVariants as nearest
use Rattle.name_resolver.specs.declared.outside.Found.{Found}
use Rattle.name_resolver.specs.declared.outside.Found.TheVariants as found
use Rattle.name_resolver.specs.declared.steps.Meant.TheVariants as meant
use Rattle.name_resolver.specs.Ways.{children}
use Rattle.name_resolver.specs.Levels.{first_level}
use Rattle.name_resolver.specs.FirstWay.{way_taken}
use Rattle.name_resolver.specs.Outwards.{Means, at_top}

-- what is nearest below c, so many parents out, or what the name means further out
abbrev pub or_outwards : List Clafer → ℕ → ℕ → Nearest → Found → Found
or_outwards clafers c out (nearest.Only d) outer = found.Means (meant.Below out (way_taken clafers c d))
or_outwards clafers c out nearest.Several outer = found.Several
or_outwards clafers c out nearest.Nothing outer = outer

-- from a context that is so many parents out, with fewer than n parents to go
abbrev pub from_context : List Clafer → List ℕ → Option ℕ → ℕ → ℕ → Found
from_context clafers name None n out = at_top clafers name
from_context clafers name (Some c) zero out = at_top clafers name
from_context clafers name (Some c) (suc n) out =
    or_outwards clafers c out (first_level clafers name (length clafers) (children clafers c)) (from_context clafers name (parent_of clafers c) n (out + 1))

unfoldable pub meaning_of : List Clafer → Option ℕ → List ℕ → Found
meaning_of clafers context name = from_context clafers name context (length clafers) 0

-- from each context each name means one thing, which the function gives
abbrev pub MeansOne : Type 0
MeansOne = (clafers : List Clafer) (context : Option ℕ) (name : List ℕ) (found : Found) → IsTrue (is_below (length clafers) context) → IsTrue (each clafers (follows_parent clafers))
    → Means clafers name context 0 found ↔ (found ≡ meaning_of clafers context name)

-- whether the clafers of what is found are among the first n
abbrev pub is_there : ℕ → Found → Bool
is_there n (found.Means (meant.Below out way)) = list_all (λ d. nat_lt d n) way
is_there n (found.Means (meant.Top c)) = nat_lt c n
is_there n _ = true

-- what a name means is of the model
abbrev pub MeansThere : Type 0
MeansThere = (clafers : List Clafer) (name : List ℕ) (context : Option ℕ) (out : ℕ) (found : Found) → Means clafers name context out found → IsTrue (is_there (length clafers) found)
