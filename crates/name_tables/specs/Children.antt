-- The children of a name, as the labels tell of them.
use Rattle.std.specs.Prelude.{ℕ, ◌≡◌, ◌==◌, ◌&&◌, Bool, List, [], ◌∷◌, Option, Some, None, if◌then◌else◌}
use Rattle.std.specs.Option.{option_map_or}
use Rattle.clf_tree.specs.declared.model.Clafer.{Clafer}
use Rattle.clf_tree.specs.Lists.{has}
use Rattle.name_resolver.specs.declared.nearest.Nearest.{Nearest}
use Rattle.name_resolver.specs.declared.nearest.Nearest.TheVariants.{Nothing, Only, Several}
use Rattle.name_resolver.specs.Ways.{is_named}
use Rattle.name_resolver.specs.Levels.{is_child_of}
use Rattle.name_tables.specs.declared.label.Label.{Label}

-- whether e has the name and is a child of one of ks
abbrev pub is_child_named : List Clafer → List ℕ → List ℕ → ℕ → Bool
is_child_named clafers name ks e = is_named clafers name e && is_child_of clafers ks e

-- just the clafers of ds have the name and are a child of one of ks
abbrev pub AreChildren : List Clafer → List ℕ → List ℕ → List ℕ → Type 0
AreChildren clafers name ks ds = (e : ℕ) → has ds e ≡ is_child_named clafers name ks e

-- no child of k has the name, or one alone; of several nothing more is told
abbrev pub IsChild : List Clafer → List ℕ → ℕ → Nearest → Type 0
IsChild clafers name k Nothing = AreChildren clafers name (k ∷ []) []
IsChild clafers name k (Only d) = AreChildren clafers name (k ∷ []) (d ∷ [])
IsChild clafers name k Several = Unit {0}

-- those to which the shortest ways lead, if these have one step
abbrev pub told : Option Label → Nearest
told None = Nothing
told (Some l) = if l.steps == 1 then option_map_or Only l.only Several else Nothing
