-- The children of a clafer, and the ways down from it.
use Rattle.std.specs.Prelude.{ℕ, ◌≡◌, Bool, true, false, List, [], ◌∷◌, length, slice_get}
use Rattle.std.specs.Option.{option_map_or}
use Rattle.std.specs.List.{filter}
use Rattle.std.specs.Prelude.{bytes_eq}
use Rattle.clf_tree.specs.declared.model.Clafer.{Clafer}
use Rattle.clf_tree.specs.Lists.{numbers_below}
use Rattle.clf_tree.specs.Hierarchy.{is_a, parent_of}

-- whether d is declared directly under a clafer that c is-a
abbrev pub is_child : List Clafer → ℕ → ℕ → Bool
is_child clafers c d = option_map_or (is_a clafers c) (parent_of clafers d) false

-- in model order
abbrev pub children : List Clafer → ℕ → List ℕ
children clafers c = filter (is_child clafers c) (numbers_below (length clafers))

-- whether the clafer has the name
abbrev pub is_named : List Clafer → List ℕ → ℕ → Bool
is_named clafers name d = option_map_or (λ k. bytes_eq k.title.name name) (slice_get clafers d) false

-- a way down from c to d: each clafer on it is a child of the one before, the last is d
pub data Way (clafers : List Clafer) : ℕ → List ℕ → ℕ → Type 0 where
  here : {c : ℕ} → Way clafers c [] c
  down : {c m d : ℕ} {ms : List ℕ} → is_child clafers c m ≡ true → Way clafers m ms d → Way clafers c (m ∷ ms) d
