-- Heights that don't rise from a clafer to its owners: where they fall to all of its owners, a clafer doesn't contain itself.
use Rattle.std.specs.Prelude.{ℕ, ◌≡◌, ◌<◌, ◌≤◌, true, List, get_or, Some}
use Rattle.clf_tree.specs.declared.model.Clafer.{Clafer}
use Rattle.clf_tree.specs.Hierarchy.{super_of, parent_of, is_concrete}

abbrev pub height_of : List ℕ → ℕ → ℕ
height_of heights c = get_or heights c 0

-- Of each clafer its own height, and one of its heirs, which is at least the height of each concrete clafer that is-a it.
pub record RiseAt (clafers : List Clafer) (own heirs : List ℕ) (c : ℕ) : Type 0 where
  -- those that are-a its parent are no higher
  pub below_parent : (p : ℕ) → parent_of clafers c ≡ Some p → height_of heirs p ≤ height_of own c
  -- a concrete clafer is one of its heirs
  pub is_heir : is_concrete clafers c ≡ true → height_of own c ≤ height_of heirs c
  -- its heirs are heirs of its super
  pub heirs_of_super : (s : ℕ) → super_of clafers c ≡ Some s → height_of heirs c ≤ height_of heirs s

abbrev pub Rise : List Clafer → List ℕ → List ℕ → Type 0
Rise clafers own heirs = (c : ℕ) → RiseAt clafers own heirs c

-- all that are-a its parent are lower
abbrev pub StandsAbove : List Clafer → List ℕ → List ℕ → ℕ → Type 0
StandsAbove clafers own heirs c = (p : ℕ) → parent_of clafers c ≡ Some p → height_of heirs p < height_of own c
