-- Ranks that fall from a clafer to its super: where they do, no clafer of a rank is above itself.
use Rattle.std.specs.Prelude.{ℕ, ◌≡◌, ◌<◌, ◌≤◌, List, get_or, Some}
use Rattle.clf_tree.specs.declared.model.Clafer.{Clafer}
use Rattle.clf_tree.specs.Hierarchy.{super_of}

-- the rank of a clafer, 0 where it has none
abbrev pub rank_of : List ℕ → ℕ → ℕ
rank_of ranks c = get_or ranks c 0

-- the super of a clafer that has a rank has a lower one
abbrev pub FallsAt : List Clafer → List ℕ → ℕ → Type 0
FallsAt clafers ranks c = (s : ℕ) → 1 ≤ rank_of ranks c → super_of clafers c ≡ Some s → (1 ≤ rank_of ranks s) × (rank_of ranks s < rank_of ranks c)

abbrev pub Fall : List Clafer → List ℕ → Type 0
Fall clafers ranks = (c : ℕ) → FallsAt clafers ranks c
