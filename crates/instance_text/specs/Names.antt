-- How clafers and nodes are named in a text.
use Rattle.std.specs.Prelude.{ℕ, zero, suc, ◌==◌, ◌&&◌, Bool, not, List, [], ◌∷◌, ◌++◌, length, slice_get, bytes_eq, codes, decimal, Option, Some, None, if◌then◌else◌}
use Rattle.std.specs.Fmt.{signed_decimal}
use Rattle.std.specs.Option.{option_map_or}
use Rattle.std.specs.List.{list_any}
use Rattle.clf_tree.specs.declared.model.Clafer.{Clafer}
use Rattle.clf_tree.specs.declared.instance.Node.{Node}
use Rattle.clf_tree.specs.declared.instance.Target.{Target}
use Rattle.clf_tree.specs.declared.instance.Target.TheVariants as target
use Rattle.clf_tree.specs.Lists.{numbers_below}
use Rattle.clf_tree.specs.Hierarchy.{parent_of}

abbrev pub name_of : List Clafer → ℕ → List ℕ
name_of clafers c = option_map_or (λ k. k.title.name) (slice_get clafers c) []

-- the names from a top-level clafer down to this one, joined by `.` (46), where it is fewer than n steps down
abbrev pub path_within : List Clafer → ℕ → ℕ → List ℕ
path_within clafers zero c = []
path_within clafers (suc n) c = option_map_or (λ p. path_within clafers n p ++ 46 ∷ []) (parent_of clafers c) [] ++ name_of clafers c

abbrev pub path_of : List Clafer → ℕ → List ℕ
path_of clafers c = path_within clafers (length clafers) c

-- whether another clafer has the same name
abbrev pub has_namesake : List Clafer → ℕ → Bool
has_namesake clafers c = list_any (λ d. not (d == c) && bytes_eq (name_of clafers d) (name_of clafers c)) (numbers_below (length clafers))

-- a clafer is shown as its name where no other has it, else as its path
abbrev pub shown_clafer : List Clafer → ℕ → List ℕ
shown_clafer clafers c = if has_namesake clafers c then path_of clafers c else name_of clafers c

abbrev pub shown_node : List Clafer → Node → List ℕ
shown_node clafers n = shown_clafer clafers n.clafer ++ codes "$" ++ decimal n.number

-- ` = ` and an integer, or ` -> ` and a node
abbrev pub shown_target : List Clafer → Option Target → List ℕ
shown_target clafers None = []
shown_target clafers (Some (target.Int z)) = codes " = " ++ signed_decimal z
shown_target clafers (Some (target.Node n)) = codes " -> " ++ shown_node clafers n
