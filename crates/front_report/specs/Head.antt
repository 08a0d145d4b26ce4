-- The head of each report.
use Rattle.std.specs.Prelude.{ℕ, not, List, ◌++◌, length, count_by, codes, decimal}
use Rattle.std.specs.Fmt.{signed_decimal}
use Rattle.std.specs.List.{flat_map, filter, range_with_len}
use Rattle.clf_tree.specs.declared.model.Clafer.{Clafer}
use Rattle.clf_tree.specs.declared.scopes.Scopes.{Scopes}
use Rattle.clf_tree.specs.Hierarchy.{is_concrete}
use Rattle.clf_tree.specs.Nodes.{scope_of}
use Rattle.instance_text.specs.Names.{path_of}

-- the path of a clafer and its scope
abbrev pub scope_line : List Clafer → Scopes → ℕ → List ℕ
scope_line clafers scopes c = path_of clafers c ++ codes " " ++ decimal (scope_of scopes c) ++ codes "\n"

abbrev pub scope_lines : List Clafer → Scopes → List ℕ
scope_lines clafers scopes = flat_map (scope_line clafers scopes) (filter (is_concrete clafers) (range_with_len 0 (length clafers)))

abbrev pub range_line : Scopes → List ℕ
range_line scopes = codes "ints " ++ signed_decimal scopes.low ++ codes ".." ++ signed_decimal scopes.high ++ codes "\n"

abbrev pub count_line : List Clafer → List ℕ
count_line clafers = codes "scopes " ++ decimal (count_by (λ k. not k.is_abstract) clafers) ++ codes "\n"

-- how many concrete clafers there are, their scopes, and the range of integers
abbrev pub head : List Clafer → Scopes → List ℕ
head clafers scopes = count_line clafers ++ scope_lines clafers scopes ++ range_line scopes
