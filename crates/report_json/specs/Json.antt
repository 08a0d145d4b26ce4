-- The report as JSON.
use Rattle.std.specs.Prelude.{ℕ, ◌==◌, List, [], ◌∷◌, ◌++◌, length, map, codes, decimal, ℤ, if◌then◌else◌, IsTrue}
use Rattle.std.specs.Fmt.{signed_decimal}
use Rattle.std.specs.Option.{option_map_or}
use Rattle.std.specs.List.{flat_map, filter, list_all}
use Rattle.json.specs.Print.{quoted}
use Rattle.clf_tree.specs.declared.model.Model.{Model}
use Rattle.clf_tree.specs.declared.model.Clafer.{Clafer}
use Rattle.clf_tree.specs.declared.instance.Target.{Target}
use Rattle.clf_tree.specs.declared.instance.Target.TheVariants as target
use Rattle.clf_tree.specs.declared.instance.Entry.{Entry}
use Rattle.clf_tree.specs.declared.scopes.Scopes.{Scopes}
use Rattle.clf_tree.specs.declared.vector.Point.{Point}
use Rattle.clf_tree.specs.declared.vector.FrontEnd.{FrontEnd}
use Rattle.clf_tree.specs.declared.vector.FrontEnd.TheVariants as ends
use Rattle.clf_tree.specs.Lists.{numbers_below}
use Rattle.clf_tree.specs.Hierarchy.{is_concrete}
use Rattle.clf_tree.specs.Nodes.{scope_of}
use Rattle.clf_tree.specs.Named.{has_name}
use Rattle.instance_text.specs.Names.{path_of, shown_node}
use Rattle.front_report.specs.declared.outcome.Outcome.{Outcome}
use Rattle.front_report.specs.declared.outcome.Outcome.TheVariants as told
use Rattle.report_json.specs.TreeOrder.{in_tree_order}

-- texts with a comma between each two
abbrev pub commas : List (List ℕ) → List ℕ
commas [] = []
commas (x ∷ rest) = x ++ flat_map (λ y. codes "," ++ y) rest

abbrev pub null_json : List ℕ
null_json = codes "null"

abbrev pub target_json : List Clafer → Target → List ℕ
target_json clafers (target.Int z) = signed_decimal z
target_json clafers (target.Node n) = quoted (shown_node clafers n)

-- a node with its parent and its target
abbrev pub entry_json : List Clafer → Entry → List ℕ
entry_json clafers e =
    codes "{\"name\":" ++ quoted (shown_node clafers e.node)
    ++ codes ",\"parent\":" ++ option_map_or (λ n. quoted (shown_node clafers n)) e.parent null_json
    ++ codes ",\"target\":" ++ option_map_or (target_json clafers) e.target null_json ++ codes "}"

-- a value as a text, since it may have more digits than readers of JSON keep
abbrev pub value_json : ℤ → List ℕ
value_json z = quoted (signed_decimal z)

-- the nodes of an instance in the order of its trees, and the values
abbrev pub point_json : List Clafer → List Entry → List ℤ → List ℕ
point_json clafers entries values =
    codes "{\"nodes\":[" ++ commas (map (entry_json clafers) (in_tree_order entries))
    ++ codes "],\"vector\":[" ++ commas (map value_json values) ++ codes "]}"

abbrev pub witnessed_json : List Clafer → Point → List ℕ
witnessed_json clafers p = point_json clafers p.witness.entries p.vector.values

abbrev pub points_json : List Clafer → Outcome → List ℕ
points_json clafers (told.One found) = point_json clafers found.entries []
points_json clafers told.NoInstance = []
points_json clafers told.OneSpent = []
points_json clafers (told.Front found) = commas (map (witnessed_json clafers) found.points)

abbrev pub claims_of : Outcome → ℕ
claims_of (told.One found) = 0
claims_of told.NoInstance = 1
claims_of told.OneSpent = 0
claims_of (told.Front found) = found.claims

-- how the search for a front ended, with so many points
abbrev pub ended_word : FrontEnd → ℕ → List ℕ
ended_word ends.Finished n = if n == 0 then codes "no instance" else codes "front"
ended_word ends.Spent n = codes "unfinished E100"
ended_word (ends.Full further) n = codes "unfinished E101"

abbrev pub result_of : Outcome → List ℕ
result_of (told.One found) = codes "instance"
result_of told.NoInstance = codes "no instance"
result_of told.OneSpent = codes "unfinished E100"
result_of (told.Front found) = ended_word found.ended (length found.points)

-- the path of a clafer and its scope
abbrev pub scope_json : List Clafer → Scopes → ℕ → List ℕ
scope_json clafers scopes c = codes "[" ++ quoted (path_of clafers c) ++ codes "," ++ decimal (scope_of scopes c) ++ codes "]"

abbrev pub scopes_json : List Clafer → Scopes → List ℕ
scopes_json clafers scopes = commas (map (scope_json clafers scopes) (filter (is_concrete clafers) (numbers_below (length clafers))))

abbrev pub range_json : Scopes → List ℕ
range_json scopes = codes ",\"ints\":[" ++ signed_decimal scopes.low ++ codes "," ++ signed_decimal scopes.high ++ codes "]"

-- one object on one line, its keys in the order of the alphabet
unfoldable pub json_report : Model → Scopes → Outcome → List ℕ
json_report model scopes outcome =
    codes "{\"claims\":" ++ decimal (claims_of outcome)
    ++ range_json scopes
    ++ codes ",\"points\":[" ++ points_json model.clafers outcome
    ++ codes "],\"result\":" ++ quoted (result_of outcome)
    ++ codes ",\"scopes\":[" ++ scopes_json model.clafers scopes ++ codes "]}\n"

-- the names of clafers are names of the language
abbrev pub HaveNames : List Clafer → Type 0
HaveNames clafers = IsTrue (list_all has_name clafers)
