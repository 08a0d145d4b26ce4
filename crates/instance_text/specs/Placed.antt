-- Whether an entry can stand in a tree, whatever the others are.
use Rattle.std.specs.Prelude.{ℕ, ◌&&◌, Bool, false, List, is_none}
use Rattle.std.specs.Option.{option_map_or}
use Rattle.std.specs.List.{list_all}
use Rattle.clf_tree.specs.declared.model.Clafer.{Clafer}
use Rattle.clf_tree.specs.declared.instance.Node.{Node}
use Rattle.clf_tree.specs.declared.instance.Entry.{Entry}
use Rattle.clf_tree.specs.Hierarchy.{is_a, is_concrete, parent_of}
use Rattle.clf_tree.specs.Nodes.{named_by}

-- whether a node is of a concrete clafer that is-a the given one
abbrev pub is_owner : List Clafer → ℕ → Node → Bool
is_owner clafers parent n = is_concrete clafers n.clafer && is_a clafers n.clafer parent

-- a nested clafer's node has a parent of an owner, and another one has none
abbrev pub has_owner : List Clafer → Entry → Bool
has_owner clafers e =
    option_map_or (λ p. option_map_or (is_owner clafers p) e.parent false) (parent_of clafers e.node.clafer) (is_none e.parent)

-- the nodes that it names are of concrete clafers
abbrev pub names_concrete : List Clafer → Entry → Bool
names_concrete clafers e = list_all (λ n. is_concrete clafers n.clafer) (named_by e)

abbrev pub is_placed : List Clafer → Entry → Bool
is_placed clafers e = names_concrete clafers e && has_owner clafers e
