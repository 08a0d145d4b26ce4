-- What the parts of a report are as values of JSON.
use Rattle.std.specs.Prelude.{ℕ, List, codes}
use Rattle.std.specs.Option.{option_map_or}
use Rattle.serde_json.specs.Data.{Data, null, number, string, unsigned, array, item, no_items, object, member, no_members}
use Rattle.serde_json.specs.Find.{of_integer}
use Rattle.clf_tree.specs.declared.model.Clafer.{Clafer}
use Rattle.clf_tree.specs.declared.instance.Node.{Node}
use Rattle.clf_tree.specs.declared.instance.Target.{Target}
use Rattle.clf_tree.specs.declared.instance.Target.TheVariants as target
use Rattle.clf_tree.specs.declared.instance.Entry.{Entry}
use Rattle.clf_tree.specs.declared.scopes.Scopes.{Scopes}
use Rattle.clf_tree.specs.Nodes.{scope_of}
use Rattle.instance_text.specs.Names.{path_of, shown_node}

abbrev pub node_data : List Clafer → Node → Data
node_data clafers n = string (shown_node clafers n)

abbrev pub target_data : List Clafer → Target → Data
target_data clafers (target.Int z) = number (of_integer z)
target_data clafers (target.Node n) = node_data clafers n

-- a node of this name, with this parent and this target
abbrev pub object_of_node : Data → Data → Data → Data
object_of_node name parent target =
    object (member (codes "name") name (member (codes "parent") parent (member (codes "target") target no_members)))

abbrev pub entry_data : List Clafer → Entry → Data
entry_data clafers e =
    object_of_node (node_data clafers e.node) (option_map_or (node_data clafers) e.parent null)
    (option_map_or (target_data clafers) e.target null)

-- a path and its scope
abbrev pub pair_of_scope : Data → ℕ → Data
pair_of_scope path scope = array (item path (item (number (unsigned scope)) no_items))

abbrev pub scope_data : List Clafer → Scopes → ℕ → Data
scope_data clafers scopes c = pair_of_scope (string (path_of clafers c)) (scope_of scopes c)
