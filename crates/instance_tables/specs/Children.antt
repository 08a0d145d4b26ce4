-- The children of a node.
use Rattle.std.specs.Prelude.{Bool, false, List}
use Rattle.std.specs.Option.{option_map_or}
use Rattle.std.specs.List.{filter}
use Rattle.clf_tree.specs.declared.instance.Node.{Node}
use Rattle.clf_tree.specs.declared.instance.Entry.{Entry}
use Rattle.clf_tree.specs.Nodes.{same_node, nodes_of}

-- whether a node is the parent of an entry
abbrev pub is_parent_of : Node → Entry → Bool
is_parent_of n e = option_map_or (same_node n) e.parent false

-- the nodes whose parent is the given one, in order
abbrev pub children_of : List Entry → Node → List Node
children_of entries n = nodes_of (filter (is_parent_of n) entries)
