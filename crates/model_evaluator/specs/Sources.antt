-- Where nodes lead to.
use Rattle.std.specs.Prelude.{List, Option, None, if◌then◌else◌}
use Rattle.std.specs.List.{filter_map}
use Rattle.clf_tree.specs.declared.instance.Node.{Node}
use Rattle.clf_tree.specs.declared.instance.Entry.{Entry}
use Rattle.clf_tree.specs.Nodes.{has_node}

-- what the entries of the given nodes lead to, in the order of the entries, as often as they do
abbrev pub reached : (Entry → Option Node) → List Node → List Entry → List Node
reached link ns entries = filter_map (λ x. if has_node ns x.node then link x else None) entries
