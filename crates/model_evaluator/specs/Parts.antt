-- Parts of the meaning by names of their own.
use Rattle.std.specs.Prelude.{ℕ, ◌||◌, Bool, List}
use Rattle.std.specs.List.{filter}
use Rattle.clf_tree.specs.declared.token.Word.{Word}
use Rattle.clf_tree.specs.declared.model.Clafer.{Clafer}
use Rattle.clf_tree.specs.declared.instance.Node.{Node}
use Rattle.clf_tree.specs.declared.instance.Entry.{Entry}
use Rattle.clf_tree.specs.declared.kind.Within.{Within}
use Rattle.clf_tree.specs.Nodes.{same_node, has_node, nodes_of}
use Rattle.clf_tree.specs.Meaning.{children, quantified, same_set}

-- the nodes of the listed clafers below one of the given nodes
unfoldable pub stepped : List Clafer → List Entry → List ℕ → List Node → List Node
stepped clafers entries into ns = children clafers entries into ns

-- the nodes of the instance that are in one of two lists
unfoldable pub joined : List Entry → List Node → List Node → List Node
joined entries left right = nodes_of (filter (λ x. has_node left x.node || has_node right x.node) entries)

-- whether two lists have the same nodes
unfoldable pub same_nodes : List Node → List Node → Bool
same_nodes left right = same_set same_node left right

-- what a quantifier says of a body that is read with the given kinds
unfoldable pub asked : Word → (Within → List Node → Bool) → Within → List (List Node) → Bool
asked word test within ts = quantified word (test within) ts
