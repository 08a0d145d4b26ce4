-- Nodes, and the instances that they make.
use Rattle.std.specs.Prelude.{ℕ, zero, suc, ◌==◌, ◌&&◌, ◌||◌, Bool, true, false, List, ◌∷◌, ◌++◌, length, map, slice_get, nat_lt, Option, Some, None, int_le, is_none}
use Rattle.std.specs.Option.{option_map_or, option_and_then, option_to_list}
use Rattle.std.specs.List.{filter, find, list_any, list_all}
use Rattle.clf_tree.specs.declared.model.Clafer.{Clafer}
use Rattle.clf_tree.specs.declared.instance.Node.{Node}
use Rattle.clf_tree.specs.declared.instance.Target.{Target}
use Rattle.clf_tree.specs.declared.instance.Target.TheVariants as target
use Rattle.clf_tree.specs.declared.instance.Entry.{Entry}
use Rattle.clf_tree.specs.declared.scopes.Scopes.{Scopes}
use Rattle.clf_tree.specs.Lists.{each_two, has}
use Rattle.clf_tree.specs.Hierarchy.{is_concrete, owners, parent_of}

abbrev pub same_node : Node → Node → Bool
same_node m n = (m.clafer == n.clafer) && (m.number == n.number)

-- by clafer, then by number
abbrev pub is_before : Node → Node → Bool
is_before m n = nat_lt m.clafer n.clafer || ((m.clafer == n.clafer) && nat_lt m.number n.number)

abbrev pub has_node : List Node → Node → Bool
has_node ns n = list_any (same_node n) ns

-- whether a node that may be missing is there and in the list
abbrev pub has_some : List Node → Option Node → Bool
has_some ns n = option_map_or (has_node ns) n false

-- the node of a target
abbrev pub node_in : Target → Option Node
node_in (target.Int z) = None
node_in (target.Node n) = Some n

abbrev pub target_node : Entry → Option Node
target_node e = option_and_then node_in e.target

-- the nodes of an instance
abbrev pub nodes_of : List Entry → List Node
nodes_of entries = map (λ e. e.node) entries

-- the entry of a node
abbrev pub entry_of : List Entry → Node → Option Entry
entry_of entries n = find (λ e. same_node n e.node) entries

abbrev pub parent_in : List Entry → Node → Option Node
parent_in entries n = option_and_then (λ e. e.parent) (entry_of entries n)

-- entries stand in the order of their nodes, no node twice
abbrev pub is_ordered : List Entry → Bool
is_ordered entries = each_two (λ a b. is_before a.node b.node) entries

-- the nodes that an entry names
abbrev pub named_by : Entry → List Node
named_by e = e.node ∷ option_to_list e.parent ++ option_to_list (target_node e)

abbrev pub scope_of : Scopes → ℕ → ℕ
scope_of scopes c = option_map_or (λ n. n) (slice_get scopes.of c) 0

-- each node that is named is of a concrete clafer, with a number below its scope
abbrev pub is_within : List Clafer → Scopes → List Entry → Bool
is_within clafers scopes entries =
    list_all (λ e. list_all (λ n. is_concrete clafers n.clafer && nat_lt n.number (scope_of scopes n.clafer)) (named_by e)) entries

abbrev pub fits_range : Scopes → Target → Bool
fits_range scopes (target.Int z) = int_le scopes.low z && int_le z scopes.high
fits_range scopes (target.Node n) = true

-- each integer target is in the range
abbrev pub is_in_range : Scopes → List Entry → Bool
is_in_range scopes entries = list_all (λ e. option_map_or (fits_range scopes) e.target true) entries

-- whether going from parent to parent ends within n steps
abbrev pub ends_within : ℕ → List Entry → Option Node → Bool
ends_within zero entries n = is_none n
ends_within (suc k) entries n = option_map_or (λ m. ends_within k entries (parent_in entries m)) n true

-- the parent of a nested clafer's node is an entry of an owner, and another node has none
abbrev pub has_its_parent : List Clafer → List Entry → Entry → Bool
has_its_parent clafers entries e =
    option_map_or (λ p. has_some (filter (λ m. has (owners clafers e.node.clafer) m.clafer) (nodes_of entries)) e.parent) (parent_of clafers e.node.clafer) (is_none e.parent)

-- the entries make trees
abbrev pub is_tree : List Clafer → List Entry → Bool
is_tree clafers entries =
    list_all (λ e. list_all (λ n. is_concrete clafers n.clafer) (named_by e) && has_its_parent clafers entries e && ends_within (length entries) entries e.parent) entries
