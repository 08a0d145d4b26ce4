-- What the tables of an instance hold.
use Rattle.std.specs.Prelude.{ℕ, ◌≡◌, Bool, false, List, [], Option, Some, None, get_or}
use Rattle.clf_tree.specs.declared.instance.Node.{Node}
use Rattle.clf_tree.specs.declared.instance.Entry.{Entry}
use Rattle.clf_tree.specs.Nodes.{entry_of, has_node}
use Rattle.instance_tables.specs.Slots.{slot_of}
use Rattle.instance_tables.specs.Children.{children_of}

-- at the slot of a node its entry, if it has one
abbrev pub HoldsEntries : List ℕ → List Entry → List (Option Entry) → Type 0
HoldsEntries scopes entries places = (n : Node) (s : ℕ) → slot_of scopes n ≡ Some s → get_or places s None ≡ entry_of entries n

-- at the slot of a node its children
abbrev pub HoldsChildren : List ℕ → List Entry → List (List Node) → Type 0
HoldsChildren scopes entries below = (n : Node) (s : ℕ) → slot_of scopes n ≡ Some s → get_or below s [] ≡ children_of entries n

-- a node without a slot has neither
abbrev pub NoneOutside : List ℕ → List Entry → Type 0
NoneOutside scopes entries = (n : Node) → slot_of scopes n ≡ None → (entry_of entries n ≡ None) × (children_of entries n ≡ [])

-- at the slot of a node whether it is one of the given nodes
abbrev pub HoldsMembers : List ℕ → List Node → List Bool → Type 0
HoldsMembers scopes nodes marks = (n : Node) (s : ℕ) → slot_of scopes n ≡ Some s → get_or marks s false ≡ has_node nodes n
