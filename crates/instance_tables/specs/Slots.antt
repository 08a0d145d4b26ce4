-- Slots: the nodes within the scopes, numbered in the order of the model.
use Rattle.std.specs.Prelude.{ℕ, zero, suc, ◌+◌, List, [], ◌∷◌, Option, Some, None, get_or, nat_lt, if◌then◌else◌}
use Rattle.clf_tree.specs.declared.instance.Node.{Node}

-- the slot of a clafer's node 0: the scopes of the clafers before it, added up
abbrev pub first_slot : List ℕ → ℕ → ℕ
first_slot [] c = 0
first_slot (n ∷ ns) zero = 0
first_slot (n ∷ ns) (suc c) = n + first_slot ns c

-- the slot of a node, if its number is below the scope of its clafer
abbrev pub slot_of : List ℕ → Node → Option ℕ
slot_of scopes n = if nat_lt n.number (get_or scopes n.clafer 0) then Some (first_slot scopes n.clafer + n.number) else None
