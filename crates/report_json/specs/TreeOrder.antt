-- The entries of an instance in the order of its trees.
use Rattle.std.specs.Prelude.{ℕ, zero, suc, List, [], ◌∷◌, length, is_none}
use Rattle.std.specs.List.{filter, flat_map}
use Rattle.clf_tree.specs.declared.instance.Entry.{Entry}
use Rattle.clf_tree.specs.Shape.{is_child_of}

-- an entry, then what stands below it, down to n levels
abbrev pub subtree : List Entry → ℕ → Entry → List Entry
subtree entries zero e = []
subtree entries (suc n) e = e ∷ flat_map (subtree entries n) (filter (is_child_of e) entries)

-- the entries without a parent, each with what stands below it
abbrev pub in_tree_order : List Entry → List Entry
in_tree_order entries = flat_map (subtree entries (length entries)) (filter (λ e. is_none e.parent) entries)
