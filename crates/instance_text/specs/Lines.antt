-- Parents by depth: a line's parent is the node of the last line before it that stands one step less deep.
use Rattle.std.specs.Prelude.{ℕ, ◌-◌, List, [], ◌∷◌, ◌++◌, length, take, slice_get, nat_le, Option, Some, None, if◌then◌else◌}
use Rattle.std.specs.Option.{option_map}
use Rattle.clf_tree.specs.declared.instance.Node.{Node}
use Rattle.clf_tree.specs.declared.instance.Entry.{Entry}
use Rattle.instance_text.specs.declared.lines.Line.{Line}

abbrev pub last_of : List Node → Option Node
last_of above = slice_get above (length above - 1)

-- the entry of a line that stands below the given nodes
abbrev pub entry_below : List Node → Line → Entry
entry_below above l = record { node = l.node; parent = last_of above; target = l.target }

-- the entries of lines, where these nodes stand above the first of them, the deepest last
abbrev pub entries_below : List Node → List Line → Option (List Entry)
entries_below above [] = Some []
entries_below above (l ∷ ls) =
    if nat_le l.depth (length above)
    then option_map (λ es. entry_below (take l.depth above) l ∷ es) (entries_below (take l.depth above ++ l.node ∷ []) ls)
    else None
