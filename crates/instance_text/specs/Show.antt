-- The text of an instance.
use Rattle.std.specs.Prelude.{ℕ, zero, suc, ◌+◌, List, [], ◌++◌, length, codes, is_none}
use Rattle.std.specs.List.{filter, flat_map}
use Rattle.clf_tree.specs.declared.model.Model.{Model}
use Rattle.clf_tree.specs.declared.model.Clafer.{Clafer}
use Rattle.clf_tree.specs.declared.instance.Entry.{Entry}
use Rattle.clf_tree.specs.Shape.{is_child_of}
use Rattle.instance_text.specs.Names.{shown_node, shown_target}

-- two blanks for each node above
abbrev pub indent : ℕ → List ℕ
indent zero = []
indent (suc n) = indent n ++ codes "  "

abbrev pub line : List Clafer → ℕ → Entry → List ℕ
line clafers depth e = indent depth ++ shown_node clafers e.node ++ shown_target clafers e.target ++ codes "\n"

module _ (clafers : List Clafer) (entries : List Entry) where
  -- an entry's line, then what stands below it, down to n levels
  abbrev pub subtree : ℕ → ℕ → Entry → List ℕ
  subtree zero depth e = []
  subtree (suc n) depth e = line clafers depth e ++ flat_map (subtree n (depth + 1)) (filter (is_child_of e) entries)

-- the entries without a parent, each with what stands below it
abbrev pub show : Model → List Entry → List ℕ
show model entries = flat_map (subtree model.clafers entries (length entries) 0) (filter (λ e. is_none e.parent) entries)
