-- Which instance a text shows.
use Rattle.std.specs.Prelude.{◌≡◌, ◌↔◌, ℕ, ◌&&◌, ◌^◌, Bool, true, List, nat_lt, Option, Some, IsTrue, ℤ, pos, neg_ℤ, int_le, int_lt}
use Rattle.std.specs.Option.{option_map_or}
use Rattle.std.specs.List.{list_all}
use Rattle.clf_tree.specs.declared.model.Model.{Model}
use Rattle.clf_tree.specs.declared.instance.Node.{Node}
use Rattle.clf_tree.specs.declared.instance.Target.{Target}
use Rattle.clf_tree.specs.declared.instance.Target.TheVariants as target
use Rattle.clf_tree.specs.declared.instance.Entry.{Entry}
use Rattle.clf_tree.specs.Nodes.{named_by, is_ordered, is_tree}
use Rattle.instance_text.specs.Show.{show}

-- the numbers that an entry of an instance has room for: 32 bits for clafers and nodes, 64 bits for an integer
abbrev pub is_held_node : Node → Bool
is_held_node n = nat_lt n.clafer (2 ^ 32) && nat_lt n.number (2 ^ 32)

abbrev pub is_held_target : Target → Bool
is_held_target (target.Int z) = int_le (neg_ℤ (pos (2 ^ 63))) z && int_lt z (pos (2 ^ 63))
is_held_target (target.Node n) = true

abbrev pub is_held : Entry → Bool
is_held e = list_all is_held_node (named_by e) && option_map_or is_held_target e.target true

-- the text of an instance that is a tree
pub record Shows (model : Model) (entries : List Entry) (text : List ℕ) : Type 0 where
  pub ordered : IsTrue (is_ordered entries)
  pub held : IsTrue (list_all is_held entries)
  pub tree : IsTrue (is_tree model.clafers entries)
  pub is : text ≡ show model entries

-- what is found for a text: the instance that it shows, and nothing where it shows none
abbrev pub FindsShown : Model → List ℕ → Option (List Entry) → Type 0
FindsShown model text found = (entries : List Entry) → Shows model entries text ↔ (found ≡ Some entries)
