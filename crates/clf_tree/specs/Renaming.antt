-- Instances that differ only in the numbers of their nodes.
use Rattle.std.specs.Prelude.{ℕ, ◌≡◌, ◌<◌, List, [], length, map, get_or, IsPermutation}
use Rattle.std.specs.Option.{option_map}
use Rattle.clf_tree.specs.declared.instance.Node.{Node}
use Rattle.clf_tree.specs.declared.instance.Target.{Target}
use Rattle.clf_tree.specs.declared.instance.Target.TheVariants as target
use Rattle.clf_tree.specs.declared.instance.Entry.{Entry}
use Rattle.clf_tree.specs.declared.scopes.Scopes.{Scopes}
use Rattle.clf_tree.specs.Lists.{numbers_below}
use Rattle.clf_tree.specs.Nodes.{scope_of}

-- a node whose number is the one that the list of its clafer has in the old one's place
abbrev pub renamed_node : List (List ℕ) → Node → Node
renamed_node numbers n = record n { number = get_or (get_or numbers n.clafer []) n.number 0 }

abbrev pub renamed_target : List (List ℕ) → Target → Target
renamed_target numbers (target.Int z) = target.Int z
renamed_target numbers (target.Node n) = target.Node (renamed_node numbers n)

abbrev pub renamed : List (List ℕ) → Entry → Entry
renamed numbers e = record {
  node = renamed_node numbers e.node;
  parent = option_map (renamed_node numbers) e.parent;
  target = option_map (renamed_target numbers) e.target;
}

-- a permutation for each clafer, of the numbers below its scope
pub record IsRenaming (scopes : Scopes) (numbers : List (List ℕ)) : Type 0 where
  pub one_each : length numbers ≡ length scopes.of
  pub permutes : (c : ℕ) → c < length scopes.of → IsPermutation (get_or numbers c []) (numbers_below (scope_of scopes c))

-- one instance becomes the other by a renaming
pub record IsIsomorphic (scopes : Scopes) (a b : List Entry) : Type 0 where
  pub numbers : List (List ℕ)
  pub renaming : IsRenaming scopes numbers
  pub becomes : IsPermutation b (map (renamed numbers) a)
