-- Instances whose numbers say no more than their parents do.
use Rattle.std.specs.Prelude.{◌≡◌, ℕ, ◌<◌, ◌==◌, ◌&&◌, ◌||◌, Bool, true, not, List, Option, Some, is_some, nat_lt, IsTrue}
use Rattle.std.specs.List.{list_all, Contains}
use Rattle.clf_tree.specs.declared.model.Clafer.{Clafer}
use Rattle.clf_tree.specs.declared.instance.Node.{Node}
use Rattle.clf_tree.specs.declared.instance.Entry.{Entry}
use Rattle.clf_tree.specs.Lists.{each_two, numbers_below}
use Rattle.clf_tree.specs.Hierarchy.{parent_of}
use Rattle.clf_tree.specs.Named.{contains_itself}
use Rattle.clf_tree.specs.Nodes.{is_before, has_node, nodes_of}

-- whether each number below that of an entry is the number of an entry of its clafer
abbrev pub fills_numbers : List Entry → Entry → Bool
fills_numbers entries e =
    list_all (λ k. has_node (nodes_of entries) (record { clafer = e.node.clafer; number = k })) (numbers_below e.node.number)

-- whether the numbers of a clafer follow the parents of its instances: it is nested, and in no containment cycle
abbrev pub follows_parents : List Clafer → ℕ → Bool
follows_parents clafers c = is_some (parent_of clafers c) && not (contains_itself clafers c)

-- of two nodes, either of which may be missing, the first is not later than the second
abbrev pub is_no_later : Option Node → Option Node → Bool
is_no_later (Some m) (Some n) = not (is_before n m)
is_no_later _ _ = true

-- of two entries of one such clafer, the one with the smaller number first, the first has no later parent
abbrev pub keep_order : List Clafer → Entry → Entry → Bool
keep_order clafers d e = not ((d.node.clafer == e.node.clafer) && follows_parents clafers d.node.clafer) || is_no_later d.parent e.parent

-- For each clafer the numbers of its entries are 0 to n - 1 for some n. Of two entries of one nested clafer that is in no
-- containment cycle, the one with the smaller number has no later parent in the order of nodes.
pub record IsCanonical (clafers : List Clafer) (entries : List Entry) : Type 0 where
  pub numbered : (c : ℕ) → (n : ℕ) × ((k : ℕ) → has_node (nodes_of entries) (record { clafer = c; number = k }) ≡ nat_lt k n)
  pub in_order : (d e : Entry) → Contains entries d → Contains entries e
      → d.node.clafer ≡ e.node.clafer → d.node.number < e.node.number
      → IsTrue (follows_parents clafers d.node.clafer) → IsTrue (is_no_later d.parent e.parent)

-- the test of it: entries stand in the order of their nodes, so of two of one clafer the earlier one has the smaller number
abbrev pub is_canonical : List Clafer → List Entry → Bool
is_canonical clafers entries = list_all (fills_numbers entries) entries && each_two (keep_order clafers) entries
