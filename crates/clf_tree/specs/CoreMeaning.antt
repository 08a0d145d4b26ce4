-- What a relational expression means in an instance.
use Rattle.std.specs.Prelude.{◌==◌, ◌&&◌, ◌||◌, Bool, false, not, List, [], ◌∷◌, ◌++◌, length, map, nat_le, count_by, ℤ, pos, ◌+ℤ◌, ◌*ℤ◌, neg_ℤ, int_lt, if◌then◌else◌}
use Rattle.std.specs.Ordering.{int_eq}
use Rattle.std.specs.Option.{option_map_or}
use Rattle.std.specs.List.{filter, list_any, list_all}
use Rattle.clf_tree.specs.declared.core_expr.Quantifier.{Quantifier}
use Rattle.clf_tree.specs.declared.core_expr.Quantifier.TheVariants as word
use Rattle.clf_tree.specs.declared.core_expr.CoreModel.{CoreModel}
use Rattle.clf_tree.specs.declared.instance.Node.{Node}
use Rattle.clf_tree.specs.declared.instance.Entry.{Entry}
use Rattle.clf_tree.specs.Lists.{from_end, has}
use Rattle.clf_tree.specs.Nodes.{same_node, has_node, has_some, nodes_of}
use Rattle.clf_tree.specs.Meaning as source
use Rattle.clf_tree.specs.Meaning.{Value, Truth, Integer, Nodes, nodes, total, tried, same_set, all_in}
use Rattle.clf_tree.specs.Core as c
use Rattle.clf_tree.specs.Core.{Core, core}

-- a truth value, and an integer; a value of another sort counts as false, and as 0
abbrev pub truth_in : Value → Bool
truth_in (Truth b) = b
truth_in _ = false

abbrev pub integer_in : Value → ℤ
integer_in (Integer z) = z
integer_in _ = pos 0

-- as many of the tuples pass as the word asks for
abbrev pub passes : Quantifier → (List Node → Bool) → List (List Node) → Bool
passes word.All test ts = list_all test ts
passes word.Some test ts = list_any test ts
passes word.One test ts = count_by test ts == 1
passes word.Lone test ts = nat_le (count_by test ts) 1

module _ (entries : List Entry) where
  -- the nodes whose entries pass a test
  abbrev pub those : (Entry → Bool) → List Node
  those test = nodes_of (filter test entries)

  -- the integers of a value, and the parents and targets of nodes, ask nothing of the clafers
  abbrev pub integers_of : Value → List ℤ
  integers_of v = source.integers [] entries v

  abbrev pub parents_of : List Node → List Node
  parents_of ns = source.parents [] entries ns

  abbrev pub targets_of : List Node → List Node
  targets_of ns = source.targets [] entries ns

  -- with the bound nodes, the innermost last
  abbrev pub meaning : Core → List Node → Value
  meaning (c.Bound _ i) bound = Nodes (option_map_or (λ n. n ∷ []) (from_end bound i) [])
  meaning (c.Every ks) bound = Nodes (those (λ x. has ks x.node.clafer))
  meaning (c.Down ks a) bound = Nodes (those (λ x. has ks x.node.clafer && has_some (nodes (meaning a bound)) x.parent))
  meaning (c.Up _ a) bound = Nodes (parents_of (nodes (meaning a bound)))
  meaning (c.Follow _ a) bound = Nodes (targets_of (nodes (meaning a bound)))
  meaning (c.Union _ a b) bound = Nodes (those (λ x. has_node (nodes (meaning a bound)) x.node || has_node (nodes (meaning b bound)) x.node))
  meaning (c.Minus _ a b) bound = Nodes (filter (λ n. not (has_node (nodes (meaning b bound)) n)) (nodes (meaning a bound)))
  meaning (c.Meet _ a b) bound = Nodes (filter (has_node (nodes (meaning b bound))) (nodes (meaning a bound)))
  meaning (c.ChooseNodes _ t a b) bound = Nodes (if truth_in (meaning t bound) then nodes (meaning a bound) else nodes (meaning b bound))
  meaning (c.Const _ z) bound = Integer z
  meaning (c.Count _ a) bound = Integer (pos (length (nodes (meaning a bound))))
  meaning (c.Total _ a) bound = Integer (total (integers_of (Nodes (nodes (meaning a bound)))))
  meaning (c.Neg _ a) bound = Integer (neg_ℤ (integer_in (meaning a bound)))
  meaning (c.Add _ a b) bound = Integer (integer_in (meaning a bound) +ℤ integer_in (meaning b bound))
  meaning (c.Mul _ a b) bound = Integer (integer_in (meaning a bound) *ℤ integer_in (meaning b bound))
  meaning (c.ChooseNumber _ t a b) bound = Integer (if truth_in (meaning t bound) then integer_in (meaning a bound) else integer_in (meaning b bound))
  meaning (c.Not a) bound = Truth (not (truth_in (meaning a bound)))
  meaning (c.And a b) bound = Truth (truth_in (meaning a bound) && truth_in (meaning b bound))
  meaning (c.Or a b) bound = Truth (truth_in (meaning a bound) || truth_in (meaning b bound))
  meaning (c.Xor a b) bound = Truth (if truth_in (meaning a bound) then not (truth_in (meaning b bound)) else truth_in (meaning b bound))
  meaning (c.ChooseTruth t a b) bound = Truth (if truth_in (meaning t bound) then truth_in (meaning a bound) else truth_in (meaning b bound))
  meaning (c.SameNodes a b) bound = Truth (same_set same_node (nodes (meaning a bound)) (nodes (meaning b bound)))
  meaning (c.WithinNodes a b) bound = Truth (all_in same_node (nodes (meaning a bound)) (nodes (meaning b bound)))
  meaning (c.SameValues a b) bound = Truth (same_set int_eq (integers_of (meaning a bound)) (integers_of (meaning b bound)))
  meaning (c.WithinValues a b) bound = Truth (all_in int_eq (integers_of (meaning a bound)) (integers_of (meaning b bound)))
  meaning (c.Less a b) bound = Truth (int_lt (integer_in (meaning a bound)) (integer_in (meaning b bound)))
  meaning (c.AtLeast k a) bound = Truth (nat_le k (length (nodes (meaning a bound))))
  meaning (c.AtMost k a) bound = Truth (nat_le (length (nodes (meaning a bound))) k)
  meaning (c.Exactly k a) bound = Truth (length (nodes (meaning a bound)) == k)
  meaning (c.Quant word disj names over body) bound =
      Truth (passes word (λ ns. truth_in (meaning body (bound ++ ns))) (tried disj names (nodes (meaning over bound))))

-- the truths of a relational model, and its goals, in an instance
abbrev pub truths_in : CoreModel → List Entry → List Bool
truths_in model entries = map (λ e. truth_in (meaning entries (core e) [])) model.truths

abbrev pub goals_in : CoreModel → List Entry → List ℤ
goals_in model entries = map (λ e. integer_in (meaning entries (core e) [])) model.goals
