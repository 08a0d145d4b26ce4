-- How large the circuit of a relational expression can be.
use Rattle.std.specs.Prelude.{ℕ, zero, suc, ◌+◌, ◌*◌, ◌/◌, ◌^◌, [], max, map, sum, nat_lt, if◌then◌else◌}
use Rattle.clf_tree.specs.declared.core_expr.Quantifier.{Quantifier}
use Rattle.clf_tree.specs.declared.core_expr.Quantifier.TheVariants as word
use Rattle.clf_tree.specs.declared.scopes.Scopes.{Scopes}
use Rattle.clf_tree.specs.Nodes.{scope_of}
use Rattle.clf_tree.specs.Widths.{width}
use Rattle.clf_tree.specs.Intervals.{between, sum_between}
use Rattle.clf_tree.specs.Core as c
use Rattle.clf_tree.specs.Core.{Core}
use Rattle.clf_tree.specs.CoreSoundness.{Sort, Nodes, Number, sort}

-- the number of binary digits, 1 of 0: halving it ends within so many steps
abbrev pub digits_within : ℕ → ℕ → ℕ
digits_within zero n = 1
digits_within (suc k) n = if nat_lt n 2 then 1 else suc (digits_within k (n / 2))

abbrev pub binary_digits : ℕ → ℕ
binary_digits n = digits_within n n

-- each tuple is tried; of `one` and `lone` those that pass are counted too
abbrev pub quantified_weight : Quantifier → ℕ → ℕ → ℕ → ℕ → ℕ
quantified_weight word.All tuples names body over = tuples * (body + 2 * names + 4) + 2 + over
quantified_weight word.Some tuples names body over = tuples * (body + 2 * names + 4) + 2 + over
quantified_weight _ tuples names body over = tuples * (body + 8 * names + 16 * binary_digits tuples + 16) + 8 + over

module _ (scopes : Scopes) where
  -- how many nodes a form can have; a number counts as one
  abbrev pub most_nodes : Sort → ℕ
  most_nodes (Nodes ks) = sum (map (scope_of scopes) ks)
  most_nodes _ = 1

  -- the bits of the range of integers
  abbrev pub range_width : ℕ
  range_width = width (between scopes.low scopes.high)

  -- the bits of a number, and of the sum of nodes' integers
  abbrev pub bits_of : Sort → ℕ
  bits_of (Number w) = w
  bits_of k = width (sum_between [] scopes (most_nodes k))

  -- a count, or a sum, over n nodes
  abbrev pub count_weight : ℕ → ℕ
  count_weight n = 32 * (n + 1) * (range_width + binary_digits n + 1)

  -- of two sets of values
  abbrev pub values_weight : Sort → Sort → ℕ
  values_weight a b = 6 * (most_nodes a + 1) * (most_nodes b + 1) * (max range_width (max (bits_of a) (bits_of b)) + 1)

  abbrev pub core_weight : Core → ℕ
  core_weight (c.Bound ks i) = 1
  core_weight (c.Every ks) = 1
  core_weight (c.Down ks a) = 4 * most_nodes (sort a) * most_nodes (Nodes ks) + core_weight a
  core_weight (c.Up ks a) = 4 * most_nodes (sort a) * most_nodes (Nodes ks) + core_weight a
  core_weight (c.Follow ks a) = 4 * most_nodes (sort a) * most_nodes (Nodes ks) + core_weight a
  core_weight (c.Union ks a b) = 4 * (most_nodes (sort a) + most_nodes (sort b)) + core_weight a + core_weight b
  core_weight (c.Minus ks a b) = 4 * (most_nodes (sort a) + most_nodes (sort b)) + core_weight a + core_weight b
  core_weight (c.Meet ks a b) = 4 * (most_nodes (sort a) + most_nodes (sort b)) + core_weight a + core_weight b
  core_weight (c.ChooseNodes ks t a b) = 8 + 4 * most_nodes (Nodes ks) + core_weight t + core_weight a + core_weight b
  core_weight (c.Const w z) = 2
  core_weight (c.Count w a) = count_weight (most_nodes (sort a)) + core_weight a
  core_weight (c.Total w a) = count_weight (most_nodes (sort a)) + core_weight a
  core_weight (c.Neg w a) = 16 * (w + 1) + core_weight a
  core_weight (c.Add w a b) = 16 * (w + 1) + core_weight a + core_weight b
  core_weight (c.Mul w a b) = 16 * (w + 1) * (w + 1) + core_weight a + core_weight b
  core_weight (c.ChooseNumber w t a b) = 8 + 4 * w + core_weight t + core_weight a + core_weight b
  core_weight (c.Not a) = 1 + core_weight a
  core_weight (c.And a b) = 2 + core_weight a + core_weight b
  core_weight (c.Or a b) = 2 + core_weight a + core_weight b
  core_weight (c.Xor a b) = 2 + core_weight a + core_weight b
  core_weight (c.ChooseTruth t a b) = 8 + core_weight t + core_weight a + core_weight b
  core_weight (c.SameNodes a b) = 16 * (most_nodes (sort a) + most_nodes (sort b) + 1) + core_weight a + core_weight b
  core_weight (c.WithinNodes a b) = 16 * (most_nodes (sort a) + most_nodes (sort b) + 1) + core_weight a + core_weight b
  core_weight (c.SameValues a b) = values_weight (sort a) (sort b) + core_weight a + core_weight b
  core_weight (c.WithinValues a b) = values_weight (sort a) (sort b) + core_weight a + core_weight b
  core_weight (c.Less a b) = 8 * (max (bits_of (sort a)) (bits_of (sort b)) + 1) + core_weight a + core_weight b
  core_weight (c.AtLeast k a) = 16 * (most_nodes (sort a) + 1) + core_weight a
  core_weight (c.AtMost k a) = 16 * (most_nodes (sort a) + 1) + core_weight a
  core_weight (c.Exactly k a) = 16 * (most_nodes (sort a) + 1) + core_weight a
  core_weight (c.Quant word disj names over body) = quantified_weight word (most_nodes (sort over) ^ names) names (core_weight body) (core_weight over)
