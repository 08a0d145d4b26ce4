-- The value of an expression as the code computes it: the meaning, with the results of arithmetic clamped to 127 bits. Where the
-- operands of arithmetic need no more than 62 bits, as in an instance of a model whose weight is known, it is the meaning.
use Rattle.std.specs.Prelude.{ℕ, ◌==◌, ◌&&◌, ◌||◌, Bool, not, List, [], ◌∷◌, ◌++◌, length, nat_lt, nat_le, Option, Some, None, pos, ◌+ℤ◌, ◌-ℤ◌, ◌*ℤ◌, neg_ℤ, int_lt, int_le, if◌then◌else◌}
use Rattle.std.specs.Option.{option_map_or}
use Rattle.std.specs.List.{filter, list_all}
use Rattle.clf_tree.specs.declared.model.Clafer.{Clafer}
use Rattle.clf_tree.specs.declared.instance.Node.{Node}
use Rattle.clf_tree.specs.declared.instance.Entry.{Entry}
use Rattle.clf_tree.specs.Tree as e
use Rattle.clf_tree.specs.Tree.{Tree}
use Rattle.clf_tree.specs.Lists.{from_end}
use Rattle.clf_tree.specs.Hierarchy.{is_a}
use Rattle.clf_tree.specs.Nodes.{has_node}
use Rattle.clf_tree.specs.Kinds.{kind, clafers_of, bind_kinds, reading_of}
use Rattle.clf_tree.specs.Shape.{instances}
use Rattle.clf_tree.specs.Intervals.{clamped}
use Rattle.clf_tree.specs.Meaning.{Value, Truth, Integer, Nodes, Situation, is_true, nodes, nodes_where, through, parents, dref, taken_as, number, equal, part, tried}
use Rattle.model_evaluator.specs.Parts.{stepped, joined, asked}
use Rattle.clf_tree.specs.Satisfies.{Law, outside, at_instance}

module _ (clafers : List Clafer) (entries : List Entry) where
  abbrev pub computed : Tree → Situation → Value
  computed (e.Literal _ n) s = Integer (pos n)
  computed (e.This _) s = Nodes (option_map_or (λ n. n ∷ []) s.this [])
  computed (e.Variable _ i) s = Nodes (option_map_or (λ n. n ∷ []) (from_end s.bound i) [])
  computed (e.Clafer _ c) s = Nodes (nodes_where clafers entries (λ x. is_a clafers x.node.clafer c))
  computed (e.Name _ _) s = Nodes []
  computed (e.Join _ _ _) s = Nodes []
  computed (e.Step _ of into follow) s = Nodes (stepped clafers entries into (through [] entries follow (nodes (computed of s))))
  computed (e.Parent _ a) s = Nodes (parents [] entries (nodes (computed a s)))
  computed (e.Dref at a) s = Nodes (dref [] entries (kind clafers (e.Dref at a) s.within) (nodes (computed a s)))
  computed (e.Union _ a b) s = Nodes (joined entries (nodes (computed a s)) (nodes (computed b s)))
  computed (e.Minus _ a b) s = Nodes (filter (λ n. not (has_node (nodes (computed b s)) n)) (nodes (computed a s)))
  computed (e.Meet _ a b) s = Nodes (filter (has_node (nodes (computed b s))) (nodes (computed a s)))
  computed (e.If at c a b) s = taken_as [] entries (kind clafers (e.If at c a b) s.within) (if is_true (computed c s) then computed a s else computed b s)
  computed (e.Not _ a) s = Truth (not (is_true (computed a s)))
  computed (e.And _ a b) s = Truth (is_true (computed a s) && is_true (computed b s))
  computed (e.Or _ a b) s = Truth (is_true (computed a s) || is_true (computed b s))
  computed (e.Xor _ a b) s = Truth (if is_true (computed a s) then not (is_true (computed b s)) else is_true (computed b s))
  computed (e.Implies _ a b) s = Truth (not (is_true (computed a s)) || is_true (computed b s))
  computed (e.Iff _ a b) s = Truth (if is_true (computed a s) then is_true (computed b s) else not (is_true (computed b s)))
  computed (e.Card _ a) s = Integer (pos (length (nodes (computed a s))))
  computed (e.Sum _ a) s = Integer (number [] entries (computed a s))
  computed (e.Neg _ a) s = Integer (clamped (neg_ℤ (number [] entries (computed a s))))
  computed (e.Add _ a b) s = Integer (clamped (number [] entries (computed a s) +ℤ number [] entries (computed b s)))
  computed (e.Sub _ a b) s = Integer (clamped (number [] entries (computed a s) -ℤ number [] entries (computed b s)))
  computed (e.Mul _ a b) s = Integer (clamped (number [] entries (computed a s) *ℤ number [] entries (computed b s)))
  computed (e.Less _ a b) s = Truth (int_lt (number [] entries (computed a s)) (number [] entries (computed b s)))
  computed (e.LessEqual _ a b) s = Truth (int_le (number [] entries (computed a s)) (number [] entries (computed b s)))
  computed (e.Greater _ a b) s = Truth (int_lt (number [] entries (computed b s)) (number [] entries (computed a s)))
  computed (e.GreaterEqual _ a b) s = Truth (int_le (number [] entries (computed b s)) (number [] entries (computed a s)))
  computed (e.Equal _ a b) s = Truth (equal [] entries (reading_of clafers (kind clafers a s.within) (kind clafers b s.within)) (computed a s) (computed b s))
  computed (e.In _ a b) s = Truth (part [] entries (reading_of clafers (kind clafers a s.within) (kind clafers b s.within)) (computed a s) (computed b s))
  computed (e.Some _ a) s = Truth (nat_lt 0 (length (nodes (computed a s))))
  computed (e.No _ a) s = Truth (length (nodes (computed a s)) == 0)
  computed (e.One _ a) s = Truth (length (nodes (computed a s)) == 1)
  computed (e.Lone _ a) s = Truth (nat_le (length (nodes (computed a s))) 1)
  computed (e.Quant _ word disj names over body) s =
      Truth (asked word (λ inner ns. is_true (computed body (record { within = inner; this = s.this; bound = s.bound ++ ns }))) (bind_kinds (clafers_of (kind clafers over s.within)) (length names) s.within) (tried disj (length names) (nodes (computed over s))))

-- a constraint, once or for each instance of its context, and a goal
abbrev pub computed_holds : List Clafer → List Entry → Law → Bool
computed_holds clafers entries (None, body) = is_true (computed clafers entries body outside)
computed_holds clafers entries (Some c, body) = list_all (λ e. is_true (computed clafers entries body (at_instance c e.node))) (instances clafers entries c)
