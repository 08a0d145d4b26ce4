-- What an expression means in an instance.
use Rattle.std.specs.Prelude.{ℕ, ◌==◌, ◌&&◌, ◌||◌, Bool, true, false, not, List, [], ◌∷◌, ◌++◌, length, map, nat_lt, nat_le, count_by, Option, Some, None, ℤ, pos, ◌+ℤ◌, ◌-ℤ◌, ◌*ℤ◌, neg_ℤ, int_lt, int_le, if◌then◌else◌}
use Rattle.std.specs.Ordering.{int_eq}
use Rattle.std.specs.Option.{option_map_or, option_and_then}
use Rattle.std.specs.List.{filter, list_any, list_all}
use Rattle.clf_tree.specs.declared.token.Word.{Word}
use Rattle.clf_tree.specs.declared.token.Word.TheVariants as word
use Rattle.clf_tree.specs.declared.model.Clafer.{Clafer}
use Rattle.clf_tree.specs.declared.instance.Node.{Node}
use Rattle.clf_tree.specs.declared.instance.Target.{Target}
use Rattle.clf_tree.specs.declared.instance.Target.TheVariants as target
use Rattle.clf_tree.specs.declared.instance.Entry.{Entry}
use Rattle.clf_tree.specs.declared.kind.Within.{Within}
use Rattle.clf_tree.specs.declared.kind.Kind.{Kind}
use Rattle.clf_tree.specs.declared.kind.Kind.TheVariants as kinds
use Rattle.clf_tree.specs.declared.kind.Reading.{Reading}
use Rattle.clf_tree.specs.declared.kind.Reading.TheVariants.{ByValues, ByNodes}
use Rattle.clf_tree.specs.Tree as e
use Rattle.clf_tree.specs.Tree.{Tree}
use Rattle.clf_tree.specs.Lists.{tuples, each_two, from_end}
use Rattle.clf_tree.specs.Hierarchy.{is_a, is_one_of}
use Rattle.clf_tree.specs.Nodes.{same_node, has_node, has_some, nodes_of, target_node, entry_of}
use Rattle.clf_tree.specs.Kinds.{kind, clafers_of, bind_kinds, reading_of}

-- a truth value, an integer, or nodes in the order of the model
pub data Value : Type 0 where
  Truth : Bool → Value
  Integer : ℤ → Value
  Nodes : List Node → Value

-- where an expression is read: the node of `this`, the nodes of the variables, the innermost last, and the clafers of both
pub record Situation : Type 0 where
  pub within : Within
  pub this : Option Node
  pub bound : List Node

-- nodes as a truth value
abbrev pub is_true : Value → Bool
is_true (Truth b) = b
is_true (Integer z) = false
is_true (Nodes []) = false
is_true (Nodes (n ∷ ns)) = true

abbrev pub nodes : Value → List Node
nodes (Nodes ns) = ns
nodes _ = []

-- each of the first is among the second
abbrev pub all_in : {X : Type 0} → (X → X → Bool) → List X → List X → Bool
all_in same xs ys = list_all (λ x. list_any (same x) ys) xs

abbrev pub same_set : {X : Type 0} → (X → X → Bool) → List X → List X → Bool
same_set same xs ys = all_in same xs ys && all_in same ys xs

abbrev pub total : List ℤ → ℤ
total [] = pos 0
total (z ∷ zs) = z +ℤ total zs

abbrev pub int_in : Target → ℤ
int_in (target.Int z) = z
int_in (target.Node n) = pos 0

-- the tuples of a quantifier that are tried, and whether as many as the word asks for pass
abbrev pub tried : Bool → ℕ → List Node → List (List Node)
tried disj n ns = if disj then filter (each_two (λ a b. not (same_node a b))) (tuples n ns) else tuples n ns

abbrev pub quantified : Word → (List Node → Bool) → List (List Node) → Bool
quantified word.All test ts = list_all test ts
quantified word.Some test ts = list_any test ts
quantified word.No test ts = not (list_any test ts)
quantified word.One test ts = count_by test ts == 1
quantified word.Lone test ts = nat_le (count_by test ts) 1
quantified _ test ts = false

abbrev pub bind : List ℕ → List Node → Situation → Situation
bind ks ns s = record { within = bind_kinds ks (length ns) s.within; this = s.this; bound = s.bound ++ ns }

module _ (clafers : List Clafer) (entries : List Entry) where
  -- the nodes whose entries pass a test
  abbrev pub nodes_where : (Entry → Bool) → List Node
  nodes_where test = nodes_of (filter test entries)

  -- the integer that a node refers to
  abbrev pub int_of : Node → ℤ
  int_of n = option_map_or int_in (option_and_then (λ x. x.target) (entry_of entries n)) (pos 0)

  -- the integers of a value, and the one integer that it stands for
  abbrev pub integers : Value → List ℤ
  integers (Truth b) = []
  integers (Integer z) = z ∷ []
  integers (Nodes ns) = map int_of ns

  abbrev pub number : Value → ℤ
  number v = total (integers v)

  -- the parents, and the targets, of nodes
  abbrev pub parents : List Node → List Node
  parents ns = nodes_where (λ p. list_any (λ x. has_node ns x.node && option_map_or (same_node p.node) x.parent false) entries)

  abbrev pub targets : List Node → List Node
  targets ns = nodes_where (λ t. list_any (λ x. has_node ns x.node && option_map_or (same_node t.node) (target_node x) false) entries)

  -- the nodes of the listed clafers below one of ns
  abbrev pub children : List ℕ → List Node → List Node
  children into ns = nodes_where (λ x. is_one_of clafers into x.node.clafer && has_some ns x.parent)

  -- `dref`: where it gives integers, the nodes that have them
  abbrev pub dref : Option Kind → List Node → List Node
  dref (Some (kinds.Numbers ks)) ns = ns
  dref _ ns = targets ns

  -- a value in the position that a kind has
  abbrev pub taken_as : Option Kind → Value → Value
  taken_as (Some kinds.Truth) v = Truth (is_true v)
  taken_as (Some kinds.Integer) v = Integer (number v)
  taken_as _ v = v

  abbrev pub through : Bool → List Node → List Node
  through dref ns = if dref then targets ns else ns

  -- whether two sets of values, or of nodes, are the same, and whether the first is a part of the second, by the reading
  abbrev pub equal : Option Reading → Value → Value → Bool
  equal None a b = false
  equal (Some ByValues) a b = same_set int_eq (integers a) (integers b)
  equal (Some (ByNodes left right)) a b = same_set same_node (through left (nodes a)) (through right (nodes b))

  abbrev pub part : Option Reading → Value → Value → Bool
  part None a b = false
  part (Some ByValues) a b = all_in int_eq (integers a) (integers b)
  part (Some (ByNodes left right)) a b = all_in same_node (through left (nodes a)) (through right (nodes b))

  abbrev pub value : Tree → Situation → Value
  value (e.Literal _ n) s = Integer (pos n)
  value (e.This _) s = Nodes (option_map_or (λ n. n ∷ []) s.this [])
  value (e.Variable _ i) s = Nodes (option_map_or (λ n. n ∷ []) (from_end s.bound i) [])
  value (e.Clafer _ c) s = Nodes (nodes_where (λ x. is_a clafers x.node.clafer c))
  value (e.Name _ _) s = Nodes []
  value (e.Join _ _ _) s = Nodes []
  value (e.Step _ of into follow) s = Nodes (children into (through follow (nodes (value of s))))
  value (e.Parent _ a) s = Nodes (parents (nodes (value a s)))
  value (e.Dref at a) s = Nodes (dref (kind clafers (e.Dref at a) s.within) (nodes (value a s)))
  value (e.Union _ a b) s = Nodes (nodes_where (λ x. has_node (nodes (value a s)) x.node || has_node (nodes (value b s)) x.node))
  value (e.Minus _ a b) s = Nodes (filter (λ n. not (has_node (nodes (value b s)) n)) (nodes (value a s)))
  value (e.Meet _ a b) s = Nodes (filter (has_node (nodes (value b s))) (nodes (value a s)))
  value (e.If at c a b) s = taken_as (kind clafers (e.If at c a b) s.within) (if is_true (value c s) then value a s else value b s)
  value (e.Not _ a) s = Truth (not (is_true (value a s)))
  value (e.And _ a b) s = Truth (is_true (value a s) && is_true (value b s))
  value (e.Or _ a b) s = Truth (is_true (value a s) || is_true (value b s))
  value (e.Xor _ a b) s = Truth (if is_true (value a s) then not (is_true (value b s)) else is_true (value b s))
  value (e.Implies _ a b) s = Truth (not (is_true (value a s)) || is_true (value b s))
  value (e.Iff _ a b) s = Truth (if is_true (value a s) then is_true (value b s) else not (is_true (value b s)))
  value (e.Card _ a) s = Integer (pos (length (nodes (value a s))))
  value (e.Sum _ a) s = Integer (number (value a s))
  value (e.Neg _ a) s = Integer (neg_ℤ (number (value a s)))
  value (e.Add _ a b) s = Integer (number (value a s) +ℤ number (value b s))
  value (e.Sub _ a b) s = Integer (number (value a s) -ℤ number (value b s))
  value (e.Mul _ a b) s = Integer (number (value a s) *ℤ number (value b s))
  value (e.Less _ a b) s = Truth (int_lt (number (value a s)) (number (value b s)))
  value (e.LessEqual _ a b) s = Truth (int_le (number (value a s)) (number (value b s)))
  value (e.Greater _ a b) s = Truth (int_lt (number (value b s)) (number (value a s)))
  value (e.GreaterEqual _ a b) s = Truth (int_le (number (value b s)) (number (value a s)))
  value (e.Equal _ a b) s = Truth (equal (reading_of clafers (kind clafers a s.within) (kind clafers b s.within)) (value a s) (value b s))
  value (e.In _ a b) s = Truth (part (reading_of clafers (kind clafers a s.within) (kind clafers b s.within)) (value a s) (value b s))
  value (e.Some _ a) s = Truth (nat_lt 0 (length (nodes (value a s))))
  value (e.No _ a) s = Truth (length (nodes (value a s)) == 0)
  value (e.One _ a) s = Truth (length (nodes (value a s)) == 1)
  value (e.Lone _ a) s = Truth (nat_le (length (nodes (value a s))) 1)
  value (e.Quant _ word disj names over body) s =
      Truth (quantified word (λ ns. is_true (value body (bind (clafers_of (kind clafers over s.within)) ns s))) (tried disj (length names) (nodes (value over s))))
