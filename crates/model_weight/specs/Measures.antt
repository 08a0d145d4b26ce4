-- What is known of a part of an expression by its kind: how many nodes it can have, and its interval.
use Rattle.std.specs.Prelude.{ℕ, Bool, true, false, List, Option, Some, pos}
use Rattle.std.specs.Option.{option_map_or}
use Rattle.clf_tree.specs.declared.model.Clafer.{Clafer}
use Rattle.clf_tree.specs.declared.scopes.Scopes.{Scopes}
use Rattle.clf_tree.specs.declared.bounds.Bounds.{Bounds}
use Rattle.clf_tree.specs.declared.kind.Within.{Within}
use Rattle.clf_tree.specs.declared.kind.Kind.{Kind}
use Rattle.clf_tree.specs.declared.kind.Kind.TheVariants as kinds
use Rattle.clf_tree.specs.Tree as e
use Rattle.clf_tree.specs.Tree.{Tree}
use Rattle.clf_tree.specs.Hierarchy.{targets_of}
use Rattle.clf_tree.specs.Kinds.{kind, clafers_of}
use Rattle.clf_tree.specs.Intervals.{interval, between, room, members, sum_between}
use Rattle.model_weight.specs.declared.choices.Position.{Position}
use Rattle.model_weight.specs.declared.choices.Position.TheVariants as position

unfoldable pub nodes_in : List Clafer → Scopes → Option Kind → ℕ
nodes_in clafers scopes k = room clafers scopes (members clafers scopes k)

unfoldable pub targets_in : List Clafer → Scopes → Option Kind → ℕ
targets_in clafers scopes k = option_map_or (room clafers scopes) (targets_of clafers (clafers_of k)) 0

-- the interval of the sum of its nodes' integers
unfoldable pub kind_interval : List Clafer → Scopes → Option Kind → Bounds
kind_interval clafers scopes k = sum_between clafers scopes (nodes_in clafers scopes k)

abbrev pub is_set_kind : Option Kind → Bool
is_set_kind (Some (kinds.Nodes ks)) = true
is_set_kind _ = false

-- what a choice is, by its kind
abbrev pub position_of : Option Kind → Position
position_of (Some kinds.Truth) = position.Truth
position_of (Some kinds.Integer) = position.Number
position_of _ = position.Nodes

-- the interval of an expression, by its kind where it is no integer form and no choice
abbrev pub interval_by : List Clafer → Scopes → Tree → Within → Option Kind → Bounds
interval_by clafers scopes (e.Literal at n) w k = interval clafers scopes (e.Literal at n) w
interval_by clafers scopes (e.Card at a) w k = between (pos 0) (pos (nodes_in clafers scopes (kind clafers a w)))
interval_by clafers scopes (e.Sum _ a) w k = kind_interval clafers scopes (kind clafers a w)
interval_by clafers scopes (e.Neg at a) w k = interval clafers scopes (e.Neg at a) w
interval_by clafers scopes (e.Add at a b) w k = interval clafers scopes (e.Add at a b) w
interval_by clafers scopes (e.Sub at a b) w k = interval clafers scopes (e.Sub at a b) w
interval_by clafers scopes (e.Mul at a b) w k = interval clafers scopes (e.Mul at a b) w
interval_by clafers scopes (e.If at t a b) w k = interval clafers scopes (e.If at t a b) w
interval_by clafers scopes _ w k = kind_interval clafers scopes k

-- forms with two operands, and their operands
abbrev pub has_two : Tree → Bool
has_two (e.Union _ _ _) = true
has_two (e.Minus _ _ _) = true
has_two (e.Meet _ _ _) = true
has_two (e.And _ _ _) = true
has_two (e.Or _ _ _) = true
has_two (e.Xor _ _ _) = true
has_two (e.Implies _ _ _) = true
has_two (e.Iff _ _ _) = true
has_two (e.Add _ _ _) = true
has_two (e.Sub _ _ _) = true
has_two (e.Mul _ _ _) = true
has_two (e.Less _ _ _) = true
has_two (e.LessEqual _ _ _) = true
has_two (e.Greater _ _ _) = true
has_two (e.GreaterEqual _ _ _) = true
has_two (e.Equal _ _ _) = true
has_two (e.In _ _ _) = true
has_two _ = false

abbrev pub left_of : Tree → Tree
left_of (e.Union _ a b) = a
left_of (e.Minus _ a b) = a
left_of (e.Meet _ a b) = a
left_of (e.And _ a b) = a
left_of (e.Or _ a b) = a
left_of (e.Xor _ a b) = a
left_of (e.Implies _ a b) = a
left_of (e.Iff _ a b) = a
left_of (e.Add _ a b) = a
left_of (e.Sub _ a b) = a
left_of (e.Mul _ a b) = a
left_of (e.Less _ a b) = a
left_of (e.LessEqual _ a b) = a
left_of (e.Greater _ a b) = a
left_of (e.GreaterEqual _ a b) = a
left_of (e.Equal _ a b) = a
left_of (e.In _ a b) = a
left_of t = t

abbrev pub right_of : Tree → Tree
right_of (e.Union _ a b) = b
right_of (e.Minus _ a b) = b
right_of (e.Meet _ a b) = b
right_of (e.And _ a b) = b
right_of (e.Or _ a b) = b
right_of (e.Xor _ a b) = b
right_of (e.Implies _ a b) = b
right_of (e.Iff _ a b) = b
right_of (e.Add _ a b) = b
right_of (e.Sub _ a b) = b
right_of (e.Mul _ a b) = b
right_of (e.Less _ a b) = b
right_of (e.LessEqual _ a b) = b
right_of (e.Greater _ a b) = b
right_of (e.GreaterEqual _ a b) = b
right_of (e.Equal _ a b) = b
right_of (e.In _ a b) = b
right_of t = t

abbrev pub is_choice : Tree → Bool
is_choice (e.If _ _ _ _) = true
is_choice _ = false

abbrev pub is_quantified : Tree → Bool
is_quantified (e.Quant _ _ _ _ _ _) = true
is_quantified _ = false
