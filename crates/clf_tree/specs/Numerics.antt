-- The integer expressions of an expression, with their places and intervals.
use Rattle.std.specs.Prelude.{Bool, true, false, List, [], ◌∷◌, ◌++◌, length, nat_le, Option, Some}
use Rattle.std.specs.List.{list_all}
use Rattle.clf_base.specs.declared.fault.Span.{Span}
use Rattle.clf_tree.specs.declared.model.Clafer.{Clafer}
use Rattle.clf_tree.specs.declared.scopes.Scopes.{Scopes}
use Rattle.clf_tree.specs.declared.bounds.Bounds.{Bounds}
use Rattle.clf_tree.specs.declared.kind.Within.{Within}
use Rattle.clf_tree.specs.declared.kind.Kind.{Kind}
use Rattle.clf_tree.specs.declared.kind.Kind.TheVariants as kinds
use Rattle.clf_tree.specs.declared.kind.Reading.{Reading}
use Rattle.clf_tree.specs.declared.kind.Reading.TheVariants.{ByValues}
use Rattle.clf_tree.specs.Tree as e
use Rattle.clf_tree.specs.Tree.{Tree}
use Rattle.clf_tree.specs.Kinds.{kind, clafers_of, bind_kinds, reading_of}
use Rattle.clf_tree.specs.Intervals.{interval}
use Rattle.clf_tree.specs.Widths.{width}

pub record Numeric : Type 0 where
  pub at : Span
  pub bounds : Bounds

abbrev pub place : Tree → Span
place (e.Literal at n) = at
place (e.This at) = at
place (e.Variable at i) = at
place (e.Clafer at c) = at
place (e.Name at n) = at
place (e.Join at a n) = at
place (e.Step at of into follow) = at
place (e.Parent at a) = at
place (e.Dref at a) = at
place (e.Union at a b) = at
place (e.Minus at a b) = at
place (e.Meet at a b) = at
place (e.If at c a b) = at
place (e.Not at a) = at
place (e.And at a b) = at
place (e.Or at a b) = at
place (e.Xor at a b) = at
place (e.Implies at a b) = at
place (e.Iff at a b) = at
place (e.Card at a) = at
place (e.Sum at a) = at
place (e.Neg at a) = at
place (e.Add at a b) = at
place (e.Sub at a b) = at
place (e.Mul at a b) = at
place (e.Less at a b) = at
place (e.LessEqual at a b) = at
place (e.Greater at a b) = at
place (e.GreaterEqual at a b) = at
place (e.Equal at a b) = at
place (e.In at a b) = at
place (e.Some at a) = at
place (e.No at a) = at
place (e.One at a) = at
place (e.Lone at a) = at
place (e.Quant at word disj names over body) = at

-- whether the branches of a choice, and the sides of `=` and `in`, stand in integer position
abbrev pub is_integer : Option Kind → Bool
is_integer (Some kinds.Integer) = true
is_integer _ = false

abbrev pub by_values : Option Reading → Bool
by_values (Some ByValues) = true
by_values _ = false

-- an expression with its parts, where it stands in integer position
abbrev pub and_itself : Bool → Numeric → List Numeric → List Numeric
and_itself true n ns = n ∷ ns
and_itself false n ns = ns

-- no more than 62 bits
abbrev pub is_narrow : Numeric → Bool
is_narrow n = nat_le (width n.bounds) 62

module _ (clafers : List Clafer) (scopes : Scopes) where
  abbrev pub numeric : Tree → Within → Numeric
  numeric t w = record { at = place t; bounds = interval clafers scopes t w }

  -- the parts that stand in integer position
  abbrev pub inside : Tree → Within → List Numeric
  inside (e.Step _ a into follow) w = inside a w
  inside (e.Parent _ a) w = inside a w
  inside (e.Dref _ a) w = inside a w
  inside (e.Union _ a b) w = inside a w ++ inside b w
  inside (e.Minus _ a b) w = inside a w ++ inside b w
  inside (e.Meet _ a b) w = inside a w ++ inside b w
  inside (e.If at c a b) w =
      inside c w ++ and_itself (is_integer (kind clafers (e.If at c a b) w)) (numeric a w) (inside a w)
      ++ and_itself (is_integer (kind clafers (e.If at c a b) w)) (numeric b w) (inside b w)
  inside (e.Not _ a) w = inside a w
  inside (e.And _ a b) w = inside a w ++ inside b w
  inside (e.Or _ a b) w = inside a w ++ inside b w
  inside (e.Xor _ a b) w = inside a w ++ inside b w
  inside (e.Implies _ a b) w = inside a w ++ inside b w
  inside (e.Iff _ a b) w = inside a w ++ inside b w
  inside (e.Card _ a) w = inside a w
  inside (e.Sum _ a) w = inside a w
  inside (e.Neg _ a) w = numeric a w ∷ inside a w
  inside (e.Add _ a b) w = (numeric a w ∷ inside a w) ++ (numeric b w ∷ inside b w)
  inside (e.Sub _ a b) w = (numeric a w ∷ inside a w) ++ (numeric b w ∷ inside b w)
  inside (e.Mul _ a b) w = (numeric a w ∷ inside a w) ++ (numeric b w ∷ inside b w)
  inside (e.Less _ a b) w = (numeric a w ∷ inside a w) ++ (numeric b w ∷ inside b w)
  inside (e.LessEqual _ a b) w = (numeric a w ∷ inside a w) ++ (numeric b w ∷ inside b w)
  inside (e.Greater _ a b) w = (numeric a w ∷ inside a w) ++ (numeric b w ∷ inside b w)
  inside (e.GreaterEqual _ a b) w = (numeric a w ∷ inside a w) ++ (numeric b w ∷ inside b w)
  inside (e.Equal _ a b) w =
      and_itself (by_values (reading_of clafers (kind clafers a w) (kind clafers b w))) (numeric a w) (inside a w)
      ++ and_itself (by_values (reading_of clafers (kind clafers a w) (kind clafers b w))) (numeric b w) (inside b w)
  inside (e.In _ a b) w =
      and_itself (by_values (reading_of clafers (kind clafers a w) (kind clafers b w))) (numeric a w) (inside a w)
      ++ and_itself (by_values (reading_of clafers (kind clafers a w) (kind clafers b w))) (numeric b w) (inside b w)
  inside (e.Some _ a) w = inside a w
  inside (e.No _ a) w = inside a w
  inside (e.One _ a) w = inside a w
  inside (e.Lone _ a) w = inside a w
  inside (e.Quant _ word disj names over body) w = inside over w ++ inside body (bind_kinds (clafers_of (kind clafers over w)) (length names) w)
  inside t w = []

  -- an expression in integer position whose integers all fit
  abbrev pub all_narrow : Tree → Within → Bool
  all_narrow t w = list_all is_narrow (numeric t w ∷ inside t w)
