-- Expressions without integers, and relational expressions without numbers.
use Rattle.std.specs.Prelude.{ℕ, ◌&&◌, Bool, true, false, List, [], ◌∷◌, length, Option, Some, is_some}
use Rattle.std.specs.Option.{option_map_or}
use Rattle.std.specs.List.{list_all}
use Rattle.clf_tree.specs.declared.model.Clafer.{Clafer}
use Rattle.clf_tree.specs.declared.model.Model.{Model}
use Rattle.clf_tree.specs.declared.kind.Within.{Within}
use Rattle.clf_tree.specs.declared.kind.Kind.{Kind}
use Rattle.clf_tree.specs.declared.kind.Kind.TheVariants as kinds
use Rattle.clf_tree.specs.Tree as e
use Rattle.clf_tree.specs.Tree.{Tree}
use Rattle.clf_tree.specs.Kinds.{kind, clafers_of, bind_kinds}
use Rattle.clf_tree.specs.Satisfies.{Law, laws_of}
use Rattle.clf_tree.specs.Core as c
use Rattle.clf_tree.specs.Core.{Core}
use Rattle.int_widths.specs.Narrow.{within_context}

-- no form of a number, and no comparison of values
abbrev pub has_no_number : Core → Bool
has_no_number (c.Bound ks i) = true
has_no_number (c.Every ks) = true
has_no_number (c.Down ks a) = has_no_number a
has_no_number (c.Up ks a) = has_no_number a
has_no_number (c.Follow ks a) = has_no_number a
has_no_number (c.Union ks a b) = has_no_number a && has_no_number b
has_no_number (c.Minus ks a b) = has_no_number a && has_no_number b
has_no_number (c.Meet ks a b) = has_no_number a && has_no_number b
has_no_number (c.ChooseNodes ks t a b) = has_no_number t && (has_no_number a && has_no_number b)
has_no_number (c.Not a) = has_no_number a
has_no_number (c.And a b) = has_no_number a && has_no_number b
has_no_number (c.Or a b) = has_no_number a && has_no_number b
has_no_number (c.Xor a b) = has_no_number a && has_no_number b
has_no_number (c.ChooseTruth t a b) = has_no_number t && (has_no_number a && has_no_number b)
has_no_number (c.SameNodes a b) = has_no_number a && has_no_number b
has_no_number (c.WithinNodes a b) = has_no_number a && has_no_number b
has_no_number (c.AtLeast k a) = has_no_number a
has_no_number (c.AtMost k a) = has_no_number a
has_no_number (c.Exactly k a) = has_no_number a
has_no_number (c.Quant word disj names over body) = has_no_number over && has_no_number body
has_no_number _ = false

-- no clafer refers to integers
abbrev pub refers_to_no_int : List Clafer → Bool
refers_to_no_int clafers = list_all (λ k. option_map_or (λ r. is_some r.to) k.reference true) clafers

abbrev pub is_no_number : Option Kind → Bool
is_no_number (Some kinds.Integer) = false
is_no_number (Some (kinds.Numbers ks)) = false
is_no_number _ = true

abbrev pub some_clafer : List ℕ → Bool
some_clafer [] = false
some_clafer (k ∷ ks) = true

module _ (clafers : List Clafer) where
  -- no part is an integer, and each step goes into some clafer
  abbrev pub no_integers : Tree → Within → Bool
  no_integers (e.Literal _ n) w = false
  no_integers (e.This _) w = true
  no_integers (e.Variable _ i) w = true
  no_integers (e.Clafer _ k) w = true
  no_integers (e.Name _ _) w = true
  no_integers (e.Join _ _ _) w = true
  no_integers (e.Step _ of into follow) w = some_clafer into && no_integers of w
  no_integers (e.Parent _ a) w = no_integers a w
  no_integers (e.Dref at a) w = is_no_number (kind clafers (e.Dref at a) w) && no_integers a w
  no_integers (e.Union _ a b) w = no_integers a w && no_integers b w
  no_integers (e.Minus _ a b) w = no_integers a w && no_integers b w
  no_integers (e.Meet _ a b) w = no_integers a w && no_integers b w
  no_integers (e.If at t a b) w = is_no_number (kind clafers (e.If at t a b) w) && (no_integers t w && (no_integers a w && no_integers b w))
  no_integers (e.Not _ a) w = no_integers a w
  no_integers (e.And _ a b) w = no_integers a w && no_integers b w
  no_integers (e.Or _ a b) w = no_integers a w && no_integers b w
  no_integers (e.Xor _ a b) w = no_integers a w && no_integers b w
  no_integers (e.Implies _ a b) w = no_integers a w && no_integers b w
  no_integers (e.Iff _ a b) w = no_integers a w && no_integers b w
  no_integers (e.Less _ a b) w = no_integers a w && no_integers b w
  no_integers (e.LessEqual _ a b) w = no_integers a w && no_integers b w
  no_integers (e.Greater _ a b) w = no_integers a w && no_integers b w
  no_integers (e.GreaterEqual _ a b) w = no_integers a w && no_integers b w
  no_integers (e.Equal _ a b) w = no_integers a w && no_integers b w
  no_integers (e.In _ a b) w = no_integers a w && no_integers b w
  no_integers (e.Some _ a) w = no_integers a w
  no_integers (e.No _ a) w = no_integers a w
  no_integers (e.One _ a) w = no_integers a w
  no_integers (e.Lone _ a) w = no_integers a w
  no_integers (e.Quant _ word disj names over body) w = no_integers over w && no_integers body (bind_kinds (clafers_of (kind clafers over w)) (length names) w)
  no_integers _ w = false

  abbrev pub no_integers_in : Law → Bool
  no_integers_in (context, body) = no_integers body (within_context context)

-- a model without integers in its constraints
abbrev pub is_without_integers : Model → Bool
is_without_integers model = refers_to_no_int model.clafers && list_all (no_integers_in model.clafers) (laws_of model)
