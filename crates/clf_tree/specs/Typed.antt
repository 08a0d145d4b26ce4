-- Whether each expression has a kind and each operand fits its position.
use Rattle.std.specs.Prelude.{◌&&◌, Bool, true, false, List, [], length, Option, Some, None, is_some, IsTrue}
use Rattle.std.specs.List.{list_all}
use Rattle.clf_tree.specs.declared.model.Clafer.{Clafer}
use Rattle.clf_tree.specs.declared.model.Rule.{Rule}
use Rattle.clf_tree.specs.declared.model.Goal.{Goal}
use Rattle.clf_tree.specs.declared.model.Model.{Model}
use Rattle.clf_tree.specs.declared.kind.Within.{Within}
use Rattle.clf_tree.specs.declared.kind.Kind.{Kind}
use Rattle.clf_tree.specs.declared.kind.Kind.TheVariants as kinds
use Rattle.clf_tree.specs.declared.kind.Reading.{Reading}
use Rattle.clf_tree.specs.declared.kind.Reading.TheVariants.{ByValues, ByNodes}
use Rattle.clf_tree.specs.Tree as e
use Rattle.clf_tree.specs.Tree.{Tree, tree}
use Rattle.clf_tree.specs.Hierarchy.{share, refer_to_int}
use Rattle.clf_tree.specs.Kinds.{kind, clafers_of, bind_kinds, reading_of}

-- in truth position: a truth value, or nodes as "not empty"
abbrev pub fits_truth : Option Kind → Bool
fits_truth (Some kinds.Truth) = true
fits_truth (Some (kinds.Nodes ks)) = true
fits_truth _ = false

-- in node position
abbrev pub fits_nodes : Option Kind → Bool
fits_nodes (Some (kinds.Nodes ks)) = true
fits_nodes _ = false

module _ (clafers : List Clafer) where
  -- in integer position: an integer, or nodes that refer to integers
  abbrev pub fits_number : Option Kind → Bool
  fits_number (Some kinds.Integer) = true
  fits_number (Some (kinds.Numbers ks)) = true
  fits_number (Some (kinds.Nodes ks)) = refer_to_int clafers ks
  fits_number _ = false

  -- the operand of a sum
  abbrev pub fits_sum : Option Kind → Bool
  fits_sum (Some (kinds.Nodes ks)) = refer_to_int clafers ks
  fits_sum _ = false

  -- two sets of nodes of which some clafer can be in both
  abbrev pub fit_together : Option Kind → Option Kind → Bool
  fit_together (Some (kinds.Nodes ks)) (Some (kinds.Nodes ls)) = share clafers ks ls
  fit_together _ _ = false

  -- the branches of a choice of a kind
  abbrev pub fit_choice : Option Kind → Option Kind → Option Kind → Bool
  fit_choice (Some kinds.Truth) a b = fits_truth a && fits_truth b
  fit_choice (Some kinds.Integer) a b = fits_number a && fits_number b
  fit_choice (Some (kinds.Nodes ks)) a b = true
  fit_choice _ a b = false

  -- the sides of `=` and `in`
  abbrev pub fit_reading : Option Reading → Option Kind → Option Kind → Bool
  fit_reading (Some ByValues) a b = fits_number a && fits_number b
  fit_reading (Some (ByNodes left right)) a b = true
  fit_reading None a b = false

  abbrev pub fit_sides : Option Kind → Option Kind → Bool
  fit_sides a b = fit_reading (reading_of clafers a b) a b

  abbrev pub is_typed : Tree → Within → Bool
  is_typed (e.Literal _ n) w = true
  is_typed (e.This at) w = is_some (kind clafers (e.This at) w)
  is_typed (e.Variable at i) w = is_some (kind clafers (e.Variable at i) w)
  is_typed (e.Clafer _ c) w = true
  is_typed (e.Name _ _) w = false
  is_typed (e.Join _ _ _) w = false
  is_typed (e.Step _ of into follow) w = is_typed of w && fits_nodes (kind clafers of w)
  is_typed (e.Parent at a) w = is_typed a w && fits_nodes (kind clafers a w) && is_some (kind clafers (e.Parent at a) w)
  is_typed (e.Dref at a) w = is_typed a w && fits_nodes (kind clafers a w) && is_some (kind clafers (e.Dref at a) w)
  is_typed (e.Union _ a b) w = is_typed a w && is_typed b w && fits_nodes (kind clafers a w) && fits_nodes (kind clafers b w)
  is_typed (e.Minus _ a b) w = is_typed a w && is_typed b w && fit_together (kind clafers a w) (kind clafers b w)
  is_typed (e.Meet _ a b) w = is_typed a w && is_typed b w && fit_together (kind clafers a w) (kind clafers b w)
  is_typed (e.If at c a b) w =
      is_typed c w && fits_truth (kind clafers c w) && is_typed a w && is_typed b w && fit_choice (kind clafers (e.If at c a b) w) (kind clafers a w) (kind clafers b w)
  is_typed (e.Not _ a) w = is_typed a w && fits_truth (kind clafers a w)
  is_typed (e.And _ a b) w = is_typed a w && is_typed b w && fits_truth (kind clafers a w) && fits_truth (kind clafers b w)
  is_typed (e.Or _ a b) w = is_typed a w && is_typed b w && fits_truth (kind clafers a w) && fits_truth (kind clafers b w)
  is_typed (e.Xor _ a b) w = is_typed a w && is_typed b w && fits_truth (kind clafers a w) && fits_truth (kind clafers b w)
  is_typed (e.Implies _ a b) w = is_typed a w && is_typed b w && fits_truth (kind clafers a w) && fits_truth (kind clafers b w)
  is_typed (e.Iff _ a b) w = is_typed a w && is_typed b w && fits_truth (kind clafers a w) && fits_truth (kind clafers b w)
  is_typed (e.Card _ a) w = is_typed a w && fits_nodes (kind clafers a w)
  is_typed (e.Sum _ a) w = is_typed a w && fits_sum (kind clafers a w)
  is_typed (e.Neg _ a) w = is_typed a w && fits_number (kind clafers a w)
  is_typed (e.Add _ a b) w = (is_typed a w && fits_number (kind clafers a w)) && (is_typed b w && fits_number (kind clafers b w))
  is_typed (e.Sub _ a b) w = (is_typed a w && fits_number (kind clafers a w)) && (is_typed b w && fits_number (kind clafers b w))
  is_typed (e.Mul _ a b) w = (is_typed a w && fits_number (kind clafers a w)) && (is_typed b w && fits_number (kind clafers b w))
  is_typed (e.Less _ a b) w = (is_typed a w && fits_number (kind clafers a w)) && (is_typed b w && fits_number (kind clafers b w))
  is_typed (e.LessEqual _ a b) w = (is_typed a w && fits_number (kind clafers a w)) && (is_typed b w && fits_number (kind clafers b w))
  is_typed (e.Greater _ a b) w = (is_typed a w && fits_number (kind clafers a w)) && (is_typed b w && fits_number (kind clafers b w))
  is_typed (e.GreaterEqual _ a b) w = (is_typed a w && fits_number (kind clafers a w)) && (is_typed b w && fits_number (kind clafers b w))
  is_typed (e.Equal _ a b) w = is_typed a w && is_typed b w && fit_sides (kind clafers a w) (kind clafers b w)
  is_typed (e.In _ a b) w = is_typed a w && is_typed b w && fit_sides (kind clafers a w) (kind clafers b w)
  is_typed (e.Some _ a) w = is_typed a w && fits_nodes (kind clafers a w)
  is_typed (e.No _ a) w = is_typed a w && fits_nodes (kind clafers a w)
  is_typed (e.One _ a) w = is_typed a w && fits_nodes (kind clafers a w)
  is_typed (e.Lone _ a) w = is_typed a w && fits_nodes (kind clafers a w)
  is_typed (e.Quant _ word disj names over body) w =
      let inner = bind_kinds (clafers_of (kind clafers over w)) (length names) w in
      is_typed over w && fits_nodes (kind clafers over w) && is_typed body inner && fits_truth (kind clafers body inner)

  -- a rule is in truth position, a goal in integer position
  abbrev pub rule_is_typed : Rule → Bool
  rule_is_typed r =
      let w : Within = record { this = r.context; bound = [] } in
      is_typed (tree r.body) w && fits_truth (kind clafers (tree r.body) w)

  abbrev pub goal_is_typed : Goal → Bool
  goal_is_typed g =
      let w : Within = record { this = None; bound = [] } in
      is_typed (tree g.body) w && fits_number (kind clafers (tree g.body) w)

-- what `Typed` keeps of a model, beside what `Named` keeps
pub record IsTyped (model : Model) : Type 0 where
  pub rules : IsTrue (list_all (rule_is_typed model.clafers) model.rules)
  pub goals : IsTrue (list_all (goal_is_typed model.clafers) model.goals)
