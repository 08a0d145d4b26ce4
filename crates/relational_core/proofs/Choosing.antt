-- A choice by its position.
use Rattle.std.proofs.Common.{◌≡◌, List, Option, Some, None, refl}
use Rattle.std.specs.Int.{int_min, int_max}
use Rattle.clf_tree.specs.declared.model.Clafer.{Clafer}
use Rattle.clf_tree.specs.declared.scopes.Scopes.{Scopes}
use Rattle.clf_tree.specs.declared.bounds.Bounds.{Bounds}
use Rattle.clf_tree.specs.declared.kind.Kind.{Kind}
use Rattle.clf_tree.specs.declared.kind.Kind.TheVariants as kinds
use Rattle.clf_tree.specs.Intervals.{between, room, members, sum_between}
use Rattle.clf_tree.specs.Intervals as intervals
use Rattle.clf_tree.specs.Widths.{width}
use Rattle.clf_tree.specs.Core as c
use Rattle.clf_tree.specs.Core.{Core}
use Rattle.relational_core.specs.Lowered.{as_truth, as_number, choice, choose_nodes, kind_interval}
use Rattle.relational_core.specs.Choices.{position_of}
use Rattle.relational_core.specs.declared.choices.Position.TheVariants as position

-- the kind of a choice by its position
pub truth-position : (k : Option Kind) → position_of k ≡ position.Truth → k ≡ Some kinds.Truth
truth-position None h = (cc)
truth-position (Some kinds.Truth) h = refl
truth-position (Some kinds.Integer) h = (cc)
truth-position (Some (kinds.Nodes ks)) h = (cc)
truth-position (Some (kinds.Numbers ks)) h = (cc)

pub number-position : (k : Option Kind) → position_of k ≡ position.Number → k ≡ Some kinds.Integer
number-position None h = (cc)
number-position (Some kinds.Truth) h = (cc)
number-position (Some kinds.Integer) h = refl
number-position (Some (kinds.Nodes ks)) h = (cc)
number-position (Some (kinds.Numbers ks)) h = (cc)

module _ (clafers : List Clafer) (scopes : Scopes) where
  pub truth-bounds : (k : Option Kind) (x y : Bounds) → position_of k ≡ position.Truth → kind_interval clafers scopes (Some kinds.Truth) ≡ intervals.choice clafers scopes k x y
  unfolding kind_interval
  truth-bounds None x y h = (cc)
  truth-bounds (Some kinds.Truth) x y h = refl
  truth-bounds (Some kinds.Integer) x y h = (cc)
  truth-bounds (Some (kinds.Nodes ks)) x y h = (cc)
  truth-bounds (Some (kinds.Numbers ks)) x y h = (cc)

  pub number-bounds : (k : Option Kind) (x y : Bounds) → position_of k ≡ position.Number → between (int_min x.low y.low) (int_max x.high y.high) ≡ intervals.choice clafers scopes k x y
  number-bounds None x y h = (cc)
  number-bounds (Some kinds.Truth) x y h = (cc)
  number-bounds (Some kinds.Integer) x y h = refl
  number-bounds (Some (kinds.Nodes ks)) x y h = (cc)
  number-bounds (Some (kinds.Numbers ks)) x y h = (cc)

  pub nodes-bounds : (k : Option Kind) (x y : Bounds) → position_of k ≡ position.Nodes → kind_interval clafers scopes k ≡ intervals.choice clafers scopes k x y
  unfolding kind_interval
  nodes-bounds None x y h = refl
  nodes-bounds (Some kinds.Truth) x y h = (cc)
  nodes-bounds (Some kinds.Integer) x y h = (cc)
  nodes-bounds (Some (kinds.Nodes ks)) x y h = refl
  nodes-bounds (Some (kinds.Numbers ks)) x y h = refl

  pub truth-choice : (k : Option Kind) (l r : Option Kind) (x y : Bounds) (t a b : Core) → position_of k ≡ position.Truth
      → c.ChooseTruth t (as_truth l a) (as_truth r b) ≡ choice clafers scopes k (intervals.choice clafers scopes k x y) l r x y t a b
  truth-choice None l r x y t a b h = (cc)
  truth-choice (Some kinds.Truth) l r x y t a b h = refl
  truth-choice (Some kinds.Integer) l r x y t a b h = (cc)
  truth-choice (Some (kinds.Nodes ks)) l r x y t a b h = (cc)
  truth-choice (Some (kinds.Numbers ks)) l r x y t a b h = (cc)

  pub number-choice : (k : Option Kind) (l r : Option Kind) (x y : Bounds) (t a b : Core) → position_of k ≡ position.Number
      → c.ChooseNumber (width (between (int_min x.low y.low) (int_max x.high y.high))) t (as_number l x a) (as_number r y b) ≡ choice clafers scopes k (intervals.choice clafers scopes k x y) l r x y t a b
  number-choice None l r x y t a b h = (cc)
  number-choice (Some kinds.Truth) l r x y t a b h = (cc)
  number-choice (Some kinds.Integer) l r x y t a b h = refl
  number-choice (Some (kinds.Nodes ks)) l r x y t a b h = (cc)
  number-choice (Some (kinds.Numbers ks)) l r x y t a b h = (cc)

  pub nodes-choice : (k : Option Kind) (l r : Option Kind) (x y : Bounds) (t a b : Core) → position_of k ≡ position.Nodes
      → choose_nodes clafers scopes t a b ≡ choice clafers scopes k (intervals.choice clafers scopes k x y) l r x y t a b
  nodes-choice None l r x y t a b h = refl
  nodes-choice (Some kinds.Truth) l r x y t a b h = (cc)
  nodes-choice (Some kinds.Integer) l r x y t a b h = (cc)
  nodes-choice (Some (kinds.Nodes ks)) l r x y t a b h = refl
  nodes-choice (Some (kinds.Numbers ks)) l r x y t a b h = refl

pub ruleset choices = (truth-position, number-position, truth-bounds, number-bounds, nodes-bounds, truth-choice, number-choice, nodes-choice)
