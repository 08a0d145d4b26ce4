-- A choice by its position.
use Rattle.std.proofs.Common.{◌≡◌, ℕ, true, false, List, Option, Some, None, refl}
use Rattle.std.specs.Int.{int_min, int_max}
use Rattle.clf_tree.specs.declared.model.Clafer.{Clafer}
use Rattle.clf_tree.specs.declared.scopes.Scopes.{Scopes}
use Rattle.clf_tree.specs.declared.bounds.Bounds.{Bounds}
use Rattle.clf_tree.specs.declared.kind.Kind.{Kind}
use Rattle.clf_tree.specs.declared.kind.Kind.TheVariants as kinds
use Rattle.clf_tree.specs.Intervals.{between, room, members, sum_between}
use Rattle.clf_tree.specs.Intervals as intervals
use Rattle.clf_tree.specs.Numerics.{is_integer}
use Rattle.model_weight.specs.Capped.{plus, times}
use Rattle.model_weight.specs.Light.{both, tested, counted, chosen}
use Rattle.model_weight.specs.Measures.{nodes_in, kind_interval, position_of}
use Rattle.model_weight.specs.declared.choices.Position.TheVariants as position

-- the kind of a choice by its position
pub truth-position : (k : Option Kind) → position_of k ≡ position.Truth → k ≡ Some kinds.Truth
truth-position None h = (cc)
truth-position (Some kinds.Truth) h = refl
truth-position (Some kinds.Integer) h = (cc)
truth-position (Some (kinds.Nodes ks)) h = (cc)
truth-position (Some (kinds.Numbers ks)) h = (cc)

pub number-position : (k : Option Kind) → position_of k ≡ position.Number → k ≡ Some kinds.Integer
number-position None h = (cc)
number-position (Some kinds.Truth) h = (cc)
number-position (Some kinds.Integer) h = refl
number-position (Some (kinds.Nodes ks)) h = (cc)
number-position (Some (kinds.Numbers ks)) h = (cc)

module _ (clafers : List Clafer) (scopes : Scopes) where
  pub truth-bounds : (k : Option Kind) (x y : Bounds) → position_of k ≡ position.Truth → kind_interval clafers scopes (Some kinds.Truth) ≡ intervals.choice clafers scopes k x y
  unfolding kind_interval nodes_in
  truth-bounds None x y h = (cc)
  truth-bounds (Some kinds.Truth) x y h = refl
  truth-bounds (Some kinds.Integer) x y h = (cc)
  truth-bounds (Some (kinds.Nodes ks)) x y h = (cc)
  truth-bounds (Some (kinds.Numbers ks)) x y h = (cc)

  pub number-bounds : (k : Option Kind) (x y : Bounds) → position_of k ≡ position.Number → between (int_min x.low y.low) (int_max x.high y.high) ≡ intervals.choice clafers scopes k x y
  number-bounds None x y h = (cc)
  number-bounds (Some kinds.Truth) x y h = (cc)
  number-bounds (Some kinds.Integer) x y h = refl
  number-bounds (Some (kinds.Nodes ks)) x y h = (cc)
  number-bounds (Some (kinds.Numbers ks)) x y h = (cc)

  pub nodes-bounds : (k : Option Kind) (x y : Bounds) → position_of k ≡ position.Nodes → kind_interval clafers scopes k ≡ intervals.choice clafers scopes k x y
  unfolding kind_interval nodes_in
  nodes-bounds None x y h = refl
  nodes-bounds (Some kinds.Truth) x y h = (cc)
  nodes-bounds (Some kinds.Integer) x y h = (cc)
  nodes-bounds (Some (kinds.Nodes ks)) x y h = refl
  nodes-bounds (Some (kinds.Numbers ks)) x y h = refl

  pub truth-chosen : (k l r : Option Kind) (x a b : ℕ) → position_of k ≡ position.Truth
      → both 8 (tested scopes l (nodes_in clafers scopes l) a) (tested scopes r (nodes_in clafers scopes r) b) ≡ chosen clafers scopes k x l a r b
  truth-chosen None l r x a b h = (cc)
  truth-chosen (Some kinds.Truth) l r x a b h = refl
  truth-chosen (Some kinds.Integer) l r x a b h = (cc)
  truth-chosen (Some (kinds.Nodes ks)) l r x a b h = (cc)
  truth-chosen (Some (kinds.Numbers ks)) l r x a b h = (cc)

  pub number-chosen : (k l r : Option Kind) (x a b : ℕ) → position_of k ≡ position.Number
      → both (plus 8 (times 4 x)) (counted scopes l (nodes_in clafers scopes l) a) (counted scopes r (nodes_in clafers scopes r) b) ≡ chosen clafers scopes k x l a r b
  number-chosen None l r x a b h = (cc)
  number-chosen (Some kinds.Truth) l r x a b h = (cc)
  number-chosen (Some kinds.Integer) l r x a b h = refl
  number-chosen (Some (kinds.Nodes ks)) l r x a b h = (cc)
  number-chosen (Some (kinds.Numbers ks)) l r x a b h = (cc)

  pub nodes-chosen : (k l r : Option Kind) (x a b : ℕ) → position_of k ≡ position.Nodes → both (plus 8 (times 4 (nodes_in clafers scopes k))) a b ≡ chosen clafers scopes k x l a r b
  nodes-chosen None l r x a b h = refl
  nodes-chosen (Some kinds.Truth) l r x a b h = (cc)
  nodes-chosen (Some kinds.Integer) l r x a b h = (cc)
  nodes-chosen (Some (kinds.Nodes ks)) l r x a b h = refl
  nodes-chosen (Some (kinds.Numbers ks)) l r x a b h = refl

pub is-number : (k : Option Kind) → position_of k ≡ position.Number → true ≡ is_integer k
is-number None h = (cc)
is-number (Some kinds.Truth) h = (cc)
is-number (Some kinds.Integer) h = refl
is-number (Some (kinds.Nodes ks)) h = (cc)
is-number (Some (kinds.Numbers ks)) h = (cc)

pub truth-no_number : (k : Option Kind) → position_of k ≡ position.Truth → false ≡ is_integer k
truth-no_number None h = (cc)
truth-no_number (Some kinds.Truth) h = refl
truth-no_number (Some kinds.Integer) h = (cc)
truth-no_number (Some (kinds.Nodes ks)) h = (cc)
truth-no_number (Some (kinds.Numbers ks)) h = (cc)

pub nodes-no_number : (k : Option Kind) → position_of k ≡ position.Nodes → false ≡ is_integer k
nodes-no_number None h = refl
nodes-no_number (Some kinds.Truth) h = (cc)
nodes-no_number (Some kinds.Integer) h = (cc)
nodes-no_number (Some (kinds.Nodes ks)) h = refl
nodes-no_number (Some (kinds.Numbers ks)) h = refl

pub ruleset choices = (truth-position, number-position, truth-bounds, number-bounds, nodes-bounds, truth-chosen, number-chosen, nodes-chosen, is-number, truth-no_number, nodes-no_number)
