-- Where an operand does not fit its position, and which of the misfits of a model is the first.
use Rattle.std.specs.Prelude.{◌≡◌, ℕ, ◌||◌, Bool, true, false, List, [], ◌∷◌, length, Option, Some, None, is_some, if◌then◌else◌}
use Rattle.std.specs.Option.{option_or}
use Rattle.clf_base.specs.declared.fault.Span.{Span}
use Rattle.clf_base.specs.declared.fault.Refusal.{Refusal}
use Rattle.clf_base.specs.declared.fault.Fault.{Fault}
use Rattle.clf_base.specs.declared.fault.Fault.TheVariants as fault
use Rattle.clf_tree.specs.declared.model.Clafer.{Clafer}
use Rattle.clf_tree.specs.declared.model.Rule.{Rule}
use Rattle.clf_tree.specs.declared.model.Goal.{Goal}
use Rattle.clf_tree.specs.declared.model.Model.{Model}
use Rattle.clf_tree.specs.declared.kind.Within.{Within}
use Rattle.clf_tree.specs.declared.kind.Kind.{Kind}
use Rattle.clf_tree.specs.declared.kind.Kind.TheVariants as kinds
use Rattle.clf_tree.specs.Tree as e
use Rattle.clf_tree.specs.Tree.{Tree, tree}
use Rattle.clf_tree.specs.Hierarchy.{refer_to_int}
use Rattle.clf_tree.specs.Kinds.{kind, clafers_of, bind_kinds, compared_kind}
use Rattle.clf_tree.specs.Numerics.{place}
use Rattle.refusal_order.specs.Order.{refused, with_refusal}
use Rattle.type_checker.specs.declared.position.Position.{Position}
use Rattle.type_checker.specs.declared.position.Position.TheVariants.{Truth, Number, Nodes, Sum, Any}

-- the first of two that may be missing
abbrev pub first_of : Option Refusal → Option Refusal → Option Refusal
first_of first None = first
first_of first (Some r) = with_refusal first r

-- where it has no kind
abbrev pub where_none : Option Kind → ℕ → Span → Option Refusal
where_none k code at = if is_some k then None else Some (refused code at 0)

abbrev pub is_truth : Option Kind → Bool
is_truth (Some kinds.Truth) = true
is_truth _ = false

abbrev pub is_number : Option Kind → Bool
is_number (Some kinds.Integer) = true
is_number (Some (kinds.Numbers ks)) = true
is_number _ = false

-- the position of the branches of a choice, by their kinds
abbrev pub branch_position : Option Kind → Option Kind → Position
branch_position a b = if is_truth a || is_truth b then Truth else if is_number a || is_number b then Number else Any

-- that of a side of `=` and `in`, by its kind and that of the other side; a truth value fits on no side
abbrev pub side_position : Option Kind → Option Kind → Position
side_position a b = if is_truth a then Number else if is_truth b then Any else if is_number a || is_number b then Number else Any

module _ (clafers : List Clafer) where
  -- what is said of an operand of this kind at this place
  abbrev pub misfit : Position → Option Kind → Span → Option Refusal
  misfit Truth (Some kinds.Integer) at = Some (refused 70 at 0)
  misfit Truth (Some (kinds.Numbers ks)) at = Some (refused 70 at 0)
  misfit Truth _ at = None
  misfit Number (Some kinds.Truth) at = Some (refused 71 at 0)
  misfit Number (Some (kinds.Nodes ks)) at = if refer_to_int clafers ks then None else Some (refused 73 at 0)
  misfit Number _ at = None
  misfit Nodes (Some (kinds.Nodes ks)) at = None
  misfit Nodes None at = None
  misfit Nodes _ at = Some (refused 72 at 0)
  misfit Sum (Some (kinds.Nodes ks)) at = if refer_to_int clafers ks then None else Some (refused 73 at 0)
  misfit Sum None at = None
  misfit Sum _ at = Some (refused 72 at 0)
  misfit Any _ at = None

  -- an operand: what is refused in it, and where that is nothing, that it does not fit
  abbrev pub at_position : Position → Tree → Within → Option Refusal → Option Refusal
  at_position position t w inside = option_or inside (misfit position (kind clafers t w) (place t))

  -- of `=` and `in` at a place, by the kinds, the places and the refusals of both sides
  unfoldable pub compared : Span → Option Kind → Span → Option Refusal → Option Kind → Span → Option Refusal → Option Refusal
  compared at a a_at in_a b b_at in_b =
      option_or (first_of (option_or in_a (misfit (side_position a b) a a_at)) (option_or in_b (misfit (side_position b a) b b_at))) (where_none (compared_kind clafers a b) 74 at)

  -- The first refusal in an expression. An expression with a refused part is not refused itself.
  abbrev pub refusal : Tree → Within → Option Refusal
  refusal (e.Literal _ n) w = None
  refusal (e.This _) w = None
  refusal (e.Variable _ i) w = None
  refusal (e.Clafer _ c) w = None
  refusal (e.Name _ _) w = None
  refusal (e.Join _ _ _) w = None
  refusal (e.Step _ of into follow) w = at_position Nodes of w (refusal of w)
  refusal (e.Parent _ a) w = at_position Nodes a w (refusal a w)
  refusal (e.Dref at a) w = option_or (at_position Nodes a w (refusal a w)) (where_none (kind clafers (e.Dref at a) w) 75 (place a))
  refusal (e.Union _ a b) w = first_of (at_position Nodes a w (refusal a w)) (at_position Nodes b w (refusal b w))
  refusal (e.Minus at a b) w =
      option_or (first_of (at_position Nodes a w (refusal a w)) (at_position Nodes b w (refusal b w))) (where_none (kind clafers (e.Minus at a b) w) 74 at)
  refusal (e.Meet at a b) w =
      option_or (first_of (at_position Nodes a w (refusal a w)) (at_position Nodes b w (refusal b w))) (where_none (kind clafers (e.Meet at a b) w) 74 at)
  refusal (e.If _ c a b) w =
      let position = branch_position (kind clafers a w) (kind clafers b w) in
      first_of (first_of (at_position Truth c w (refusal c w)) (at_position position a w (refusal a w))) (at_position position b w (refusal b w))
  refusal (e.Not _ a) w = at_position Truth a w (refusal a w)
  refusal (e.And _ a b) w = first_of (at_position Truth a w (refusal a w)) (at_position Truth b w (refusal b w))
  refusal (e.Or _ a b) w = first_of (at_position Truth a w (refusal a w)) (at_position Truth b w (refusal b w))
  refusal (e.Xor _ a b) w = first_of (at_position Truth a w (refusal a w)) (at_position Truth b w (refusal b w))
  refusal (e.Implies _ a b) w = first_of (at_position Truth a w (refusal a w)) (at_position Truth b w (refusal b w))
  refusal (e.Iff _ a b) w = first_of (at_position Truth a w (refusal a w)) (at_position Truth b w (refusal b w))
  refusal (e.Card _ a) w = at_position Nodes a w (refusal a w)
  refusal (e.Sum _ a) w = at_position Sum a w (refusal a w)
  refusal (e.Neg _ a) w = at_position Number a w (refusal a w)
  refusal (e.Add _ a b) w = first_of (at_position Number a w (refusal a w)) (at_position Number b w (refusal b w))
  refusal (e.Sub _ a b) w = first_of (at_position Number a w (refusal a w)) (at_position Number b w (refusal b w))
  refusal (e.Mul _ a b) w = first_of (at_position Number a w (refusal a w)) (at_position Number b w (refusal b w))
  refusal (e.Less _ a b) w = first_of (at_position Number a w (refusal a w)) (at_position Number b w (refusal b w))
  refusal (e.LessEqual _ a b) w = first_of (at_position Number a w (refusal a w)) (at_position Number b w (refusal b w))
  refusal (e.Greater _ a b) w = first_of (at_position Number a w (refusal a w)) (at_position Number b w (refusal b w))
  refusal (e.GreaterEqual _ a b) w = first_of (at_position Number a w (refusal a w)) (at_position Number b w (refusal b w))
  refusal (e.Equal at a b) w = compared at (kind clafers a w) (place a) (refusal a w) (kind clafers b w) (place b) (refusal b w)
  refusal (e.In at a b) w = compared at (kind clafers a w) (place a) (refusal a w) (kind clafers b w) (place b) (refusal b w)
  refusal (e.Some _ a) w = at_position Nodes a w (refusal a w)
  refusal (e.No _ a) w = at_position Nodes a w (refusal a w)
  refusal (e.One _ a) w = at_position Nodes a w (refusal a w)
  refusal (e.Lone _ a) w = at_position Nodes a w (refusal a w)
  refusal (e.Quant _ word disj names over body) w =
      let inner = bind_kinds (clafers_of (kind clafers over w)) (length names) w in
      first_of (at_position Nodes over w (refusal over w)) (at_position Truth body inner (refusal body inner))

  -- a rule is in truth position, a goal in integer position
  abbrev pub rule_refusal : Rule → Option Refusal
  rule_refusal r =
      let w : Within = record { this = r.context; bound = [] } in
      at_position Truth (tree r.body) w (refusal (tree r.body) w)

  abbrev pub goal_refusal : Goal → Option Refusal
  goal_refusal g =
      let w : Within = record { this = None; bound = [] } in
      at_position Number (tree g.body) w (refusal (tree g.body) w)

  -- the first of the one that was found so far and those of a list
  abbrev pub rules_refusal : Option Refusal → List Rule → Option Refusal
  rules_refusal first [] = first
  rules_refusal first (r ∷ rs) = rules_refusal (first_of first (rule_refusal r)) rs

  abbrev pub goals_refusal : Option Refusal → List Goal → Option Refusal
  goals_refusal first [] = first
  goals_refusal first (g ∷ gs) = goals_refusal (first_of first (goal_refusal g)) gs

-- the first refusal of a model
abbrev pub model_refusal : Model → Option Refusal
model_refusal m = goals_refusal m.clafers (rules_refusal m.clafers None m.rules) m.goals

-- what holds of a fault: a refusal is the first of the model, and want of memory says nothing
abbrev pub Explains : Model → Fault → Type 0
Explains m (fault.Refused r) = model_refusal m ≡ Some r
Explains m fault.NoMemory = Unit {0}
