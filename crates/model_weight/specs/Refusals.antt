-- What is refused of the integers, the weight and the goals of a model.
use Rattle.std.specs.Prelude.{◌≡◌, ℕ, ◌++◌, Bool, true, false, List, [], ◌∷◌, length, slice_get, nat_lt, Option, Some, None, if◌then◌else◌}
use Rattle.std.specs.Option.{option_map_or, option_or}
use Rattle.std.specs.List.{flat_map}
use Rattle.clf_base.specs.declared.fault.Span.{Span}
use Rattle.clf_base.specs.declared.fault.Refusal.{Refusal}
use Rattle.clf_base.specs.declared.fault.Fault.{Fault}
use Rattle.clf_base.specs.declared.fault.Fault.TheVariants as fault
use Rattle.clf_tree.specs.declared.model.Clafer.{Clafer}
use Rattle.clf_tree.specs.declared.model.Rule.{Rule}
use Rattle.clf_tree.specs.declared.model.Goal.{Goal}
use Rattle.clf_tree.specs.declared.model.Model.{Model}
use Rattle.clf_tree.specs.declared.scopes.Scopes.{Scopes}
use Rattle.clf_tree.specs.declared.bounds.Bounds.{Bounds}
use Rattle.clf_tree.specs.declared.kind.Within.{Within}
use Rattle.clf_tree.specs.Tree as e
use Rattle.clf_tree.specs.Tree.{Tree, tree}
use Rattle.clf_tree.specs.Kinds.{kind, clafers_of, bind_kinds, reading_of}
use Rattle.clf_tree.specs.Intervals.{interval}
use Rattle.clf_tree.specs.Numerics.{Numeric, place, numeric, inside, is_integer, by_values, is_narrow}
use Rattle.clf_tree.specs.Widths.{width}
use Rattle.refusal_order.specs.Order.{refused, with_refusal, first_refusal}
use Rattle.int_widths.specs.Narrow.{within_context}
use Rattle.int_widths.specs.Weight.{model_weight}

-- an integer that needs more than 62 bits
abbrev pub too_wide : Numeric → List Refusal
too_wide n = if is_narrow n then [] else refused 90 n.at (width n.bounds) ∷ []

abbrev pub wide_among : List Numeric → List Refusal
wide_among ns = flat_map too_wide ns

-- all parts of a model that stand in integer position, those of its constraints first, each part before those inside it
abbrev pub integers_of_rule : List Clafer → Scopes → Rule → List Numeric
integers_of_rule clafers scopes r = inside clafers scopes (tree r.body) (within_context r.context)

abbrev pub integers_of_goal : List Clafer → Scopes → Goal → List Numeric
integers_of_goal clafers scopes g =
    numeric clafers scopes (tree g.body) (within_context None) ∷ inside clafers scopes (tree g.body) (within_context None)

abbrev pub integers_of : Scopes → Model → List Numeric
integers_of scopes m = flat_map (integers_of_rule m.clafers scopes) m.rules ++ flat_map (integers_of_goal m.clafers scopes) m.goals

-- the one of earliest place that needs too many bits; at one place the outer one
abbrev pub wide_refusal : Scopes → Model → Option Refusal
wide_refusal scopes m = first_refusal (wide_among (integers_of scopes m))

-- four goals are the most; the fifth is refused
abbrev pub goals_refusal : Model → Option Refusal
goals_refusal m = option_map_or (λ (g : Goal). Some (refused 92 g.at (length m.goals))) (slice_get m.goals 4) None

abbrev pub nowhere : Span
nowhere = record { line = 0; column = 0 }

abbrev pub weight_refusal : ℕ → Option Refusal
weight_refusal weight = if nat_lt 8000000 weight then Some (refused 91 nowhere weight) else None

-- the number of goals is refused first, then the integers, then the weight
abbrev pub refusal : Scopes → Model → Option Refusal
refusal scopes m = option_or (option_or (goals_refusal m) (wide_refusal scopes m)) (weight_refusal (model_weight scopes m))

-- what holds of a fault: a refusal is that of the model, and want of memory says nothing
abbrev pub Explains : Scopes → Model → Fault → Type 0
Explains scopes m (fault.Refused r) = refusal scopes m ≡ Some r
Explains scopes m fault.NoMemory = Unit {0}

-- ---- the same, part by part

-- the first of two that may be missing
abbrev pub first_of : Option Refusal → Option Refusal → Option Refusal
first_of first None = first
first_of first (Some r) = with_refusal first r

abbrev pub own_refusal : Span → Bounds → Option Refusal
own_refusal at b = first_refusal (too_wide (record { at = at; bounds = b }))

-- an integer with its parts, and one that stands in integer position where a test says so
abbrev pub with_own : Span → Bounds → Option Refusal → Option Refusal
with_own at b found = first_of (own_refusal at b) found

abbrev pub where_integer : Bool → Span → Bounds → Option Refusal → Option Refusal
where_integer true at b found = with_own at b found
where_integer false at b found = found

module _ (clafers : List Clafer) (scopes : Scopes) where
  abbrev pub in_position : Bool → Tree → Within → Option Refusal → Option Refusal
  in_position b t w found = where_integer b (place t) (interval clafers scopes t w) found

  -- the first integer inside an expression that needs too many bits
  abbrev pub wide_inside : Tree → Within → Option Refusal
  wide_inside (e.Step _ a into follow) w = wide_inside a w
  wide_inside (e.Parent _ a) w = wide_inside a w
  wide_inside (e.Dref _ a) w = wide_inside a w
  wide_inside (e.Union _ a b) w = first_of (wide_inside a w) (wide_inside b w)
  wide_inside (e.Minus _ a b) w = first_of (wide_inside a w) (wide_inside b w)
  wide_inside (e.Meet _ a b) w = first_of (wide_inside a w) (wide_inside b w)
  wide_inside (e.If at t a b) w =
      first_of (first_of (wide_inside t w) (in_position (is_integer (kind clafers (e.If at t a b) w)) a w (wide_inside a w)))
      (in_position (is_integer (kind clafers (e.If at t a b) w)) b w (wide_inside b w))
  wide_inside (e.Not _ a) w = wide_inside a w
  wide_inside (e.And _ a b) w = first_of (wide_inside a w) (wide_inside b w)
  wide_inside (e.Or _ a b) w = first_of (wide_inside a w) (wide_inside b w)
  wide_inside (e.Xor _ a b) w = first_of (wide_inside a w) (wide_inside b w)
  wide_inside (e.Implies _ a b) w = first_of (wide_inside a w) (wide_inside b w)
  wide_inside (e.Iff _ a b) w = first_of (wide_inside a w) (wide_inside b w)
  wide_inside (e.Card _ a) w = wide_inside a w
  wide_inside (e.Sum _ a) w = wide_inside a w
  wide_inside (e.Neg _ a) w = in_position true a w (wide_inside a w)
  wide_inside (e.Add _ a b) w = first_of (in_position true a w (wide_inside a w)) (in_position true b w (wide_inside b w))
  wide_inside (e.Sub _ a b) w = first_of (in_position true a w (wide_inside a w)) (in_position true b w (wide_inside b w))
  wide_inside (e.Mul _ a b) w = first_of (in_position true a w (wide_inside a w)) (in_position true b w (wide_inside b w))
  wide_inside (e.Less _ a b) w = first_of (in_position true a w (wide_inside a w)) (in_position true b w (wide_inside b w))
  wide_inside (e.LessEqual _ a b) w = first_of (in_position true a w (wide_inside a w)) (in_position true b w (wide_inside b w))
  wide_inside (e.Greater _ a b) w = first_of (in_position true a w (wide_inside a w)) (in_position true b w (wide_inside b w))
  wide_inside (e.GreaterEqual _ a b) w = first_of (in_position true a w (wide_inside a w)) (in_position true b w (wide_inside b w))
  wide_inside (e.Equal _ a b) w =
      first_of (in_position (by_values (reading_of clafers (kind clafers a w) (kind clafers b w))) a w (wide_inside a w))
      (in_position (by_values (reading_of clafers (kind clafers a w) (kind clafers b w))) b w (wide_inside b w))
  wide_inside (e.In _ a b) w =
      first_of (in_position (by_values (reading_of clafers (kind clafers a w) (kind clafers b w))) a w (wide_inside a w))
      (in_position (by_values (reading_of clafers (kind clafers a w) (kind clafers b w))) b w (wide_inside b w))
  wide_inside (e.Some _ a) w = wide_inside a w
  wide_inside (e.No _ a) w = wide_inside a w
  wide_inside (e.One _ a) w = wide_inside a w
  wide_inside (e.Lone _ a) w = wide_inside a w
  wide_inside (e.Quant _ word disj names over body) w =
      first_of (wide_inside over w) (wide_inside body (bind_kinds (clafers_of (kind clafers over w)) (length names) w))
  wide_inside t w = None
