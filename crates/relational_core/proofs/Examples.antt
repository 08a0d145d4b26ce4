-- Relational expressions of small models, worked out.
use Rattle.std.proofs.Common.{◌≡◌, ℕ, ◌+◌, ◌*◌, ◌^◌, true, false, Bool, List, [], ◌∷◌, Option, Some, None, refl, pos, neg_ℤ}
use Rattle.clf_base.specs.declared.fault.Span.{Span}
use Rattle.clf_tree.specs.declared.token.Word.TheVariants as word
use Rattle.clf_tree.specs.declared.token.Title.{Title}
use Rattle.clf_tree.specs.declared.module.Interval.{Interval}
use Rattle.clf_tree.specs.declared.model.Clafer.{Clafer}
use Rattle.clf_tree.specs.declared.model.Reference.{Reference}
use Rattle.clf_tree.specs.declared.scopes.Scopes.{Scopes}
use Rattle.clf_tree.specs.declared.core_expr.Quantifier.TheVariants as quantifier
use Rattle.clf_tree.specs.Tree as e
use Rattle.clf_tree.specs.Core as c
use Rattle.clf_tree.specs.CoreWeights.{core_weight}
use Rattle.clf_tree.specs.Widths.{width}
use Rattle.int_widths.specs.Narrow.{is_narrow_law}
use Rattle.relational_core.specs.Lowered.{negated, added, multiplied, lowered_law, lowered_goal, kind_interval}
use Rattle.relational_core.specs.Conditions.{is_typed_law}

abbrev at : Span
at = record { line = 0; column = 0 }

abbrev title : Title
title = record { name = []; at = at }

abbrev any : Interval
any = record { low = 0; high = None }

abbrev clafer : Bool → Option ℕ → Option ℕ → Option Reference → Clafer
clafer abstract' parent above reference = record { title = title; is_abstract = abstract'; parent = parent; above = above; group = any; times = any; reference = reference }

abbrev to : Option ℕ → Option Reference
to target = Some (record { at = at; bag = true; to = target })

-- an option that another implies: a, with b and c below it
abbrev implied : List Clafer
implied = clafer false None None None ∷ clafer false (Some 0) None None ∷ clafer false (Some 0) None None ∷ []

abbrev ones : Scopes
ones = record { of = 1 ∷ 1 ∷ 1 ∷ []; low = pos 0; high = pos 1 }

the_option_implies : lowered_law implied ones (Some 0, e.Implies at (e.Step at (e.This at) (1 ∷ []) false) (e.Step at (e.This at) (2 ∷ []) false))
    ≡ c.Quant quantifier.All false 1 (c.Every (0 ∷ [])) (c.Or (c.Not (c.AtLeast 1 (c.Down (1 ∷ []) (c.Bound (0 ∷ []) 0)))) (c.AtLeast 1 (c.Down (2 ∷ []) (c.Bound (0 ∷ []) 0))))
the_option_implies = refl

the_option_weighs : core_weight ones (lowered_law implied ones (Some 0, e.Implies at (e.Step at (e.This at) (1 ∷ []) false) (e.Step at (e.This at) (2 ∷ []) false))) ≡ 1 * (2 + (1 + (32 + 5)) + (32 + 5) + 2 + 4) + 2 + 1
the_option_weighs = refl

it_is_typed : is_typed_law implied (Some 0, e.Implies at (e.Step at (e.This at) (1 ∷ []) false) (e.Step at (e.This at) (2 ∷ []) false)) ≡ true
it_is_typed = refl

-- a bag of two integers from -8 to 7: the sum has one value for each, from -16 to 14
abbrev bag : List Clafer
bag = clafer false None None (to None) ∷ []

abbrev two : Scopes
two = record { of = 2 ∷ []; low = neg_ℤ (pos 8); high = pos 7 }

two_fives_are_ten : lowered_law bag two (None, e.Equal at (e.Sum at (e.Clafer at 0)) (e.Literal at 10)) ≡ c.SameValues (c.Total 5 (c.Every (0 ∷ []))) (c.Const 5 (pos 10))
unfolding width kind_interval
two_fives_are_ten = refl

-- sets of integers are compared by their values, and read as their sum where a number is wanted
values_are_compared : lowered_law bag two (None, e.Equal at (e.Clafer at 0) (e.Literal at 5)) ≡ c.SameValues (c.Every (0 ∷ [])) (c.Const 4 (pos 5))
unfolding width kind_interval
values_are_compared = refl

the_sum_is_less : lowered_law bag two (None, e.LessEqual at (e.Clafer at 0) (e.Literal at 5)) ≡ c.Not (c.Less (c.Const 4 (pos 5)) (c.Total 5 (c.Every (0 ∷ []))))
unfolding width kind_interval
the_sum_is_less = refl

they_are_narrow : is_narrow_law bag two (None, e.LessEqual at (e.Clafer at 0) (e.Literal at 5)) ≡ true
unfolding width kind_interval
they_are_narrow = refl

-- a difference is the sum with the opposite, which is done at once where it is a constant
a_difference : lowered_goal bag two (e.Sub at (e.Clafer at 0) (e.Literal at 7)) ≡ c.Add 6 (c.Total 5 (c.Every (0 ∷ []))) (c.Const 4 (neg_ℤ (pos 7)))
unfolding width kind_interval negated added
a_difference = refl

-- constants are folded: two times three, less seven
minus_one : lowered_goal bag two (e.Sub at (e.Mul at (e.Literal at 2) (e.Literal at 3)) (e.Literal at 7)) ≡ c.Const 1 (neg_ℤ (pos 1))
unfolding width negated added multiplied
minus_one = refl

-- one that 64 bits don't hold is not folded
too_long : multiplied 64 (c.Const 63 (pos (2 ^ 62))) (c.Const 3 (pos 2)) ≡ c.Mul 64 (c.Const 63 (pos (2 ^ 62))) (c.Const 3 (pos 2))
unfolding multiplied
too_long = refl

-- two different ones have the same value
two_variables : lowered_law bag two (None, e.Quant at word.Some true (title ∷ title ∷ []) (e.Clafer at 0) (e.Equal at (e.Variable at 1) (e.Variable at 0)))
    ≡ c.Quant quantifier.Some true 2 (c.Every (0 ∷ [])) (c.SameValues (c.Bound (0 ∷ []) 1) (c.Bound (0 ∷ []) 0))
two_variables = refl

-- an enumeration: color, red and green below it, and paint that refers to it
abbrev colors : List Clafer
colors = clafer true None None None ∷ clafer false None (Some 0) None ∷ clafer false None (Some 0) None ∷ clafer false None None (to (Some 0)) ∷ []

abbrev each : Scopes
each = record { of = 0 ∷ 1 ∷ 1 ∷ 1 ∷ []; low = pos 0; high = pos 1 }

paint_is_red : lowered_law colors each (None, e.Equal at (e.Clafer at 3) (e.Clafer at 1)) ≡ c.SameNodes (c.Follow (1 ∷ 2 ∷ []) (c.Every (3 ∷ []))) (c.Every (1 ∷ []))
paint_is_red = refl

-- a color that can't be there is not listed
abbrev no_green : Scopes
no_green = record { of = 0 ∷ 1 ∷ 0 ∷ 1 ∷ []; low = pos 0; high = pos 1 }

only_red : lowered_law colors no_green (None, e.Equal at (e.Clafer at 3) (e.Clafer at 1)) ≡ c.SameNodes (c.Follow (1 ∷ []) (c.Every (3 ∷ []))) (c.Every (1 ∷ []))
only_red = refl

-- `no` is never `some`
no_paint : lowered_law colors each (None, e.Quant at word.No false (title ∷ []) (e.Clafer at 3) (e.In at (e.Variable at 0) (e.Clafer at 2)))
    ≡ c.Not (c.Quant quantifier.Some false 1 (c.Every (3 ∷ [])) (c.WithinNodes (c.Follow (1 ∷ 2 ∷ []) (c.Bound (3 ∷ []) 0)) (c.Every (2 ∷ []))))
no_paint = refl

-- Part with its cost and its gain; phone, below it screen with basic, colour and hd, and beside it gps and camera, which are parts
abbrev phone : List Clafer
phone =
    clafer true None None None ∷ clafer false (Some 0) None (to None) ∷ clafer false (Some 0) None (to None) ∷ clafer false None None None ∷ clafer false (Some 3) None None
    ∷ clafer false (Some 4) (Some 0) None ∷ clafer false (Some 4) (Some 0) None ∷ clafer false (Some 4) (Some 0) None ∷ clafer false (Some 3) (Some 0) None ∷ clafer false (Some 3) (Some 0) None ∷ []

abbrev parts : Scopes
parts = record { of = 0 ∷ 5 ∷ 5 ∷ 1 ∷ 1 ∷ 1 ∷ 1 ∷ 1 ∷ 1 ∷ 1 ∷ []; low = neg_ℤ (pos 2048); high = pos 2047 }

camera_needs_hd : lowered_law phone parts (Some 3, e.Implies at (e.Step at (e.This at) (9 ∷ []) false) (e.Step at (e.Step at (e.This at) (4 ∷ []) false) (7 ∷ []) false))
    ≡ c.Quant quantifier.All false 1 (c.Every (3 ∷ [])) (c.Or (c.Not (c.AtLeast 1 (c.Down (9 ∷ []) (c.Bound (3 ∷ []) 0)))) (c.AtLeast 1 (c.Down (7 ∷ []) (c.Down (4 ∷ []) (c.Bound (3 ∷ []) 0)))))
camera_needs_hd = refl

basic_costs_two : lowered_law phone parts (Some 5, e.Equal at (e.Step at (e.This at) (1 ∷ []) false) (e.Literal at 2))
    ≡ c.Quant quantifier.All false 1 (c.Every (5 ∷ [])) (c.SameValues (c.Down (1 ∷ []) (c.Bound (5 ∷ []) 0)) (c.Const 3 (pos 2)))
unfolding width
basic_costs_two = refl

-- five costs of twelve bits have a sum of fifteen
least_cost : lowered_goal phone parts (e.Sum at (e.Step at (e.Clafer at 0) (1 ∷ []) false)) ≡ c.Total 15 (c.Down (1 ∷ []) (c.Every (5 ∷ 6 ∷ 7 ∷ 8 ∷ 9 ∷ [])))
unfolding width kind_interval
least_cost = refl
