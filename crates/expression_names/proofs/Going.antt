-- Going on from refusal to refusal.
use Rattle.std.proofs.Common.{◌≡◌, List, [], ◌∷◌, ◌++◌, Option, Some, None, refl}
use Rattle.std.specs.List.{filter_map, cons_option}
use Rattle.clf_base.specs.declared.fault.Refusal.{Refusal}
use Rattle.refusal_order.specs.Order.{with_refusal, with_refusals, first_refusal}
use Rattle.expression_names.specs.LookedUp.{sooner}

pub leads-on : {X : Type 0} (f : X → Option Refusal) (x : X) (xs : List X) (first : Option Refusal) → with_refusals first (filter_map f (x ∷ xs)) ≡ with_refusals (sooner first (f x)) (filter_map f xs)
leads-on f x xs first = by_case (f x)
  where
    by_case : (r : Option Refusal) → with_refusals first (cons_option r (filter_map f xs)) ≡ with_refusals (sooner first r) (filter_map f xs)
    by_case None = refl
    by_case (Some r) = refl

with_refusals-append : (first : Option Refusal) (xs ys : List Refusal) → with_refusals first (xs ++ ys) ≡ with_refusals (with_refusals first xs) ys
with_refusals-append first [] ys = refl
with_refusals-append first (x ∷ xs) ys = with_refusals-append (with_refusal first x) xs ys

pub first-append : (xs ys : List Refusal) → first_refusal (xs ++ ys) ≡ with_refusals (first_refusal xs) ys
first-append xs ys = with_refusals-append None xs ys

pub ruleset going_steps = (leads-on, first-append)
