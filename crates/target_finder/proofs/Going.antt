-- Going on from target to target.
use Rattle.std.proofs.Common.{◌≡◌, ℕ, zero, suc, ◌+◌, ◌<◌, List, [], ◌∷◌, ◌++◌, length, take, get_or, Option, Some, None, refl, ap, sym, ◌∙◌, arith}
use Rattle.std.specs.List.{filter_map, cons_option}
use Rattle.clf_base.specs.declared.fault.Refusal.{Refusal}
use Rattle.refusal_order.specs.Order.{with_refusals}
use Rattle.clf_tree.specs.declared.model.Clafer.{Clafer}
use Rattle.target_finder.specs.Targets.{sooner, with_target, with_targets}

pub leads-on : {X : Type 0} (f : X → Option Refusal) (x : X) (xs : List X) (first : Option Refusal) → with_refusals first (filter_map f (x ∷ xs)) ≡ with_refusals (sooner first (f x)) (filter_map f xs)
leads-on f x xs first = by_case (f x)
  where
    by_case : (r : Option Refusal) → with_refusals first (cons_option r (filter_map f xs)) ≡ with_refusals (sooner first r) (filter_map f xs)
    by_case None = refl
    by_case (Some r) = refl

-- one clafer more
pub targets-more : (ts : List (Option ℕ)) (ks : List Clafer) (i : ℕ) (t d : Option ℕ) (k e : Clafer) → i < length ts → i < length ks → t ≡ get_or ts i d → k ≡ get_or ks i e
    → with_targets (take i ts) (take i ks) ++ with_target t k ∷ [] ≡ with_targets (take (i + 1) ts) (take (i + 1) ks)
targets-more [] ks i t d k e a b p q = absurd (omega (arith, a))
targets-more (s ∷ ts) [] i t d k e a b p q = absurd (omega (arith, b))
targets-more (s ∷ ts) (j ∷ ks) zero t d k e a b p q = ap (λ z. with_target z k ∷ []) p ∙ ap (λ z. with_target s z ∷ []) q
targets-more (s ∷ ts) (j ∷ ks) (suc i) t d k e a b p q =
    let same : suc i + 1 ≡ suc (i + 1) = omega arith in
    ap (λ all. with_target s j ∷ all) (targets-more ts ks i t d k e (omega (arith, a)) (omega (arith, b)) p q)
    ∙ ap (λ n. with_targets (take n (s ∷ ts)) (take n (j ∷ ks))) (sym same)

pub ruleset going_steps = (leads-on)
