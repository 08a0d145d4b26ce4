-- What is known of a model that is not refused.
use Rattle.std.proofs.Common.{◌≡◌, ℕ, suc, ◌<◌, ◌≤◌, true, false, cond, Option, Some, None, refl, ap, sym, ◌∙◌, arith, ◌⊎◌, inl, inr}
use Rattle.std.specs.Prelude.{leb, IsTrue}
use Rattle.std.specs.Option.{option_or}
use Rattle.std.proofs.lemmas.Bool.Decides.{leb_tells}
use Rattle.clf_base.specs.declared.fault.Refusal.{Refusal}
use Rattle.clf_tree.specs.declared.model.Model.{Model}
use Rattle.clf_tree.specs.declared.scopes.Scopes.{Scopes}
use Rattle.refusal_order.specs.Order.{refused, FindsFirst}
use Rattle.int_widths.specs.Narrow.{is_narrow_model}
use Rattle.int_widths.specs.Weight.{model_weight}
use Rattle.model_weight.specs.Refusals.{goals_refusal, wide_refusal, weight_refusal, nowhere, refusal}
use Rattle.model_weight.proofs.Narrowness.{narrow_model}

none-of : (o p : Option Refusal) → option_or o p ≡ None → (o ≡ None) × (p ≡ None)
none-of None p h = (refl, h)
none-of (Some r) p h = absurd (some_none h)
  where
    some_none : Some r ≡ None → ⊥
    some_none k = (cc)

not-heavy : (n : ℕ) → weight_refusal n ≡ None → n ≤ 8000000
not-heavy n h = pick (leb_tells (suc 8000000) n)
  where
    heavy : cond true (Some (refused 91 nowhere n)) None ≡ None → ⊥
    heavy k = (cc)

    pick : ((leb (suc 8000000) n ≡ true) × (suc 8000000 ≤ n)) ⊎ ((leb (suc 8000000) n ≡ false) × (n < suc 8000000)) → n ≤ 8000000
    pick (inl k) = absurd (heavy (ap (λ b. cond b (Some (refused 91 nowhere n)) None) (sym k.0) ∙ h))
    pick (inr k) = omega (arith, k.1)

pub light_where : (scopes : Scopes) (m : Model) (n : ℕ) → n ≡ model_weight scopes m → refusal scopes m ≡ None → n ≤ 8000000
light_where scopes m n e h =
    let j = none-of (option_or (goals_refusal m) (wide_refusal scopes m)) (weight_refusal (model_weight scopes m)) h in
    not-heavy n (ap weight_refusal e ∙ j.1)

pub narrow_where : FindsFirst → (scopes : Scopes) (m : Model) → refusal scopes m ≡ None → IsTrue (is_narrow_model scopes m)
narrow_where finds scopes m h =
    let j = none-of (option_or (goals_refusal m) (wide_refusal scopes m)) (weight_refusal (model_weight scopes m)) h in
    narrow_model finds scopes m (none-of (goals_refusal m) (wide_refusal scopes m) j.0).1
