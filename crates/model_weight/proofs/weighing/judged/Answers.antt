use Rattle.std.proofs.Common.{ap, ◌∙◌}
use Rattle.std.specs.Option.{option_or}
use Rattle.model_weight.specs.Clafers.{light_model, wide_model}
use Rattle.model_weight.specs.Refusals.{goals_refusal, wide_refusal, weight_refusal}
use Rattle.model_weight.proofs.LightLaw.{model_weighs}
use Rattle.model_weight.proofs.WideLaw.{model_wide}
use Rattle.model_weight.proofs.weighing.judged.Goals as goal

pub returns-clause-weight : goal.returns-clause-weight
returns-clause-weight c =
    let s = c.args.scopes.now in
    c.in_ok-known.ensures.weight ∙ ap (light_model s) c.model-plan.ensures.same ∙ model_weighs s c.args.model.now

pub returns-clause-refusal : goal.returns-clause-refusal
returns-clause-refusal c =
    let s = c.args.scopes.now in
    let m = c.args.model.now in
    let k = c.in_ok-known.known in
    c.refusal_of-refusal.ensures
    ∙ ap (λ p. option_or (option_or (goals_refusal p) k.wide) (weight_refusal k.weight)) c.model-plan.ensures.same
    ∙ ap (λ o. option_or (option_or (goals_refusal m) o) (weight_refusal k.weight)) (c.in_ok-known.ensures.wide ∙ ap (wide_model s) c.model-plan.ensures.same ∙ model_wide s m)
    ∙ ap (λ n. option_or (option_or (goals_refusal m) (wide_refusal s m)) (weight_refusal n)) (c.in_ok-known.ensures.weight ∙ ap (light_model s) c.model-plan.ensures.same ∙ model_weighs s m)
