use Rattle.std.proofs.Common.{◌∙◌, ap, ◌++◌, ◌∷◌, []}
use Rattle.std.proofs.lemmas.List.{replicate_more}
use Rattle.number_encoder.proofs.values.repeated.Goals as goal

pub loop-step-preserved : goal.loop-step-preserved
loop-step-preserved c = c.in_ok-push.ensures.ok ∙ ap (λ ws. ws ++ c.args.wire ∷ []) c.loop-step.invariant ∙ replicate_more c.loop-step._step c.args.wire
