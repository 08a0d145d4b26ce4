use Rattle.std.proofs.Common.{ap, ◌++◌, ◌∷◌, [], sym, ◌∙◌}
use Rattle.integer_bits.proofs.Shifting.{copies_more}
use Rattle.integer_bits.proofs.products.shift.Goals as goal

pub loop-at-preserved : goal.loop-at-preserved
loop-at-preserved c = c.in_ok-push.ensures.ok ∙ ap (λ t. t ++ c.args.off ∷ []) c.loop-at.invariant ∙ sym (copies_more c.loop-at._at c.args.off)
