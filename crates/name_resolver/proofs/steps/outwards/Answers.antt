use Rattle.std.proofs.Common.{suc, ap, ◌∙◌, arith}
use Rattle.clf_tree.specs.Tree.{Tree}
use Rattle.name_resolver.specs.Steps.{outwards}
use Rattle.name_resolver.proofs.steps.outwards.Goals as goal

pub loop-step-preserved : goal.loop-step-preserved
loop-step-preserved c = λ n e. ap (λ (t : Tree). outwards c.args.at n t) c.in_ok-expr.ensures ∙ c.loop-step.invariant (suc n) (omega (arith, e))

pub returns : goal.returns
returns c = c.loop-step.invariant 0 (omega (arith, c.loop-step-test.false))
