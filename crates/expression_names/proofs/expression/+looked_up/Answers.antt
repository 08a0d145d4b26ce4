use Rattle.std.proofs.Common.{◌≡◌, ◌∙◌}
use Rattle.std.proofs.lemmas.Result.{IfOk-weaker}
use Rattle.expression_names.proofs.Binding.{quantified}
use Rattle.expression_names.proofs.expression.+looked_up.Goals as goal

pub returns-in_ok-body-in-Quant-clause-refused : goal.returns-in_ok-body-in-Quant-clause-refused
returns-in_ok-body-in-Quant-clause-refused t c =
    IfOk-weaker c.quantifier.result _ _
    (λ l e. e
    ∙ quantified c.args.known.now.model.now.clafers c.args.scope.now c.in_ok-inner-in-Quant.inner c.args.expr.now c.in-Quant.word c.in-Quant.disj c.in-Quant.names c.in-Quant.over
    c.in-Quant.body c.get-in-Quant.result.now c.get-in-Quant-2.result.now c.in_ok-over-in-Quant.over.kind c.in_ok-over-in-Quant.over.refused c.in_ok-body-in-Quant.body.refused
    c.in-Quant.is c.get-in-Quant.ensures c.get-in-Quant-2.ensures c.in_ok-over-in-Quant.ensures.refused c.in_ok-over-in-Quant.ensures.kind c.in_ok-inner-in-Quant.ensures.bound
    c.in_ok-body-in-Quant.ensures.refused)
    c.quantifier.ensures.refused
