use Rattle.std.proofs.Common.{ap, sym, ◌∙◌}
use Rattle.type_checker.specs.Refusals.{model_refusal}
use Rattle.type_checker.proofs.Fitting.{typed}
use Rattle.type_checker.proofs.checking.check.Goals as goal

pub new-requires : goal.new-requires
new-requires c = typed c.args.named c.model.ensures.known (ap model_refusal (sym c.model.ensures.same) ∙ sym c.in_ok-refusal.ensures ∙ c.in-None.is)
