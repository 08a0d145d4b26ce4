-- The parts belong together, and a refusal of a stage is the first of the text.
use Rattle.std.proofs.lemmas.Result.{err_from_is_err_and}
use Rattle.model_reader.proofs.Causes.{in_model, in_scopes, in_weight}
use Rattle.model_reader.proofs.Ranges.{in_range}
use Rattle.model_reader.proofs.stages.read_model.Goals as goal

pub returns-in_err-model-clause-refused : goal.returns-in_err-model-clause-refused
returns-in_err-model-clause-refused c =
    let e = err_from_is_err_and c.from_residual.result c.from_residual.ensures.1 in
    rw (e.1, e.2) (in_model _ c.args.given.now _ c.in_err-model.ensures.refused)

pub returns-in_err-scopes-clause-refused : goal.returns-in_err-scopes-clause-refused
returns-in_err-scopes-clause-refused c =
    let e = err_from_is_err_and c.from_residual-in_err-scopes.result c.from_residual-in_err-scopes.ensures.1 in
    rw (e.1, e.2) (in_scopes _ c.args.given.now c.in_ok-model.model _ c.in_ok-model.ensures.typed c.in_err-scopes.ensures.cause)

pub returns-in_err-weight-clause-refused : goal.returns-in_err-weight-clause-refused
returns-in_err-weight-clause-refused c =
    let e = err_from_is_err_and c.from_residual-in_err-weight.result c.from_residual-in_err-weight.ensures.1 in
    rw (e.1, e.2) (in_weight _ c.args.given.now c.in_ok-model.model c.in_ok-scopes.scopes _
    (record { typed = c.in_ok-model.ensures.typed; accepted = c.in_ok-scopes.ensures.accepted; scopes_are = c.in_ok-scopes.ensures.scopes }) c.in_err-weight.ensures.cause)
