-- A text has no more clafers than bytes, and a refusal of its names or its kinds is the first of the text.
use Rattle.std.proofs.Common.{◌≤◌, length, sym, subst}
use Rattle.std.proofs.lemmas.Result.{err_from_is_err_and}
use Rattle.clf_tree.specs.declared.model.Model.{Model}
use Rattle.model_reader.proofs.Causes.{in_kinds}
use Rattle.model_reader.proofs.Sizes.{model_fits, few}
use Rattle.model_reader.proofs.stages.typed_text.Goals as goal

pub check-requires : goal.check-requires
check-requires c = record { few = few _ _ (model_fits c.clafers_are_few.ensures.plain c.args.text.now c.in_ok-named.named c.in_ok-named.ensures.named) c.requires }

pub returns-in_err-typed-clause-refused : goal.returns-in_err-typed-clause-refused
returns-in_err-typed-clause-refused c =
    let e = err_from_is_err_and c.from_residual-in_err-typed.result c.from_residual-in_err-typed.ensures.1 in
    rw (e.1, e.2) (in_kinds _ c.in_ok-named.named _ c.in_ok-named.ensures.named c.in_err-typed.ensures.cause)

pub returns-clause-few : goal.returns-clause-few
returns-clause-few c =
    few _ _
    (subst (λ (m : Model). length m.clafers ≤ length c.args.text.now) (sym c.in_ok-typed.ensures.same) (model_fits c.clafers_are_few.ensures.plain c.args.text.now c.in_ok-named.named c.in_ok-named.ensures.named))
    c.requires
