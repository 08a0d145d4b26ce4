-- The module has fewer clafers than the text has bytes, and a refusal of it is the first of the text.
use Rattle.std.proofs.lemmas.Result.{err_from_is_err_and}
use Rattle.model_reader.proofs.Causes.{in_module, in_plain}
use Rattle.model_reader.proofs.Sizes.{few}
use Rattle.model_reader.proofs.texts.plain_text.Goals as goal

pub plain-requires : goal.plain-requires
plain-requires c =
    let is = c.in_ok-items.ensures.spelled in
    let fits = c.clafers_are_few.ensures.declared c.args.text.now is.laid_text.0 is.tokens c.in_ok-items.items is.laid_text.1 is.laid_text.2 is.spelled in
    record { few = few _ _ fits c.requires }

pub returns-in_err-items-clause-refused : goal.returns-in_err-items-clause-refused
returns-in_err-items-clause-refused c =
    let e = err_from_is_err_and c.from_residual.result c.from_residual.ensures.1 in
    rw (e.1, e.2) (in_module _ _ c.in_err-items.ensures.refused)

pub returns-in_err-plain-clause-refused : goal.returns-in_err-plain-clause-refused
returns-in_err-plain-clause-refused c =
    let e = err_from_is_err_and c.from_residual-in_err-plain.result c.from_residual-in_err-plain.ensures.1 in
    rw (e.1, e.2) (in_plain _ c.in_ok-items.items.items _ c.in_ok-items.ensures.spelled c.in_err-plain.ensures.cause)
