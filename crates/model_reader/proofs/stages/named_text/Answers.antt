-- The plain model is written, and a refusal of it or of its names is the first of the text.
use Rattle.std.proofs.lemmas.Result.{err_from_is_err_and}
use Rattle.model_reader.proofs.Causes.{in_names}
use Rattle.model_reader.proofs.Sizes.{plain_fits, few}
use Rattle.model_reader.proofs.Writing.{is_written}
use Rattle.model_reader.proofs.stages.named_text.Goals as goal

pub resolve-requires-clause-few : goal.resolve-requires-clause-few
resolve-requires-clause-few c = few _ _ (plain_fits c.clafers_are_few.ensures.plain c.args.text.now c.in_ok-plain.plain c.in_ok-plain.ensures.plain) c.requires

pub resolve-requires-clause-written : goal.resolve-requires-clause-written
resolve-requires-clause-written c = is_written c.names_are_names.ensures c.modules_are_written.ensures c.args.text.now c.in_ok-plain.plain c.in_ok-plain.ensures.plain

pub returns-in_err-named-clause-refused : goal.returns-in_err-named-clause-refused
returns-in_err-named-clause-refused c =
    let e = err_from_is_err_and c.from_residual-in_err-named.result c.from_residual-in_err-named.ensures.1 in
    rw (e.1, e.2) (in_names _ c.in_ok-plain.plain _ c.in_ok-plain.ensures.plain c.in_err-named.ensures.cause)
