-- The laid tokens end with the end, and a refusal of them is the first of the text.
use Rattle.std.proofs.lemmas.Result.{err_from_is_err_and}
use Rattle.model_reader.proofs.Causes.{when_parsed}
use Rattle.model_reader.proofs.texts.module_of.Goals as goal

pub parse-requires : goal.parse-requires
parse-requires c =
    let ready = c.in_ok-tokens.ensures.laid in
    record { ended = c.laid_tokens_stand_in_order.ensures.ended c.args.text.now ready.0 c.in_ok-tokens.tokens ready.1 ready.2 }

pub returns-in_err-read-clause-refused : goal.returns-in_err-read-clause-refused
returns-in_err-read-clause-refused c =
    let e = err_from_is_err_and c.from_residual-in_err-read.result c.from_residual-in_err-read.ensures.1 in
    rw (e.1, e.2) (when_parsed _ c.in_ok-tokens.tokens _ c.in_ok-tokens.ensures.laid c.in_err-read.ensures.refused)
