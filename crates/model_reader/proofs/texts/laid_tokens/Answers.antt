-- A refusal of a stage is the first of the text.
use Rattle.std.proofs.lemmas.Result.{err_from_is_err_and}
use Rattle.model_reader.proofs.Causes.{when_lexed, when_laid}
use Rattle.model_reader.proofs.texts.laid_tokens.Goals as goal

pub returns-in_err-tokens-clause-refused : goal.returns-in_err-tokens-clause-refused
returns-in_err-tokens-clause-refused c =
    let e = err_from_is_err_and c.from_residual.result c.from_residual.ensures.1 in
    rw (e.1, e.2) (when_lexed _ _ c.in_err-tokens.ensures.refused)

pub returns-in_err-laid-clause-refused : goal.returns-in_err-laid-clause-refused
returns-in_err-laid-clause-refused c =
    let e = err_from_is_err_and c.from_residual-in_err-laid.result c.from_residual-in_err-laid.ensures.1 in
    rw (e.1, e.2) (when_laid _ c.in_ok-tokens.tokens _ c.in_ok-tokens.ensures.lexed c.in_err-laid.ensures.refused)
