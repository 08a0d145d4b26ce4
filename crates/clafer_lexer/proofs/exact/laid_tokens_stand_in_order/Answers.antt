use Rattle.clafer_lexer.proofs.Ascending.{laid_in_order}
use Rattle.clafer_lexer.proofs.Ended.{laid_ended}
use Rattle.clafer_lexer.proofs.exact.laid_tokens_stand_in_order.Goals as goal

pub returns-clause-order : goal.returns-clause-order
returns-clause-order c text tokens out h e = laid_in_order text tokens out h e

pub returns-clause-ended : goal.returns-clause-ended
returns-clause-ended c text tokens out h e = laid_ended text tokens out h e
