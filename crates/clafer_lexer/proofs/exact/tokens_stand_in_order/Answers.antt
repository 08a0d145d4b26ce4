use Rattle.clafer_lexer.proofs.Ordered.{lexed_row}
use Rattle.clafer_lexer.proofs.exact.tokens_stand_in_order.Goals as goal

pub returns : goal.returns
returns c text tokens h = lexed_row text tokens h
