use Rattle.parser_bench.proofs.reading.read.Goals as goal

pub parse-requires : goal.parse-requires
parse-requires c = record { ended = c.laid_tokens_stand_in_order.ensures.ended _ _ _ c.in_ok-tokens.ensures.lexed c.in_ok-laid.ensures.laid }
