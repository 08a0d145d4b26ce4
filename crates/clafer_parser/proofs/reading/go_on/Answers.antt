use Rattle.clafer_parser.proofs.Steps.{stops_over, stops_left_out, advances}
use Rattle.clafer_parser.proofs.reading.go_on.Goals as goal

pub returns-then-limit-ne0-clause-err : goal.returns-then-limit-ne0-clause-err
returns-then-limit-ne0-clause-err c = stops_over _ _ _ _ c.refused.ensures c.over-limit.ensures c.if-limit-ne0.true tt

pub returns-then-unused-clause-err : goal.returns-then-unused-clause-err
returns-then-unused-clause-err c =
    stops_left_out _ _ _ _ _ c.refused-then-unused.ensures c.over-limit.ensures c.if-limit-ne0.false c.is_left_out-unused.ensures c.if-unused.true tt

pub returns-clause-ok : goal.returns-clause-ok
returns-clause-ok c =
    advances _ _ _ _ _ _ _ _ c.in_ok-progress.ensures c.counted-next.ensures c.over-limit.ensures c.if-limit-ne0.false c.is_left_out-unused.ensures
    c.if-unused.false c.requires.depth c.requires.since
