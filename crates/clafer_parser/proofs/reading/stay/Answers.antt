use Rattle.std.proofs.Common.{refl}
use Rattle.clafer_parser.specs.Progress.{Moves}
use Rattle.clafer_parser.proofs.Steps.{stops_over, stops_left_out, advances}
use Rattle.clafer_parser.proofs.reading.stay.Goals as goal

pub returns-then-limit-ne0-clause-err : goal.returns-then-limit-ne0-clause-err
returns-then-limit-ne0-clause-err c = stops_over _ _ _ _ c.refused.ensures c.over-limit.ensures c.if-limit-ne0.true refl

pub returns-then-unused-clause-err : goal.returns-then-unused-clause-err
returns-then-unused-clause-err c =
    stops_left_out _ _ _ _ _ c.refused-then-unused.ensures c.over-limit.ensures c.if-limit-ne0.false c.is_left_out-unused.ensures c.if-unused.true refl

pub returns-clause-ok : goal.returns-clause-ok
returns-clause-ok c =
    advances _ _ _ _ _ _ _ _ Moves.stays c.counted-next.ensures c.over-limit.ensures c.if-limit-ne0.false c.is_left_out-unused.ensures
    c.if-unused.false c.requires.depth c.requires.since
