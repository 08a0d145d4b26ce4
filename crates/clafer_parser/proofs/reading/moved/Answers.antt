use Rattle.std.proofs.Common.{sym, ◌∙◌}
use Rattle.clafer_parser.specs.Progress.{Moves}
use Rattle.clafer_parser.proofs.reading.moved.Goals as goal

pub returns-in-Some : goal.returns-in-Some
returns-in-Some c = Moves.goes (sym c.in_ok-next.ensures ∙ c.in-Some.is)

pub returns-in-None : goal.returns-in-None
returns-in-None c = Moves.stops (sym c.in_ok-next.ensures ∙ c.in-None.is)
