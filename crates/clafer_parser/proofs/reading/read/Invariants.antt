use Rattle.std.proofs.Common.{take}
use Rattle.clafer_grammar.specs.Symbols.{symbols}
use Rattle.clafer_parser.proofs.Runs.{Holds}
use Rattle.clafer_parser.proofs.reading.read.Given as goal

abbrev pub invariant-loop-token : goal.invariant-loop-token
invariant-loop-token l = Holds (symbols (take l.token-index l.tokens)) l.reader
