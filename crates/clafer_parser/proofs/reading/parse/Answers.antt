use Rattle.std.proofs.Common.{subst, IfOk, IfErr}
use Rattle.clafer_grammar.specs.Modules.{SpellsModule}
use Rattle.clafer_grammar.specs.Symbols.{symbols}
use Rattle.clafer_parser.specs.Limits.{AreFine, IsFirstRefusal, WhenRefused}
use Rattle.clafer_parser.proofs.reading.parse.Goals as goal

pub returns-clause-spelled : goal.returns-clause-spelled
returns-clause-spelled c = subst (λ ts. IfOk c.read.result (λ read. SpellsModule (symbols ts) read.items)) c.as_slice-slice.ensures c.read.ensures.spelled

pub returns-clause-fine : goal.returns-clause-fine
returns-clause-fine c = subst (λ ts. IfOk c.read.result (λ read. AreFine (symbols ts))) c.as_slice-slice.ensures c.read.ensures.fine

pub returns-clause-refused : goal.returns-clause-refused
returns-clause-refused c = subst (λ ts. IfErr c.read.result (λ fault. WhenRefused fault (IsFirstRefusal (symbols ts)))) c.as_slice-slice.ensures c.read.ensures.refused
