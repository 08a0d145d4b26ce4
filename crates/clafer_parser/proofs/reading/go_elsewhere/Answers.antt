use Rattle.std.proofs.Common.{sym, subst, IfOk, IfErr}
use Rattle.clafer_grammar.specs.Symbols.{symbol}
use Rattle.clafer_parser.specs.declared.reading.Progress.TheVariants as p
use Rattle.clafer_parser.specs.Limits.{WhenRefused}
use Rattle.clafer_parser.specs.Progress.{reader, Advances, Stops}
use Rattle.clafer_parser.proofs.Steps.{stops_elsewhere}
use Rattle.clafer_parser.proofs.reading.go_elsewhere.Goals as goal

pub returns-then-same-clause-ok : goal.returns-then-same-clause-ok
returns-then-same-clause-ok c =
    subst (λ at. IfOk c.stay.result (λ next. Advances (reader (p.Stuck at) c.args.depth c.args.since) (symbol c.args.token.now) next))
    (sym (c.is_same-same.ensures.same c.if-same.true)) c.stay.ensures.ok

pub returns-then-same-clause-err : goal.returns-then-same-clause-err
returns-then-same-clause-err c =
    subst (λ at. IfErr c.stay.result (λ fault. WhenRefused fault (Stops (reader (p.Stuck at) c.args.depth c.args.since) (symbol c.args.token.now))))
    (sym (c.is_same-same.ensures.same c.if-same.true)) c.stay.ensures.err

pub returns-clause-err : goal.returns-clause-err
returns-clause-err c = stops_elsewhere _ _ _ _ _ c.refused.ensures (c.is_same-same.ensures.other c.if-same.false)
