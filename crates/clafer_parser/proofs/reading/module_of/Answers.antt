use Rattle.std.proofs.Common.{◌∙◌, ap}
use Rattle.clafer_grammar.specs.declared.machine.Mode.TheVariants as m
use Rattle.clafer_parser.specs.declared.reading.Progress.TheVariants as p
use Rattle.clafer_parser.proofs.reading.module_of.Goals as goal

pub returns-in-Some-clause-ok : goal.returns-in-Some-clause-ok
returns-in-Some-clause-ok c =
    let done = rw c.in-Some.is at c.whole.ensures.some in
    (c.in-Going.state.0, c.in-Going.is ∙ ap (λ mode. p.Going (c.in-Going.state.0, mode)) done)
