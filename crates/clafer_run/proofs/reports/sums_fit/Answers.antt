-- Each value is small, and the points are few.
use Rattle.clafer_run.proofs.Sums.{sums_fit}
use Rattle.clafer_run.proofs.reports.sums_fit.Goals as goal

pub returns : goal.returns
returns c =
    sums_fit c.args.read.now.model c.args.read.now.scopes
    (λ v reached. c.vectors_are_small.ensures c.args.read.now.model c.args.read.now.scopes v
    c.model.ensures.known c.model.ensures.typed c.args.read.now.narrow reached)
