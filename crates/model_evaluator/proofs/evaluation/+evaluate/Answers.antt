use Rattle.std.proofs.Common.{◌++◌, ap, sym, ◌∙◌}
use Rattle.clf_tree.specs.Meaning.{is_true}
use Rattle.clf_tree.specs.Tree.{tree}
use Rattle.model_evaluator.specs.Computed.{computed}
use Rattle.model_evaluator.proofs.Settled.{quantifier_settled}
use Rattle.model_evaluator.proofs.evaluation.+evaluate.Goals as goal

pub asks-returns : goal.asks-returns
asks-returns t c =
    c.settled.ensures
    ∙ quantifier_settled c.args.word
    (λ inner ns. is_true (computed c.args.model.now.clafers c.args.tables.now.entries (tree c.args.body.now) (record { within = inner; this = c.args.place.now.this; bound = c.args.place.now.bound ++ ns })))
    c.args.within.now c.args.tuples.now c.looks_for.result c.enough.result c.in_ok-found.found c.looks_for.ensures c.enough.ensures c.in_ok-found.ensures.fewer c.in_ok-found.ensures.reached
