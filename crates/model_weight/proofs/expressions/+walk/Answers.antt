use Rattle.std.proofs.Common.{ap, ◌∙◌}
use Rattle.clf_tree.specs.Tree.{tree}
use Rattle.model_weight.specs.Measures.{interval_by}
use Rattle.model_weight.proofs.IntervalsByKind.{by_kind}
use Rattle.model_weight.proofs.expressions.+walk.Goals as goal

pub walk-returns-clause-bounds : goal.walk-returns-clause-bounds
walk-returns-clause-bounds t c =
    c.in_ok-part.ensures.bounds
    ∙ ap (λ k. interval_by c.args.rooms.now.clafers.now c.args.rooms.now.scopes.now (tree c.args.expr.now) c.args.within.now k) c.in_ok-part.ensures.kind
    ∙ by_kind c.args.rooms.now.clafers.now c.args.rooms.now.scopes.now (tree c.args.expr.now) c.args.within.now
