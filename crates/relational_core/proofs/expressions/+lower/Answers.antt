use Rattle.std.proofs.Common.{ap, ◌∙◌}
use Rattle.clf_tree.specs.Tree.{tree}
use Rattle.relational_core.specs.Choices.{interval_by}
use Rattle.relational_core.proofs.IntervalsByKind.{by_kind}
use Rattle.relational_core.proofs.expressions.+lower.Goals as goal

pub lower_expr-returns-clause-bounds : goal.lower_expr-returns-clause-bounds
lower_expr-returns-clause-bounds t c =
    c.in_ok-side.ensures.bounds
    ∙ ap (λ k. interval_by c.args.clafers.now c.args.scopes.now (tree c.args.expr.now) c.args.place.now.within k) c.in_ok-side.ensures.kind
    ∙ by_kind c.args.clafers.now c.args.scopes.now (tree c.args.expr.now) c.args.place.now.within
