use Rattle.std.proofs.Common.{◌≡◌, ℕ, ◌+◌, ◌<◌, List, Some, length, drop, get_or, ap, ◌∙◌, arith}
use Rattle.std.specs.Prelude.{slice_get}
use Rattle.std.specs.List.{flat_map}
use Rattle.refusal_order.specs.Order.{with_refusals}
use Rattle.clf_tree.specs.Tree.{tree}
use Rattle.clafer_desugar.specs.Refusals.{expr_refusals}
use Rattle.clafer_desugar.proofs.Joined.{got, each_left, in_tree-is}
use Rattle.clafer_desugar.proofs.expressions.in_goals.Goals as goal

pub loop-goal-preserved : goal.loop-goal-preserved
loop-goal-preserved c =
    let xs = c.args.goals.now in
    let i = c.loop-goal.goal-index in
    let x = c.goal-item.result in
    let same : c.as_slice-goal-items.result.now ≡ xs = c.as_slice-goal-items.ensures in
    let within : i < length xs = omega (arith, ap length same) in
    let at : slice_get xs i ≡ Some x = got xs i x within (c.goal-item.is ∙ ap (λ ys. get_or ys i x) same) in
    ap (λ r. with_refusals r (flat_map (λ y. expr_refusals (tree y.body)) (drop (i + 1) xs))) (c.in_ok-first.ensures ∙ in_tree-is (tree x.body) c.loop-goal.first)
    ∙ each_left (λ y. expr_refusals (tree y.body)) c.loop-goal.first xs i x at
    ∙ c.loop-goal.invariant
