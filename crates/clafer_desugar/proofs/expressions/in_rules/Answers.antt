use Rattle.std.proofs.Common.{◌≡◌, ℕ, ◌+◌, ◌<◌, List, Some, length, drop, get_or, ap, ◌∙◌, arith}
use Rattle.std.specs.Prelude.{slice_get}
use Rattle.std.specs.List.{flat_map}
use Rattle.refusal_order.specs.Order.{with_refusals}
use Rattle.clf_tree.specs.Tree.{tree}
use Rattle.clafer_desugar.specs.Refusals.{expr_refusals}
use Rattle.clafer_desugar.proofs.Joined.{got, each_left, in_tree-is}
use Rattle.clafer_desugar.proofs.expressions.in_rules.Goals as goal

pub loop-rule-preserved : goal.loop-rule-preserved
loop-rule-preserved c =
    let xs = c.args.rules.now in
    let i = c.loop-rule.rule-index in
    let x = c.rule-item.result in
    let same : c.as_slice-rule-items.result.now ≡ xs = c.as_slice-rule-items.ensures in
    let within : i < length xs = omega (arith, ap length same) in
    let at : slice_get xs i ≡ Some x = got xs i x within (c.rule-item.is ∙ ap (λ ys. get_or ys i x) same) in
    ap (λ r. with_refusals r (flat_map (λ y. expr_refusals (tree y.body)) (drop (i + 1) xs))) (c.in_ok-first.ensures ∙ in_tree-is (tree x.body) c.loop-rule.first)
    ∙ each_left (λ y. expr_refusals (tree y.body)) c.loop-rule.first xs i x at
    ∙ c.loop-rule.invariant
