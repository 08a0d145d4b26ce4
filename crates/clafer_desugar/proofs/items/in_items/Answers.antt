use Rattle.std.proofs.Common.{◌≡◌, ℕ, ◌+◌, ◌<◌, true, false, List, Some, length, drop, get_or, ap, ◌∙◌, arith}
use Rattle.std.specs.Prelude.{slice_get}
use Rattle.std.specs.List.{flat_map}
use Rattle.refusal_order.specs.Order.{with_refusals}
use Rattle.clafer_desugar.specs.Refusals.{item_refusals}
use Rattle.clafer_desugar.proofs.Joined.{got, each_left}
use Rattle.clafer_desugar.proofs.items.in_items.Goals as goal

pub loop-item-preserved : goal.loop-item-preserved
loop-item-preserved c =
    let xs = c.args.items.now in
    let i = c.loop-item.item-index in
    let x = c.item-item.result in
    let same : c.as_slice-item-items.result.now ≡ xs = c.as_slice-item-items.ensures in
    let within : i < length xs = omega (arith, ap length same) in
    let at : slice_get xs i ≡ Some x = got xs i x within (c.item-item.is ∙ ap (λ ys. get_or ys i x) same) in
    ap (λ r. with_refusals r (flat_map (λ y. item_refusals y false) (drop (i + 1) xs))) c.in_item-first.ensures ∙ each_left (λ y. item_refusals y false) c.loop-item.first xs i x at ∙ c.loop-item.invariant
