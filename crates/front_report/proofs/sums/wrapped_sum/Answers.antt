-- With the value of one point more.
use Rattle.std.proofs.Common.{◌+◌, drop, map, sym, ◌∙◌, ap, to_z, rules}
use Rattle.std.specs.Prelude.{ℤ, ◌+ℤ◌, FitsSigned}
use Rattle.std.specs.Int.{int_wrap, w128}
use Rattle.clf_tree.specs.Meaning.{total}
use Rattle.front_report.specs.Summary.{value_at, sum_at}
use Rattle.front_report.proofs.Totals.{bits_more, total_left}
use Rattle.front_report.proofs.sums.wrapped_sum.Goals as goal

pub loop-point-preserved : goal.loop-point-preserved
loop-point-preserved c =
    let points = c.args.points.now in
    let at = c.loop-point.point-index in
    let value = value_at c.args.goal in
    let rest = total (map value (drop (at + 1) points)) in
    let so_far = to_z w128 c.loop-point.sum-bits in
    let fits : FitsSigned w128 c.value_at-sum.result = search rules in
    let left = total_left value points at c.point-item.result c.loop-point-test.true c.point-item.is in
    bits_more c.loop-point.sum-bits c.value_at-sum.result rest (int_wrap w128 (sum_at points c.args.goal)) c.loop-point.auto.sum-fits fits
    (ap (λ (z : ℤ). int_wrap w128 (so_far +ℤ (z +ℤ rest))) c.value_at-sum.ensures ∙ ap (λ (z : ℤ). int_wrap w128 (so_far +ℤ z)) (sym left)
    ∙ c.loop-point.invariant)
