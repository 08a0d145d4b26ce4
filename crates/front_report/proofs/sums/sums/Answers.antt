-- With the sum of one goal more.
use Rattle.std.proofs.Common.{◌++◌, List, [], ◌∷◌, sym, ◌∙◌, ap, arith, rules}
use Rattle.std.specs.Prelude.{ℤ, FitsSigned}
use Rattle.std.specs.Int.{w128}
use Rattle.std.proofs.Math.Facts.{to_z-of_z}
use Rattle.std.proofs.lemmas.List.FromFn.{map-range_with_len_more}
use Rattle.front_report.specs.Summary.{sum_at}
use Rattle.front_report.proofs.sums.sums.Goals as goal

pub loop-goal-preserved : goal.loop-goal-preserved
loop-goal-preserved c =
    let sum = sum_at c.args.points.now in
    let fits : FitsSigned w128 c.sum_at.result = search rules in
    let kept = to_z-of_z fits in
    c.in_ok-push.ensures.ok
    ∙ ap (λ (z : ℤ). c.loop-goal.values ++ z ∷ []) (kept ∙ c.sum_at.ensures)
    ∙ ap (λ (zs : List ℤ). zs ++ sum c.loop-goal.goal ∷ []) c.loop-goal.invariant
    ∙ sym (map-range_with_len_more sum 0 c.loop-goal.goal c.loop-goal.goal (omega arith))
