use Rattle.std.proofs.Common.{rules, ◌∙◌, ap, pos, ◌*ℤ◌, arith}
use Rattle.std.specs.Int.{int_min, int_max}
use Rattle.clf_tree.specs.Intervals.{clamped}
use mir.Syntax.{w64, w128}
use mir.Val.{SFits}
use Rattle.int_widths.proofs.Clamps.{bounds_same, plain_multiple, widened}
use Rattle.int_widths.proofs.intervals.sum_between.Goals as goal

pub returns : goal.returns
returns c =
    let n = c.args.number in
    let s = c.args.scopes.now in
    let low : SFits w64 s.low = search rules in
    let high : SFits w64 s.high = search rules in
    let f : SFits w128 c.times.result = search rules in
    let g : SFits w128 c.times-2.result = search rules in
    let h : SFits w128 c.smaller.result = search rules in
    let k : SFits w128 c.larger.result = search rules in
    bounds_same c.times.result c.times-2.result (pos n *ℤ int_min (pos 0) s.low) (pos n *ℤ int_max (pos 0) s.high) f g
    (plain_multiple n c.smaller.result c.times.result (omega (arith, c.ranges.number.fits)) h c.times.ensures ∙ ap (λ z. clamped (pos n *ℤ z)) (c.smaller.ensures ∙ ap (int_min (pos 0)) (widened s.low low)))
    (plain_multiple n c.larger.result c.times-2.result (omega (arith, c.ranges.number.fits)) k c.times-2.ensures ∙ ap (λ z. clamped (pos n *ℤ z)) (c.larger.ensures ∙ ap (int_max (pos 0)) (widened s.high high)))
