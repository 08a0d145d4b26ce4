use Rattle.std.proofs.Common.{rules, ◌*ℤ◌}
use Rattle.std.specs.Int.{int_min, int_max}
use mir.Syntax.{w128}
use mir.Val.{SFits}
use Rattle.int_widths.proofs.Clamps.{four_least, four_most, plain_least, plain_most, bounds_same, plain_product}
use Rattle.int_widths.proofs.intervals.product.Goals as goal

pub returns : goal.returns
returns c =
    let a = c.args.a in
    let b = c.args.b in
    let p = c.times-low.result in
    let q = c.times-left.result in
    let r = c.times-right.result in
    let s = c.times-high.result in
    let al : SFits w128 a.low = search rules in
    let ah : SFits w128 a.high = search rules in
    let bl : SFits w128 b.low = search rules in
    let bh : SFits w128 b.high = search rules in
    let fp : SFits w128 p = search rules in
    let fq : SFits w128 q = search rules in
    let fr : SFits w128 r = search rules in
    let fs : SFits w128 s = search rules in
    let f1 : SFits w128 c.smaller.result = search rules in
    let f2 : SFits w128 c.smaller-2.result = search rules in
    let f3 : SFits w128 c.smaller-3.result = search rules in
    let g1 : SFits w128 c.larger.result = search rules in
    let g2 : SFits w128 c.larger-2.result = search rules in
    let g3 : SFits w128 c.larger-3.result = search rules in
    bounds_same c.smaller-3.result c.larger-3.result
    (int_min (int_min (a.low *ℤ b.low) (a.low *ℤ b.high)) (int_min (a.high *ℤ b.low) (a.high *ℤ b.high)))
    (int_max (int_max (a.low *ℤ b.low) (a.low *ℤ b.high)) (int_max (a.high *ℤ b.low) (a.high *ℤ b.high))) f3 g3
    (four_least (a.low *ℤ b.low) (a.low *ℤ b.high) (a.high *ℤ b.low) (a.high *ℤ b.high) p q r s c.smaller.result c.smaller-2.result c.smaller-3.result
    (plain_product a.low b.low p al bl c.times-low.ensures) (plain_product a.low b.high q al bh c.times-left.ensures) (plain_product a.high b.low r ah bl c.times-right.ensures) (plain_product a.high b.high s ah bh c.times-high.ensures)
    (plain_least p q c.smaller.result fp fq c.smaller.ensures) (plain_least r s c.smaller-2.result fr fs c.smaller-2.ensures) (plain_least c.smaller.result c.smaller-2.result c.smaller-3.result f1 f2 c.smaller-3.ensures))
    (four_most (a.low *ℤ b.low) (a.low *ℤ b.high) (a.high *ℤ b.low) (a.high *ℤ b.high) p q r s c.larger.result c.larger-2.result c.larger-3.result
    (plain_product a.low b.low p al bl c.times-low.ensures) (plain_product a.low b.high q al bh c.times-left.ensures) (plain_product a.high b.low r ah bl c.times-right.ensures) (plain_product a.high b.high s ah bh c.times-high.ensures)
    (plain_most p q c.larger.result fp fq c.larger.ensures) (plain_most r s c.larger-2.result fr fs c.larger-2.ensures) (plain_most c.larger.result c.larger-2.result c.larger-3.result g1 g2 c.larger-3.ensures))
