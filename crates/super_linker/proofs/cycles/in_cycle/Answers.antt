use Rattle.std.proofs.Common.{◌≤◌, sym, ap, arith}
use Rattle.refusal_order.specs.Order.{with_refusals}
use Rattle.super_linker.specs.Supers.{refused_if}
use Rattle.super_linker.specs.Ranks.{rank_of}
use Rattle.super_linker.proofs.Falling.{not_above_itself}
use Rattle.super_linker.proofs.cycles.in_cycle.Goals as goal

pub returns-then-rank_of-gt0 : goal.returns-then-rank_of-gt0
returns-then-rank_of-gt0 c =
    let ranked : 1 ≤ rank_of c.args.ranks.now c.args.clafer = omega (arith, c.rank_of.ensures, c.if-rank_of-gt0.true) in
    sym (ap (λ b. with_refusals c.args.first (refused_if b 61 c.args.at)) (not_above_itself c.args.clafers.now c.args.ranks.now c.args.clafer c.requires.fall ranked))
