use Rattle.std.proofs.Common.{None}
use Rattle.super_linker.specs.Supers.{super_refusals}
use Rattle.super_linker.proofs.Refused.{one_more}
use Rattle.super_linker.proofs.cycles.in_clafers.Goals as goal

pub loop-number-preserved : goal.loop-number-preserved
loop-number-preserved c =
    one_more (super_refusals c.args.plain.now) None c.loop-number.first c.in_clafer-first.result c.loop-number.number c.loop-number.invariant c.in_clafer-first.ensures
