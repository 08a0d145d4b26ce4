use Rattle.std.proofs.Common.{None}
use Rattle.family_checks.specs.Families.{clafer_refusals}
use Rattle.family_checks.proofs.Joined.{one_more, in_one}
use Rattle.family_checks.proofs.refusing.in_clafers.Goals as goal

pub loop-number-preserved : goal.loop-number-preserved
loop-number-preserved c =
    one_more (clafer_refusals c.args.clafers.now) None c.loop-number.first c.in_name-first.result c.loop-number.number c.loop-number.invariant
    (in_one c.args.clafers.now c.loop-number.number c.get-here.result.now c.loop-number.first c.in_ok-contained.contained c.in_reference-referring.result c.in_name-first.result
    c.get-here.ensures c.in_ok-contained.ensures c.in_reference-referring.ensures c.in_name-first.ensures)
