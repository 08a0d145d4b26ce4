use Rattle.family_checks.proofs.Outside.{stays_at}
use Rattle.family_checks.proofs.containment.is_contained.Goals as goal

pub returns-then-stands_above : goal.returns-then-stands_above
returns-then-stands_above c =
    stays_at c.args.clafers.now c.looked_at-heights.result.own.items c.looked_at-heights.result.heirs.items c.deref.result.now c.deref-2.result.now c.args.clafer
    c.deref.ensures.value c.deref-2.ensures.value c.looked_at-heights.ensures (c.stands_above.ensures c.if-stands_above.true)
