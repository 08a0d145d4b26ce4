use Rattle.family_checks.proofs.Outside.{nothing_refused}
use Rattle.family_checks.proofs.containment.in_containment.Goals as goal

pub returns-then-stands_above : goal.returns-then-stands_above
returns-then-stands_above c =
    nothing_refused c.args.clafers.now c.args.heights.now.own.items c.args.heights.now.heirs.items c.deref.result.now c.deref-2.result.now c.args.clafer c.args.first c.args.at
    c.deref.ensures.value c.deref-2.ensures.value c.requires.rise (c.stands_above.ensures c.if-stands_above.true)
