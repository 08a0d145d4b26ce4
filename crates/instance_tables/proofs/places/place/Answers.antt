use Rattle.std.proofs.Common.{sym, ap, not, arith}
use Rattle.instance_tables.proofs.Placing.{place_full}
use Rattle.instance_tables.proofs.places.place.Goals as goal

pub returns-else-is_none-clause-placed : goal.returns-else-is_none-clause-placed
returns-else-is_none-clause-placed c = λ entries h.
    place_full c.args.slots.now.scopes entries c.args.places.now.items c.args.entry c.index.result.now c.in-Some.slot
    (sym c.in-Some.ensures.value) (omega (arith, c.in-Some.ensures.below, c.args.places.now.ok.0)) c.index.ensures (ap not c.if-is_none.ensures) h
