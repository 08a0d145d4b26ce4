use Rattle.instance_tables.proofs.Numbering.{slot_fits}
use Rattle.instance_tables.proofs.slots.Slots.of.Goals as goal

pub returns-then-node-scopes-clause-below : goal.returns-then-node-scopes-clause-below
returns-then-node-scopes-clause-below c =
    let s = c.args.self.now in
    slot_fits s.scopes s.first c.as_slice-scopes.result.now c.as_slice.result.now s.count c.args.node.clafer c.args.node.number c.as_slice-scopes.ensures c.as_slice.ensures s.numbered s.counted c.if-clafer-scopes.true c.if-node-scopes.true
