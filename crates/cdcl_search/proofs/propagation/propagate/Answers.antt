use Rattle.std.proofs.Common.{arith}
use Rattle.cdcl_search.proofs.Watch_steps.{settled_later}
use Rattle.cdcl_search.proofs.propagation.propagate.Goals as goal

pub drain-requires-clause-settled : goal.drain-requires-clause-settled
drain-requires-clause-settled c = settled_later c.args.arena.now c.args.trail.now c.args.watches.now c.requires.state (omega (arith, c.if-len-gt0.true, c.len.ensures, c.args.trail.now.limits.ok))
