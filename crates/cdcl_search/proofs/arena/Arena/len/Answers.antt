use Rattle.std.proofs.Common.{rules}
use Rattle.cdcl_search.proofs.Arena_steps.{length-cut}
use Rattle.cdcl_search.proofs.arena.Arena.len.Goals as goal

pub returns : goal.returns
returns c = rw (← c.self.view_is) (rw (length-cut c.self.inside.pool.items 0 c.self.inside.ends.items) (search rules))
