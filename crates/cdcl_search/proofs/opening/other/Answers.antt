use Rattle.std.proofs.Common.{◌-◌, length, arith}
use Rattle.cdcl_search.proofs.Members.{Has-at}
use Rattle.cdcl_search.proofs.opening.other.Goals as goal

pub returns-then-literal-clause : goal.returns-then-literal-clause
returns-then-literal-clause c = (Has-at c.args.clause.now (length c.args.clause.now - 1 - c.loop-behind.behind) (omega arith), c.if-literal-clause.true, omega arith)
