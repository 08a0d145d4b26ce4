use Rattle.std.proofs.Common.{arith}
use Rattle.clause_store.proofs.Bounds.{below_last}
use Rattle.clause_store.proofs.clause.variables_of.Goals as goal

pub returns-in-Some-clause-above : goal.returns-in-Some-clause-above
returns-in-Some-clause-above c = below_last c.args.literals.now _ _ c.requires (omega arith)
