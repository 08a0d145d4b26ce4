use Rattle.clause_encoder.proofs.Says.{literals_are}
use Rattle.clause_encoder.proofs.encode.literals_of.Goals as goal

pub returns : goal.returns
returns c = literals_are _ _ c.of.ensures c.of-2.ensures
