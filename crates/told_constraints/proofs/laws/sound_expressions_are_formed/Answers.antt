use Rattle.told_constraints.proofs.Forming.{formed}
use Rattle.told_constraints.proofs.laws.sound_expressions_are_formed.Goals as goal

pub returns : goal.returns
returns c = formed
