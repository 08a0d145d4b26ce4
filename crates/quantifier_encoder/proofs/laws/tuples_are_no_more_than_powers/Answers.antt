use Rattle.quantifier_encoder.proofs.Told.{tuples_few}
use Rattle.quantifier_encoder.proofs.laws.tuples_are_no_more_than_powers.Goals as goal

pub returns : goal.returns
returns c = tuples_few
