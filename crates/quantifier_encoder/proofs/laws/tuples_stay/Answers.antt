use Rattle.quantifier_encoder.proofs.Told.{tuples_kept}
use Rattle.quantifier_encoder.proofs.laws.tuples_stay.Goals as goal

pub returns : goal.returns
returns c = tuples_kept
