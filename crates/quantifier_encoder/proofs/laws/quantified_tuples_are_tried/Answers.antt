use Rattle.quantifier_encoder.proofs.Told.{told_by_tuples}
use Rattle.quantifier_encoder.proofs.laws.quantified_tuples_are_tried.Goals as goal

pub returns : goal.returns
returns c = told_by_tuples
