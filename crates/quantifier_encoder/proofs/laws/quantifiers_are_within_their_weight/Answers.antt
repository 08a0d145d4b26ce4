use Rattle.quantifier_encoder.proofs.Weighed.{quantifier_weighed}
use Rattle.quantifier_encoder.proofs.laws.quantifiers_are_within_their_weight.Goals as goal

pub returns : goal.returns
returns c = quantifier_weighed
