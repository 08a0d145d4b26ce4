use Rattle.goal_vectors.proofs.Fronts.{fronts_same}
use Rattle.goal_vectors.proofs.laws.fronts_are_one.Goals as goal

pub returns : goal.returns
returns c = λ model scopes some other f g. fronts_same model scopes some other f g
