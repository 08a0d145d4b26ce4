use Rattle.goal_vectors.proofs.Fronts.{optimal}
use Rattle.goal_vectors.proofs.laws.optimal_by_empty.Goals as goal

pub returns : goal.returns
returns c = λ model scopes question best asked reached outside empty. optimal model scopes question best asked reached outside empty
