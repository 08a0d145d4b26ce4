use Rattle.goal_vectors.proofs.Vectors.{carries}
use Rattle.goal_vectors.proofs.laws.carries.Goals as goal

pub returns : goal.returns
returns c = λ ways u v f e p q. carries ways u v f e p q
