use Rattle.goal_vectors.proofs.Fronts.{whole}
use Rattle.goal_vectors.proofs.laws.front_by_empty.Goals as goal

pub returns : goal.returns
returns c = λ model scopes question points asked same are empty. whole model scopes question points asked same are empty
