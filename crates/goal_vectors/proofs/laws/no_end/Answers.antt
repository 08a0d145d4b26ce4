use Rattle.goal_vectors.proofs.Fronts.{more}
use Rattle.goal_vectors.proofs.laws.no_end.Goals as goal

pub returns : goal.returns
returns c = λ model scopes found w gap falls reached outside. more model scopes found w gap falls reached outside
