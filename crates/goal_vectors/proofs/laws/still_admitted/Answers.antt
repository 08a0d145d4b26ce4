use Rattle.goal_vectors.proofs.Fronts.{still}
use Rattle.goal_vectors.proofs.laws.still_admitted.Goals as goal

pub returns : goal.returns
returns c = λ model scopes found v all best out. still model scopes found v all best out
