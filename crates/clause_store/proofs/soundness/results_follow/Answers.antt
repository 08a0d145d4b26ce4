use Rattle.clause_store.proofs.ResolutionSound.{results_satisfied}
use Rattle.clause_store.proofs.soundness.results_follow.Goals as goal

pub returns : goal.returns
returns c = results_satisfied
