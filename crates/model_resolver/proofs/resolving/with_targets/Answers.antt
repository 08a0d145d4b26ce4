use Rattle.model_resolver.proofs.Carried.{parents_linked}
use Rattle.model_resolver.proofs.resolving.with_targets.Goals as goal

pub find_targets-requires-clause-parents_in : goal.find_targets-requires-clause-parents_in
find_targets-requires-clause-parents_in c = parents_linked c.args.plain.now.clafers _ c.requires.linked c.requires.written.known.parents
