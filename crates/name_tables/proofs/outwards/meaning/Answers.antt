use Rattle.std.proofs.Common.{length}
use Rattle.name_resolver.proofs.MeansOnce.{there, means_one}
use Rattle.name_tables.proofs.outwards.meaning.Goals as goal

pub returns-clause-is_one : goal.returns-clause-is_one
returns-clause-is_one c =
    let clafers = c.args.clafers.now in
    (means_one clafers c.args.context c.args.name.now c.in_ok-found.found (there (length clafers) c.args.context c.requires.context_in) c.requires.parents_first).0 c.in_ok-found.ensures
