use Rattle.model_resolver.proofs.Carried.{contexts_resolved}
use Rattle.model_resolver.proofs.KnownModel.{is_named}
use Rattle.model_resolver.proofs.resolving.with_names.Goals as goal

pub look_up_names-requires-clause-contexts_in : goal.look_up_names-requires-clause-contexts_in
look_up_names-requires-clause-contexts_in c = contexts_resolved c.args.plain.now _ c.requires.clafers c.requires.written.known

pub new-requires-3 : goal.new-requires-3
new-requires-3 c =
    is_named c.leaves_nothing.ensures c.args.plain.now c.requires.written c.args.clafers c.in_ok-names.names.rules c.in_ok-names.names.goals
    c.requires.clafers c.requires.known c.in_ok-names.ensures.accepted c.in_ok-names.ensures.rules c.in_ok-names.ensures.goals
