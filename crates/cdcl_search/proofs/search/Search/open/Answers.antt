use Rattle.std.proofs.Common.{map, ap, ◌∙◌}
use Rattle.cdcl_search.specs.Derivations.{clause_of}
use Rattle.cdcl_search.proofs.Progress_steps.{loaded_within, clauses_back}
use Rattle.cdcl_search.proofs.search.Search.open.Goals as goal

pub open-requires-clause-within : goal.open-requires-clause-within
open-requires-clause-within c = rw c.in_ok-arena.ensures.loaded (loaded_within c.args.clauses.now.clauses c.variables.result c.variables.ensures.above)

pub returns-clause-given : goal.returns-clause-given
returns-clause-given c =
    ap (λ xs. map clause_of xs) c.in_ok-engine.ensures.given
    ∙ ap (λ xs. map clause_of xs) c.in_ok-arena.ensures.loaded
    ∙ clauses_back c.args.clauses.now.clauses
