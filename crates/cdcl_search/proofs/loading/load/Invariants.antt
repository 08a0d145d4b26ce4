use Rattle.std.proofs.Common.{◌≡◌, take, map}
use Rattle.cdcl_search.specs.Derivations.{codes_of}
use Rattle.cdcl_search.proofs.loading.load.Given as goal

abbrev pub invariant-loop-at : goal.invariant-loop-at
invariant-loop-at l = l.arena ≡ map codes_of (take l.at l.clauses.clauses)
