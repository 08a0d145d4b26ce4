use Rattle.std.proofs.Common.{◌≡◌, take}
use Rattle.cdcl_search.specs.Derivations.{codes_of}
use Rattle.cdcl_search.proofs.loading.codes.Given as goal

abbrev pub invariant-loop-literal : goal.invariant-loop-literal
invariant-loop-literal l = l.codes.items ≡ codes_of (take l.literal-index l.literals)
