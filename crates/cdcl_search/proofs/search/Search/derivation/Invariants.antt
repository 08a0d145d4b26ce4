use Rattle.std.proofs.Common.{◌≡◌, take}
use Rattle.cdcl_search.proofs.search.Search.derivation.Given as goal

abbrev pub invariant-loop-chain : goal.invariant-loop-chain
invariant-loop-chain l = l.chains ≡ take l.chain-index l.chain-items
