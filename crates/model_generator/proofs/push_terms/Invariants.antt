-- The terms so far.
use Rattle.std.proofs.Common.{◌≡◌, ◌++◌}
use Rattle.model_generator.specs.Generated.{terms}
use Rattle.model_generator.proofs.push_terms.Given as goal

abbrev pub invariant-loop-block : goal.invariant-loop-block
invariant-loop-block l = l.text ≡ l.fn.text ++ terms l.block
