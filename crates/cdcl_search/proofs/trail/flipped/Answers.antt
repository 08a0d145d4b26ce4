use Rattle.std.proofs.Common.{arith}
use Rattle.cdcl_search.specs.Literals.{flip}
use Rattle.cdcl_search.proofs.trail.flipped.Goals as goal

pub returns-then-literal-eq0 : goal.returns-then-literal-eq0
unfolding flip
returns-then-literal-eq0 c = omega arith

pub returns-else-literal-eq0 : goal.returns-else-literal-eq0
unfolding flip
returns-else-literal-eq0 c = omega arith
