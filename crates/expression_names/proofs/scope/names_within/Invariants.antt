use Rattle.std.proofs.Common.{◌≡◌, ◌++◌, take}
use Rattle.expression_names.proofs.scope.names_within.Given as goal

abbrev pub invariant-loop-title : goal.invariant-loop-title
invariant-loop-title l = l.all ≡ l.names ++ take l.title-index l.more
