use Rattle.std.proofs.Common.{◌≡◌, ◌++◌, replicate}
use Rattle.relational_core.proofs.places.extended.Given as goal

abbrev pub invariant-loop-name : goal.invariant-loop-name
invariant-loop-name l = l.all ≡ l.lists ++ replicate l._name l.more
