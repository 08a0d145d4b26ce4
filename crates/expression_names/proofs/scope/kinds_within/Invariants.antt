use Rattle.std.proofs.Common.{◌≡◌, ◌++◌, take}
use Rattle.std.specs.Prelude.{replicate}
use Rattle.expression_names.proofs.scope.kinds_within.Given as goal

abbrev pub invariant-loop-kind : goal.invariant-loop-kind
invariant-loop-kind l = l.bound ≡ take l.kind-index l.within.bound

abbrev pub invariant-loop-name : goal.invariant-loop-name
invariant-loop-name l = l.bound ≡ l.within.bound ++ replicate l._name l.ks
