use Rattle.std.proofs.Common.{◌≡◌, ◌++◌, replicate}
use Rattle.model_evaluator.proofs.kinds_at.bind_kinds.Given as goal

abbrev pub invariant-loop-name : goal.invariant-loop-name
invariant-loop-name l = l.bound ≡ l.within.bound ++ replicate l._name l.ks
