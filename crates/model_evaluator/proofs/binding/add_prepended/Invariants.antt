use Rattle.std.proofs.Common.{◌≡◌, ◌++◌, ◌∷◌, map, take}
use Rattle.model_evaluator.proofs.binding.add_prepended.Given as goal

abbrev pub invariant-loop-rest : goal.invariant-loop-rest
invariant-loop-rest l = l.all ≡ l.initial.all ++ map (λ t. l.first ∷ t) (take l.rest-index l.rests)
