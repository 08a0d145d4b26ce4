use Rattle.std.proofs.Common.{◌≡◌, ◌∷◌, map, take}
use Rattle.std.specs.List.{flat_map}
use Rattle.model_evaluator.proofs.binding.longer.Given as goal

abbrev pub invariant-loop-node : goal.invariant-loop-node
invariant-loop-node l = l.all ≡ flat_map (λ x. map (λ t. x ∷ t) l.rests) (take l.node-index l.nodes)
