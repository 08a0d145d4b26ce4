use Rattle.std.proofs.Common.{◌≡◌, map, take}
use Rattle.node_encoder.proofs.amounts.wires_of.Given as goal

abbrev pub invariant-loop-at : goal.invariant-loop-at
invariant-loop-at l = l.wires ≡ map (λ m. m.here) (take l.at l.set)
