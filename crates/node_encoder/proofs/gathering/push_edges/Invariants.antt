use Rattle.std.proofs.Common.{◌≡◌, ◌++◌, take}
use Rattle.std.specs.List.{filter}
use Rattle.told_constraints.specs.Told.{is_listed}
use Rattle.node_encoder.proofs.gathering.push_edges.Given as goal

abbrev pub invariant-loop-at : goal.invariant-loop-at
invariant-loop-at l = l.found ≡ l.fn.found ++ filter (λ e. is_listed l.layout l.ks e.to) (take l.at l.edges)
