use Rattle.std.proofs.Common.{◌≡◌}
use Rattle.std.specs.List.{flat_map}
use Rattle.clf_tree.specs.Lists.{numbers_below}
use Rattle.clf_tree.specs.Nodes.{scope_of}
use Rattle.set_bits.specs.Fitting.{nodes_below}
use Rattle.instance_encoder.proofs.nodes.all_nodes.Given as goal

abbrev pub invariant-loop-clafer : goal.invariant-loop-clafer
invariant-loop-clafer l = l.slots ≡ flat_map (λ c. nodes_below c (scope_of l.scopes c)) (numbers_below l.clafer)
