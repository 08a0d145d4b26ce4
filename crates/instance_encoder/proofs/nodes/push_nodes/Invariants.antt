use Rattle.std.proofs.Common.{◌≡◌, ◌++◌}
use Rattle.set_bits.specs.Fitting.{nodes_below}
use Rattle.instance_encoder.proofs.nodes.push_nodes.Given as goal

abbrev pub invariant-loop-number : goal.invariant-loop-number
invariant-loop-number l = l.slots ≡ l.fn.slots ++ nodes_below l.clafer l.number
