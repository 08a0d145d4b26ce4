use Rattle.std.proofs.Common.{◌≡◌, ◌-◌, length, map, drop}
use Rattle.bool_circuit.specs.Circuit.{entry}
use Rattle.integer_bits.specs.Numbers.{integer_of}
use Rattle.instance_decoder.proofs.integers.integer_of.Given as goal

abbrev pub invariant-loop-behind : goal.invariant-loop-behind
invariant-loop-behind l = l.total ≡ integer_of (drop (length l.wires - l.behind) (map (entry l.bits) l.wires))
