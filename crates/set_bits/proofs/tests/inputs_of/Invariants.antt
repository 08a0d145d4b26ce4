use Rattle.std.proofs.Common.{◌≡◌, ◌+◌, length}
use Rattle.bool_circuit.specs.Circuit.{AreWiresOf}
use Rattle.set_bits.proofs.tests.inputs_of.Given as goal

abbrev pub invariant-loop-at : goal.invariant-loop-at
invariant-loop-at l = record { grown : length l.circuit ≡ length l.fn.circuit + l._at; size : length l.wires ≡ l._at; wires : AreWiresOf l.circuit l.wires }
