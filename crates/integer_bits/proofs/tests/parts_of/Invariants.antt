use Rattle.std.proofs.Common.{◌≡◌, ◌+◌, ◌*◌, length}
use Rattle.integer_bits.specs.Totals.{ArePartsOf}
use Rattle.integer_bits.proofs.tests.parts_of.Given as goal

abbrev pub invariant-loop-at : goal.invariant-loop-at
invariant-loop-at l = record { grown : length l.circuit ≡ length l.fn.circuit + 5 * l._at; size : length l.parts ≡ l._at; parts : ArePartsOf l.circuit l.parts }
