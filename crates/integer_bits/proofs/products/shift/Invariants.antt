use Rattle.std.proofs.Common.{◌≡◌}
use Rattle.integer_bits.specs.Totals.{copies}
use Rattle.integer_bits.proofs.products.shift.Given as goal

abbrev pub invariant-loop-at : goal.invariant-loop-at
invariant-loop-at l = l.wires ≡ copies l._at l.off
