use Rattle.std.proofs.Common.{◌≡◌}
use Rattle.integer_bits.specs.Numbers.{resized}
use Rattle.integer_bits.proofs.widths.resize.Given as goal

abbrev pub invariant-loop-at : goal.invariant-loop-at
invariant-loop-at l = l.wires ≡ resized l.at l.a
