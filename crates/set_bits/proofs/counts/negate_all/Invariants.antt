use Rattle.std.proofs.Common.{◌≡◌, take, length}
use Rattle.set_bits.specs.Counts.{IsNegated}
use Rattle.set_bits.proofs.counts.negate_all.Given as goal

abbrev pub invariant-loop-at : goal.invariant-loop-at
invariant-loop-at l = record { negated : IsNegated l.fn.circuit (take l.at l.wires) l.circuit l.negated; len : length l.negated ≡ l.at }
