use Rattle.std.proofs.Common.{◌≡◌, take, length}
use Rattle.integer_bits.specs.Steps.{IsMasked}
use Rattle.integer_bits.proofs.totals.mask.Given as goal

abbrev pub invariant-loop-at : goal.invariant-loop-at
invariant-loop-at l = record { masked : IsMasked l.fn.circuit l.here (take l.at l.a) l.circuit l.masked; len : length l.masked ≡ l.at }
