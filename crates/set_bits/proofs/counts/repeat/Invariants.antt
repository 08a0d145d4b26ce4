use Rattle.std.proofs.Common.{◌≡◌, length}
use Rattle.std.specs.List.{All}
use Rattle.set_bits.proofs.counts.repeat.Given as goal

abbrev pub invariant-loop-at : goal.invariant-loop-at
invariant-loop-at l = record { len : length l.wires ≡ l._at; same : All (λ w. w ≡ l.wire) l.wires }
