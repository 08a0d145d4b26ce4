use Rattle.std.proofs.Common.{◌≡◌, ℕ, ◌<◌, ◌≤◌, length, slice_get}
use Rattle.integer_bits.proofs.widths.needed.Given as goal

abbrev pub invariant-loop-at : goal.invariant-loop-at
invariant-loop-at l = record { first : l.start ≤ l.at; within : l.start < length l.a; same : (k : ℕ) → l.start ≤ k → k < l.at → slice_get l.a k ≡ slice_get l.a l.start }
