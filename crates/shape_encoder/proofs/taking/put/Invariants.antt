use Rattle.std.proofs.Common.{◌≡◌, ℕ, ◌+◌, ◌-◌, length}
use Rattle.set_bits.specs.Reaching.{wire_at}
use Rattle.shape_encoder.proofs.taking.put.Given as goal

abbrev pub invariant-loop-table : goal.invariant-loop-table
invariant-loop-table l = (k : ℕ) → wire_at l.table.items k ≡ wire_at l.fn.table.items k

abbrev pub decreases-loop-table : goal.decreases-loop-table
decreases-loop-table l = (l.slot + 1) - length l.table.items
