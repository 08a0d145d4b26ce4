use Rattle.std.proofs.Common.{◌≡◌, ℕ, ◌+◌, ◌-◌, None, length}
use Rattle.std.specs.Prelude.{slice_index_or}
use Rattle.node_encoder.proofs.tables.put_first.Given as goal

abbrev pub invariant-loop-table : goal.invariant-loop-table
invariant-loop-table l = (k : ℕ) → slice_index_or l.table.items k None ≡ slice_index_or l.fn.table.items k None

abbrev pub decreases-loop-table : goal.decreases-loop-table
decreases-loop-table l = (l.at + 1) - length l.table.items
