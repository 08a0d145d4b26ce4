use Rattle.std.proofs.Common.{◌≡◌, ℕ, ◌+◌, ◌-◌, [], length}
use Rattle.std.specs.Prelude.{slice_index_or}
use Rattle.node_encoder.proofs.tables.add_slot.Given as goal

abbrev pub invariant-loop-alloc : goal.invariant-loop-alloc
invariant-loop-alloc l = (k : ℕ) → slice_index_or l.table.items k [] ≡ slice_index_or l.fn.table.items k []

abbrev pub decreases-loop-alloc : goal.decreases-loop-alloc
decreases-loop-alloc l = (l.place + 1) - length l.table.items
