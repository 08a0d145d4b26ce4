use Rattle.std.proofs.Common.{◌≡◌, ℕ, ◌+◌, ◌-◌, length}
use Rattle.shape_encoder.specs.Comparing.{row_at}
use Rattle.shape_encoder.proofs.siblings.grow.Given as goal

abbrev pub invariant-loop-alloc : goal.invariant-loop-alloc
invariant-loop-alloc l = (p : ℕ) → row_at l.rows.items p ≡ row_at l.fn.rows.items p

abbrev pub decreases-loop-alloc : goal.decreases-loop-alloc
decreases-loop-alloc l = (l.parent + 1) - length l.rows.items
