use Rattle.std.proofs.Common.{◌≡◌, ℕ, ◌+◌, length}
use Rattle.clf_tree.specs.Nodes.{ends_within}
use Rattle.instance_shape.proofs.trees.ends.Given as goal

abbrev pub invariant-loop-step : goal.invariant-loop-step
invariant-loop-step l = (n : ℕ) → n + l._step ≡ length l.tables.entries → ends_within n l.tables.entries l.current ≡ ends_within (length l.tables.entries) l.tables.entries l.fn.from
