use Rattle.std.proofs.Common.{◌≡◌, ◌+◌, ℕ, length}
use Rattle.name_tables.specs.Labels.{label_up, label_below}
use Rattle.name_tables.proofs.ways_down.label_below.Given as goal

-- what is left of the way up leads on to what is known below
abbrev pub invariant-loop-step : goal.invariant-loop-step
invariant-loop-step l = (n : ℕ) → n + l._step ≡ length l.clafers → label_up l.clafers l.labels n l.current l.known ≡ label_below l.clafers l.labels l.clafer
