use Rattle.std.proofs.Common.{◌≡◌, ◌+◌, ◌++◌, ℕ}
use Rattle.name_tables.specs.Labels.{way_down}
use Rattle.name_tables.proofs.ways_down.way_down.Given as goal

-- with what is left it is the whole way
abbrev pub invariant-loop-step : goal.invariant-loop-step
invariant-loop-step l = (n : ℕ) → n + l._step ≡ l.steps → l.way ++ way_down l.clafers l.labels n l.current ≡ way_down l.clafers l.labels l.steps l.clafer
