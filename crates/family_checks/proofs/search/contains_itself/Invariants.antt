use Rattle.std.proofs.Common.{◌≡◌, ℕ, ◌+◌, length}
use Rattle.clf_tree.specs.Named.{is_outside, contains_itself}
use Rattle.family_checks.proofs.search.contains_itself.Given as goal

-- what is left of the way decides
abbrev pub invariant-loop-step : goal.invariant-loop-step
invariant-loop-step l = (n : ℕ) → n + l._step ≡ length l.clafers → is_outside l.clafers n l.reached l.clafer ≡ contains_itself l.clafers l.clafer
