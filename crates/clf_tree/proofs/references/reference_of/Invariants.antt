use Rattle.std.proofs.Common.{◌≡◌, ℕ, ◌+◌, length}
use Rattle.clf_tree.specs.Hierarchy.{reference_of}
use Rattle.clf_tree.proofs.FirstReference.{first}
use Rattle.clf_tree.proofs.references.reference_of.Given as goal

-- what is left of the way decides
abbrev pub invariant-loop-step : goal.invariant-loop-step
invariant-loop-step l = (n : ℕ) → n + l._step ≡ length l.clafers → first l.clafers n l.current ≡ reference_of l.clafers l.clafer
