use Rattle.std.proofs.Common.{ℕ, ◌≡◌, ◌<◌, ◌≤◌, ◌⊎◌, get_or}
use Rattle.cdcl_search.proofs.propagation.spare_between.Given as goal

abbrev pub invariant-loop-at : goal.invariant-loop-at
invariant-loop-at l = (j : ℕ) → l.from ≤ j → j < l.at → (get_or l.clause j 0 ≡ l.other) ⊎ (get_or l.trail.values.items (get_or l.clause j 0) 0 ≡ 2)
