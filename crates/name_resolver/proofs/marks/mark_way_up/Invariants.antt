use Rattle.std.proofs.Common.{◌≡◌, ◌<◌, ◌+◌, ◌||◌, ℕ, false, length, vec_len, get_or}
use Rattle.clf_tree.specs.Lists.{has}
use Rattle.clf_tree.specs.Hierarchy.{is_a, way_up}
use Rattle.name_resolver.proofs.marks.mark_way_up.Given as goal

-- the clafer is there, and what is marked and what is left of the way are what is to be marked
abbrev pub invariant-loop-step : goal.invariant-loop-step
invariant-loop-step l = record {
  there : l.current < length l.clafers;
  sized : vec_len l.marks ≡ length l.clafers;
  decides : (n : ℕ) → n + l._step ≡ length l.clafers → (p : ℕ) → p < length l.clafers
      → (get_or l.marks.items p false || has (way_up l.clafers n l.current) p) ≡ (get_or l.fn.marks.items p false || is_a l.clafers l.from p);
}
