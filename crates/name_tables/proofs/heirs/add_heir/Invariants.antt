use Rattle.std.proofs.Common.{◌≡◌, ◌<◌, ◌+◌, ◌||◌, ◌&&◌, ◌==◌, ℕ, [], length, vec_len, get_or}
use Rattle.clf_tree.specs.Lists.{has}
use Rattle.clf_tree.specs.Hierarchy.{is_a, way_up}
use Rattle.name_tables.proofs.heirs.add_heir.Given as goal

-- the clafer is there, and what has the heir and what is left of the way are what is to have it
abbrev pub invariant-loop-step : goal.invariant-loop-step
invariant-loop-step l = record {
  there : l.current < length l.clafers;
  sized : vec_len l.heirs ≡ length l.clafers;
  decides : (n : ℕ) → n + l._step ≡ length l.clafers → (p m : ℕ)
      → (has (get_or l.heirs.items p []) m || (has (way_up l.clafers n l.current) p && m == l.heir)) ≡ (has (get_or l.fn.heirs.items p []) m || (is_a l.clafers l.heir p && m == l.heir));
}
