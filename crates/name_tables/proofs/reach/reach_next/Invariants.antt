use Rattle.std.proofs.Common.{◌≡◌, ◌&&◌, ◌||◌, ℕ, drop, is_some, is_none, true}
use Rattle.clf_tree.specs.Lists.{has}
use Rattle.name_tables.specs.Labels.{label_at, reached_next}
use Rattle.name_tables.proofs.reach.reach_next.Given as goal

-- what is left to reach leads on to what all of them reach
abbrev pub invariant-loop-nearby : goal.invariant-loop-nearby
invariant-loop-nearby l = record {
  reaches : (p : ℕ) → reached_next l.clafers l.heirs (drop l.nearby-index l.last) l.steps p (label_at l.labels p) ≡ reached_next l.clafers l.heirs l.last l.steps p (label_at l.fn.labels p);
  fresh : (p : ℕ) → has l.fresh p ≡ (has l.fn.fresh p || (is_some (label_at l.labels p) && is_none (label_at l.fn.labels p)));
  kept : (p : ℕ) → is_some (label_at l.fn.labels p) ≡ true → is_some (label_at l.labels p) ≡ true;
}
