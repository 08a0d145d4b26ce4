use Rattle.std.proofs.Common.{◌≡◌, ◌&&◌, ◌||◌, ℕ, drop, is_some, is_none, true}
use Rattle.clf_tree.specs.Lists.{has}
use Rattle.name_tables.specs.Labels.{label_at, reached_first}
use Rattle.name_tables.proofs.reach.reach_first.Given as goal

-- what is left to reach leads on to what all of them reach
abbrev pub invariant-loop-clafer : goal.invariant-loop-clafer
invariant-loop-clafer l = record {
  reaches : (p : ℕ) → reached_first l.clafers (drop l.clafer-index l.named) p (label_at l.labels p) ≡ reached_first l.clafers l.named p (label_at l.fn.labels p);
  fresh : (p : ℕ) → has l.fresh p ≡ (has l.fn.fresh p || (is_some (label_at l.labels p) && is_none (label_at l.fn.labels p)));
  kept : (p : ℕ) → is_some (label_at l.fn.labels p) ≡ true → is_some (label_at l.labels p) ≡ true;
}
