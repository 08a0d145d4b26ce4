use Rattle.std.proofs.Common.{◌≡◌, ◌&&◌, ◌||◌, ℕ, drop, is_some, is_none, true}
use Rattle.clf_tree.specs.Lists.{has}
use Rattle.name_tables.specs.Labels.{label_at, reached_all}
use Rattle.name_tables.proofs.reach.reach_all.Given as goal

-- what is left to reach leads on to what all of them reach
abbrev pub invariant-loop-child : goal.invariant-loop-child
invariant-loop-child l = record {
  reaches : (p : ℕ) → reached_all l.clafers (drop l.child-index l.children) l.steps l.only p (label_at l.labels p) ≡ reached_all l.clafers l.children l.steps l.only p (label_at l.fn.labels p);
  fresh : (p : ℕ) → has l.fresh p ≡ (has l.fn.fresh p || (is_some (label_at l.labels p) && is_none (label_at l.fn.labels p)));
  kept : (p : ℕ) → is_some (label_at l.fn.labels p) ≡ true → is_some (label_at l.labels p) ≡ true;
}
