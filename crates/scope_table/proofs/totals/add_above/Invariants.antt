use Rattle.std.proofs.Common.{◌≡◌, ◌<◌, ◌-◌, ℕ, length, get_or}
use Rattle.clf_tree.specs.Hierarchy.{way_up, with_supers}
use Rattle.scope_table.specs.Steps.{added}
use Rattle.scope_table.proofs.totals.add_above.Given as goal

abbrev pub invariant-loop-step : goal.invariant-loop-step
invariant-loop-step l = record {
  there : l.current < length l.clafers;
  long : length l.totals ≡ length l.clafers;
  left : (d : ℕ) → added (way_up l.clafers (length l.clafers - l._step) l.current) l.more d (get_or l.totals d 0) ≡ added (with_supers l.clafers l.clafer) l.more d (get_or l.initial.totals d 0);
}
