use Rattle.std.proofs.Common.{◌≡◌, ◌<◌, ◌-◌, ℕ, length, get_or}
use Rattle.clf_tree.specs.Hierarchy.{way_up, with_supers}
use Rattle.model_weight.specs.Sums.{added}
use Rattle.model_weight.proofs.rooms.add_above.Given as goal

-- what is left of the way up leads on to what the whole way adds
abbrev pub invariant-loop-step : goal.invariant-loop-step
invariant-loop-step l = record {
  there : l.current < length l.clafers;
  long : length l.sums ≡ length l.clafers;
  left : (c : ℕ) → added (way_up l.clafers (length l.clafers - l._step) l.current) l.more c (get_or l.sums c 0) ≡ added (with_supers l.clafers l.clafer) l.more c (get_or l.initial.sums c 0);
}
