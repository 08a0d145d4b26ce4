use Rattle.std.proofs.Common.{◌≡◌, ◌≤◌, ◌*◌, ◌^◌, ℕ, length}
use Rattle.model_weight.specs.Sums.{AreChildrenBelow, children_below}
use Rattle.model_weight.proofs.rooms.child_sums.Given as goal

abbrev pub invariant-loop-clafer : goal.invariant-loop-clafer
invariant-loop-clafer l = record {
  long : length l.sums.items ≡ length l.clafers;
  below : AreChildrenBelow l.clafers l.scopes l.clafer l.sums.items;
  small : (c : ℕ) → children_below l.clafers l.scopes c l.clafer ≤ l.clafer * 2 ^ 32;
}
