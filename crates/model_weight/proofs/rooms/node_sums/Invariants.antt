use Rattle.std.proofs.Common.{◌≡◌, ◌≤◌, ◌*◌, ◌^◌, ℕ, length}
use Rattle.model_weight.specs.Sums.{AreRoomsBelow, room_below}
use Rattle.model_weight.proofs.rooms.node_sums.Given as goal

abbrev pub invariant-loop-clafer : goal.invariant-loop-clafer
invariant-loop-clafer l = record {
  long : length l.sums.items ≡ length l.clafers;
  below : AreRoomsBelow l.clafers l.scopes l.clafer l.sums.items;
  small : (c : ℕ) → room_below l.clafers l.scopes c l.clafer ≤ l.clafer * 2 ^ 32;
}
