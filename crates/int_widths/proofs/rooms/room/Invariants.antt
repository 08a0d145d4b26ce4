use Rattle.std.proofs.Common.{◌≡◌, ◌≤◌, ◌*◌, ◌^◌}
use Rattle.int_widths.proofs.ScopeSums.{room_below}
use Rattle.int_widths.proofs.rooms.room.Given as goal

abbrev pub invariant-loop-clafer : goal.invariant-loop-clafer
invariant-loop-clafer l = (l.total ≡ room_below l.clafers l.scopes l.ks l.clafer) × (l.total ≤ l.clafer * 2 ^ 32)
