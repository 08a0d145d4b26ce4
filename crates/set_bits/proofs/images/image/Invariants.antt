use Rattle.std.proofs.Common.{take, length, ◌≤◌}
use Rattle.set_bits.specs.Reaching.{IsFollowed}
use Rattle.set_bits.proofs.images.image.Given as goal

abbrev pub invariant-loop-at : goal.invariant-loop-at
invariant-loop-at l = record { followed : IsFollowed l.fn.circuit l.from (take l.at l.edges) l.circuit l.reached.items; few : length l.reached.items ≤ 4294967296 }
