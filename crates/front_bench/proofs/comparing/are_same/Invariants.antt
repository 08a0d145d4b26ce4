use Rattle.std.proofs.Common.{◌≡◌, take, length}
use Rattle.front_bench.proofs.comparing.are_same.Given as goal

-- the same so far
abbrev pub invariant-loop-at : goal.invariant-loop-at
invariant-loop-at l = record {
  count : length l.some ≡ length l.other;
  same : take l.at l.some ≡ take l.at l.other;
}
