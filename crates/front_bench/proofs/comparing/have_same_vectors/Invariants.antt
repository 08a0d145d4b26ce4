use Rattle.std.proofs.Common.{◌≡◌, take, length}
use Rattle.goal_vectors.specs.Points.{vectors_of}
use Rattle.front_bench.proofs.comparing.have_same_vectors.Given as goal

-- the same vectors so far
abbrev pub invariant-loop-at : goal.invariant-loop-at
invariant-loop-at l = record {
  count : length l.some ≡ length l.other;
  same : vectors_of (take l.at l.some) ≡ vectors_of (take l.at l.other);
}
