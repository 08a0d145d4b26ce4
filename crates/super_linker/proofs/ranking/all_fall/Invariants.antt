use Rattle.std.proofs.Common.{ℕ, ◌<◌}
use Rattle.super_linker.specs.Ranks.{FallsAt}
use Rattle.super_linker.proofs.ranking.all_fall.Given as goal

abbrev pub invariant-loop-number : goal.invariant-loop-number
invariant-loop-number l = (c : ℕ) → c < l.number → FallsAt l.clafers l.ranks c
