use Rattle.std.proofs.Common.{ℕ, ◌≡◌, ◌<◌, length, get_or}
use Rattle.cdcl_search.proofs.analysis.clear.Given as goal

abbrev pub invariant-loop-at : goal.invariant-loop-at
invariant-loop-at l = record {
  zero : (k : ℕ) → k < l.at → get_or l.marks.items k 0 ≡ 0;
  len : length l.marks.items ≡ length l.fn.marks.items;
}
