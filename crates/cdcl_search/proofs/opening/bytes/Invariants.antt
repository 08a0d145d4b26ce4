use Rattle.std.proofs.Common.{ℕ, ◌≡◌, length, get_or}
use Rattle.cdcl_search.proofs.opening.bytes.Given as goal

abbrev pub invariant-loop-at : goal.invariant-loop-at
invariant-loop-at l = record {
  len : length l.v.items ≡ l.at;
  zero : (p : ℕ) → get_or l.v.items p 0 ≡ 0;
}
