use Rattle.std.proofs.Common.{◌≡◌, ◌<◌, ℕ, length, get_or}
use Rattle.scope_table.specs.Largest.{scope_over, told}
use Rattle.scope_table.proofs.largest.next_round.Given as goal

abbrev pub invariant-loop-clafer : goal.invariant-loop-clafer
invariant-loop-clafer l = record {
  long : length l.next.items ≡ l.clafer;
  round : (c : ℕ) → c < l.clafer → get_or l.next.items c 0 ≡ told (scope_over l.clafers l.given (λ d. get_or l.of d 0) c);
}
