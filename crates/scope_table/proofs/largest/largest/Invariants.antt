use Rattle.std.proofs.Common.{◌≡◌, length}
use Rattle.scope_table.proofs.Rounds.{AreAfter}
use Rattle.scope_table.proofs.largest.largest.Given as goal

abbrev pub invariant-loop-round : goal.invariant-loop-round
invariant-loop-round l = record {
  long : length l.of.items ≡ length l.clafers;
  after : AreAfter l.clafers l.given l._round l.of.items;
}
