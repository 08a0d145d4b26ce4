use Rattle.std.proofs.Common.{◌≡◌, [], length, take, drop}
use Rattle.scope_table.specs.Refusals.{given_refusals}
use Rattle.scope_table.specs.Steps.{IsGiven}
use Rattle.scope_table.proofs.given.given_scopes.Given as goal

abbrev pub invariant-loop-place : goal.invariant-loop-place
invariant-loop-place l = record {
  long : length l.table.items ≡ length l.clafers;
  known : IsGiven l.clafers (take l.place l.given) l.table.items;
  left : given_refusals l.clafers [] l.given ≡ given_refusals l.clafers (take l.place l.given) (drop l.place l.given);
}
