use Rattle.std.proofs.Common.{◌≡◌, take}
use Rattle.space_bench.proofs.choices.all_but_last.Given as goal

abbrev pub invariant-loop-at : goal.invariant-loop-at
invariant-loop-at l = l.kept.clauses ≡ take l.at l.clauses.clauses
