use Rattle.std.proofs.Common.{◌≡◌, ◌++◌, take, map}
use Rattle.space_bench.proofs.choices.chosen_clauses.Given as goal
use Rattle.question_space.specs.Choices.{chosen}
use Rattle.question_space.specs.Posing.{but_last, unit}

abbrev pub invariant-loop-at : goal.invariant-loop-at
invariant-loop-at l = l.kept.clauses ≡ but_last l.clauses.clauses ++ map unit (chosen l.flags (take l.at l.parts))
