use Rattle.std.proofs.Common.{◌≡◌, map}
use Rattle.question_space.proofs.verdicts.first_bits.Given as goal
use Rattle.cdcl_search.specs.Progress.{assignment_of}
use Rattle.clf_tree.specs.Lists.{numbers_below}

abbrev pub invariant-loop-at : goal.invariant-loop-at
invariant-loop-at l = l.bits ≡ map (assignment_of l.values) (numbers_below l.at)
