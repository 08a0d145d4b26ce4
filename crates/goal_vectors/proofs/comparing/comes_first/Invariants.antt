use Rattle.std.proofs.Common.{◌≡◌, drop}
use Rattle.clf_tree.specs.Front.{before}
use Rattle.goal_vectors.proofs.comparing.comes_first.Given as goal

-- the goals that are left decide
abbrev pub invariant-loop-at : goal.invariant-loop-at
invariant-loop-at l = before (drop l.at l.ways) (drop l.at l.a) (drop l.at l.b) ≡ before l.ways l.a l.b
