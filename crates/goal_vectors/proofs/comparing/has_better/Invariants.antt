use Rattle.std.proofs.Common.{◌≡◌, drop}
use Rattle.clf_tree.specs.Front.{is_better_somewhere}
use Rattle.goal_vectors.proofs.comparing.has_better.Given as goal

-- the goals that are left decide
abbrev pub invariant-loop-at : goal.invariant-loop-at
invariant-loop-at l = is_better_somewhere (drop l.at l.ways) (drop l.at l.a) (drop l.at l.b) ≡ is_better_somewhere l.ways l.a l.b
