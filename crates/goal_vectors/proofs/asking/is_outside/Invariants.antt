use Rattle.std.proofs.Common.{◌≡◌, drop}
use Rattle.std.specs.List.{list_all}
use Rattle.clf_tree.specs.Front.{is_better_somewhere}
use Rattle.goal_vectors.proofs.asking.is_outside.Given as goal

-- the found vectors that are left decide
abbrev pub invariant-loop-other : goal.invariant-loop-other
invariant-loop-other l =
    list_all (λ f. is_better_somewhere l.ways.least l.vector.values f.values) (drop l.other-index l.found)
    ≡ list_all (λ f. is_better_somewhere l.ways.least l.vector.values f.values) l.found
