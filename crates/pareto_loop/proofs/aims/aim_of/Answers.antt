use Rattle.std.proofs.Common.{◌≡◌, false, List, sym, subst, ℤ}
use Rattle.clf_tree.specs.Front.{is_better_somewhere}
use Rattle.goal_vectors.proofs.Vectors.{same_not_better}
use Rattle.pareto_loop.proofs.aims.aim_of.Goals as goal

pub returns-clause-no_worse : goal.returns-clause-no_worse
returns-clause-no_worse c =
    subst (λ (v : List ℤ). is_better_somewhere c.args.ways.now.least c.args.best.now.values v ≡ false) (sym c.in_ok-values-2.ensures)
    (same_not_better c.args.ways.now.least c.args.best.now.values)
