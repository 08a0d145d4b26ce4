use Rattle.std.proofs.Common.{ap, ◌∙◌}
use Rattle.clf_tree.specs.Intervals.{sum_between}
use Rattle.relational_core.specs.Lowered.{kind_interval}
use Rattle.relational_core.proofs.sides.kind_bounds.Goals as goal

pub returns : goal.returns
unfolding kind_interval
returns c = c.sum_between.ensures ∙ ap (λ n. sum_between c.args.clafers.now c.args.scopes.now n) c.kind_room.ensures
