use Rattle.std.proofs.Common.{ap, sym, ◌∙◌}
use Rattle.clf_tree.specs.Shape.{allows}
use Rattle.instance_shape.proofs.Counts.{count_every}
use Rattle.instance_shape.proofs.multiplicities.are_allowed.Goals as goal

pub returns : goal.returns
returns c = c.allows.ensures ∙ ap (allows c.args.times) (c.count_all.ensures ∙ sym (count_every c.args.clafers.now c.args.entries.now c.args.clafer))
