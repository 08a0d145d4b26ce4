use Rattle.std.proofs.Common.{ap, sym, ◌∙◌}
use Rattle.std.specs.Prelude.{count_by}
use Rattle.clf_tree.specs.Kinds.{is_child}
use Rattle.clf_tree.specs.Shape.{allows}
use Rattle.instance_shape.proofs.Counts.{count_under}
use Rattle.instance_shape.proofs.multiplicities.allows_group.Goals as goal

pub returns : goal.returns
returns c =
    c.allows.ensures
    ∙ ap (allows c.args.group)
    (c.count_declared.ensures ∙ ap (count_by (λ n. is_child c.args.clafers.now c.args.clafer n.clafer)) c.below.ensures
    ∙ sym (count_under c.args.clafers.now c.args.tables.now.entries c.args.entry.now c.args.clafer))
