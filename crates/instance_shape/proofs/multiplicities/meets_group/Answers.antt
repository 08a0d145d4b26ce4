use Rattle.std.proofs.Common.{◌&&◌, false, sym, ◌∙◌}
use Rattle.std.specs.Prelude.{◌==◌, count_by}
use Rattle.std.specs.Option.{option_map_or}
use Rattle.clf_tree.specs.Hierarchy.{is_a, parent_of}
use Rattle.clf_tree.specs.Shape.{allows, is_child_of}
use Rattle.instance_shape.proofs.Counts.{each_filtered}
use Rattle.instance_shape.proofs.multiplicities.meets_group.Goals as goal

pub returns : goal.returns
returns c =
    c.are_groups_met.ensures
    ∙ sym
    (each_filtered (λ e. is_a c.args.clafers.now e.node.clafer c.args.clafer)
    (λ e. allows c.args.of.now.group (count_by (λ x. is_child_of e x && option_map_or (λ p. p == c.args.clafer) (parent_of c.args.clafers.now x.node.clafer) false) c.args.tables.now.entries))
    c.args.tables.now.entries)
