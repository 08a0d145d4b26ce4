use Rattle.std.proofs.Common.{◌≡◌, length, ap, sym, ◌∙◌}
use Rattle.std.specs.Prelude.{count_by}
use Rattle.std.specs.List.{list_all}
use Rattle.std.specs.Option.{option_map_or}
use Rattle.clf_tree.specs.Hierarchy.{is_a}
use Rattle.clf_tree.specs.Shape.{allows, instances, is_child_of}
use Rattle.instance_shape.proofs.Counts.{each_filtered}
use Rattle.instance_shape.proofs.multiplicities.meets_times.Goals as goal

pub returns-in-Some : goal.returns-in-Some
returns-in-Some c =
    c.are_met_below.ensures
    ∙ sym
    (each_filtered (λ e. is_a c.args.clafers.now e.node.clafer c.in-Some.parent)
    (λ e. allows c.args.of.now.times (count_by (is_child_of e) (instances c.args.clafers.now c.args.tables.now.entries c.args.clafer))) c.args.tables.now.entries)
    ∙ ap
    (λ o. option_map_or (λ p. list_all (λ e. allows c.args.of.now.times (count_by (is_child_of e) (instances c.args.clafers.now c.args.tables.now.entries c.args.clafer))) (instances c.args.clafers.now c.args.tables.now.entries p)) o
    (allows c.args.of.now.times (length (instances c.args.clafers.now c.args.tables.now.entries c.args.clafer))))
    (sym c.in-Some.is)
