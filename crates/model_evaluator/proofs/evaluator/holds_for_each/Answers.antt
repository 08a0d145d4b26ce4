use Rattle.std.proofs.Common.{◌||◌, not, ap, sym, ◌∙◌}
use Rattle.std.specs.List.{list_all}
use Rattle.clf_tree.specs.Hierarchy.{is_a}
use Rattle.clf_tree.specs.Meaning.{is_true}
use Rattle.clf_tree.specs.Satisfies.{at_instance}
use Rattle.clf_tree.specs.Tree.{tree}
use Rattle.model_evaluator.specs.Computed.{computed}
use Rattle.model_evaluator.proofs.BooleanTests.{each_filtered}
use Rattle.model_evaluator.proofs.evaluator.holds_for_each.Goals as goal

pub returns : goal.returns
returns c =
    c.in_ok-all.ensures
    ∙ ap
    (list_all (λ x. not (is_a c.args.model.now.clafers x.node.clafer c.args.context) || is_true (computed c.args.model.now.clafers c.args.tables.now.entries (tree c.args.body.now) (at_instance c.args.context x.node))))
    c.as_slice.ensures
    ∙ sym
    (each_filtered (λ x. is_a c.args.model.now.clafers x.node.clafer c.args.context)
    (λ x. is_true (computed c.args.model.now.clafers c.args.tables.now.entries (tree c.args.body.now) (at_instance c.args.context x.node))) c.args.tables.now.entries)
