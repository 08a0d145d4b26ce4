use Rattle.std.proofs.Common.{◌≡◌, ◌||◌, not, drop}
use Rattle.std.specs.List.{list_all}
use Rattle.clf_tree.specs.Hierarchy.{is_a}
use Rattle.clf_tree.specs.Meaning.{is_true}
use Rattle.clf_tree.specs.Satisfies.{at_instance}
use Rattle.clf_tree.specs.Tree.{tree}
use Rattle.model_evaluator.specs.Computed.{computed}
use Rattle.model_evaluator.proofs.evaluator.all_pass.Given as goal

abbrev pub invariant-loop-entry : goal.invariant-loop-entry
invariant-loop-entry l =
    list_all (λ x. not (is_a l.model.clafers x.node.clafer l.context) || is_true (computed l.model.clafers l.tables.entries (tree l.body) (at_instance l.context x.node))) (drop l.entry-index l.entries)
    ≡ list_all (λ x. not (is_a l.model.clafers x.node.clafer l.context) || is_true (computed l.model.clafers l.tables.entries (tree l.body) (at_instance l.context x.node))) l.entries
