use Rattle.std.proofs.Common.{◌≡◌, drop}
use Rattle.std.specs.List.{list_all}
use Rattle.clf_tree.specs.Tree.{tree}
use Rattle.model_evaluator.specs.Computed.{computed_holds}
use Rattle.model_evaluator.proofs.evaluator.rules_hold.Given as goal

abbrev pub invariant-loop-rule : goal.invariant-loop-rule
invariant-loop-rule l =
    list_all (λ r. computed_holds l.model.clafers l.tables.entries (r.context, tree r.body)) (drop l.rule-index l.rules)
    ≡ list_all (λ r. computed_holds l.model.clafers l.tables.entries (r.context, tree r.body)) l.rules
