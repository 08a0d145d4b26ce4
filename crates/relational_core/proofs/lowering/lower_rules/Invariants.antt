use Rattle.std.proofs.Common.{◌≡◌, take, map}
use Rattle.clf_tree.specs.Tree.{tree}
use Rattle.clf_tree.specs.Core.{core}
use Rattle.relational_core.specs.Lowered.{lowered_law}
use Rattle.relational_core.proofs.lowering.lower_rules.Given as goal

abbrev pub invariant-loop-rule : goal.invariant-loop-rule
invariant-loop-rule l = map core l.truths ≡ map (λ r. lowered_law l.model.clafers l.scopes (r.context, tree r.body)) (take l.rule-index l.model.rules)
