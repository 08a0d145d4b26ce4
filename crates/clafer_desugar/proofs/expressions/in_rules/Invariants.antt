use Rattle.std.proofs.Common.{◌≡◌, drop}
use Rattle.refusal_order.specs.Order.{with_refusals}
use Rattle.clafer_desugar.specs.Refusals.{rules_refusals}
use Rattle.clafer_desugar.proofs.expressions.in_rules.Given as goal

-- what is left leads to the same
abbrev pub invariant-loop-rule : goal.invariant-loop-rule
invariant-loop-rule l = with_refusals l.first (rules_refusals (drop l.rule-index l.rules)) ≡ with_refusals l.fn.first (rules_refusals l.rules)
