use Rattle.std.proofs.Common.{◌≡◌, map, take, drop}
use Rattle.std.specs.List.{filter_map}
use Rattle.refusal_order.specs.Order.{with_refusals, first_refusal}
use Rattle.expression_names.specs.Models.{rule_tree, looked_rule, rule_refusal}
use Rattle.expression_names.proofs.models.look_up_rules.Given as goal

-- those so far, and what is left leads on to the first refusal of all
abbrev pub invariant-loop-rule : goal.invariant-loop-rule
invariant-loop-rule l = record {
  looked : map rule_tree l.all ≡ map (looked_rule l.model.clafers) (take l.rule-index l.rules);
  first : first_refusal (filter_map (rule_refusal l.model.clafers) l.rules) ≡ with_refusals l.refused (filter_map (rule_refusal l.model.clafers) (drop l.rule-index l.rules));
}
