use Rattle.std.proofs.Common.{◌≡◌, None, drop}
use Rattle.model_weight.specs.Capped.{total}
use Rattle.model_weight.specs.Clafers.{light_rule, rules_wide}
use Rattle.model_weight.proofs.model.rules_known.Given as goal

-- what is left leads on to the weight of all, and to the first of all
abbrev pub invariant-loop-rule : goal.invariant-loop-rule
invariant-loop-rule l =
    (total (light_rule l.rooms.clafers.now l.rooms.scopes.now) 0 l.rules ≡ total (light_rule l.rooms.clafers.now l.rooms.scopes.now) l.weight (drop l.rule-index l.rules))
    × (rules_wide l.rooms.clafers.now l.rooms.scopes.now None l.rules ≡ rules_wide l.rooms.clafers.now l.rooms.scopes.now l.wide (drop l.rule-index l.rules))
