use Rattle.std.proofs.Common.{◌≡◌, None, drop}
use Rattle.type_checker.specs.Refusals.{rules_refusal}
use Rattle.type_checker.proofs.checking.rules_refusal.Given as goal

-- what is left leads on to the first of all
abbrev pub invariant-loop-rule : goal.invariant-loop-rule
invariant-loop-rule l = rules_refusal l.clafers None l.rules ≡ rules_refusal l.clafers l.first (drop l.rule-index l.rules)
