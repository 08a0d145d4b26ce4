use Rattle.std.proofs.Common.{◌≡◌, drop}
use Rattle.std.specs.Option.{option_or}
use Rattle.expression_names.specs.Scopes.{variable}
use Rattle.expression_names.proofs.scope.variable.Given as goal

-- what is left decides, else the one found so far
abbrev pub invariant-loop-at : goal.invariant-loop-at
invariant-loop-at l = variable l.names l.name ≡ option_or (variable (drop l.at l.names) l.name) l.found
