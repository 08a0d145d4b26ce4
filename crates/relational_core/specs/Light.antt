-- Relational expressions that are no heavier than what they stand for.
use Rattle.std.specs.Prelude.{Bool, List, nat_le, nat_lt}
use Rattle.clf_tree.specs.declared.model.Clafer.{Clafer}
use Rattle.clf_tree.specs.declared.model.Rule.{Rule}
use Rattle.clf_tree.specs.declared.model.Goal.{Goal}
use Rattle.clf_tree.specs.declared.scopes.Scopes.{Scopes}
use Rattle.clf_tree.specs.declared.core_expr.CoreExpr.{CoreExpr}
use Rattle.clf_tree.specs.Tree.{tree}
use Rattle.clf_tree.specs.Core.{core}
use Rattle.clf_tree.specs.CoreWeights.{core_weight}
use Rattle.int_widths.specs.Weight.{rule_weight, number_weight}

-- a truth is lighter than what its constraint adds to the weight of the model
abbrev pub is_light_truth : List Clafer → Scopes → CoreExpr → Rule → Bool
is_light_truth clafers scopes truth rule = nat_lt (core_weight scopes (core truth)) (rule_weight clafers scopes rule)

-- a number is no heavier than its goal, with its reading
abbrev pub is_light_goal : List Clafer → Scopes → CoreExpr → Goal → Bool
is_light_goal clafers scopes number goal = nat_le (core_weight scopes (core number)) (number_weight clafers scopes (tree goal.body))
