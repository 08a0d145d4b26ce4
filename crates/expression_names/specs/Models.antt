-- What the rules and goals of a model become, and the refusals in them.
use Rattle.std.specs.Prelude.{◌≡◌, ℕ, Bool, List, [], ◌++◌, Option, Some, None}
use Rattle.std.specs.List.{filter_map}
use Rattle.clf_base.specs.declared.fault.Span.{Span}
use Rattle.clf_base.specs.declared.fault.Refusal.{Refusal}
use Rattle.clf_base.specs.declared.fault.Fault.{Fault}
use Rattle.clf_base.specs.declared.fault.Fault.TheVariants as fault
use Rattle.refusal_order.specs.Order.{first_refusal}
use Rattle.clf_tree.specs.declared.model.Clafer.{Clafer}
use Rattle.clf_tree.specs.declared.model.Rule.{Rule}
use Rattle.clf_tree.specs.declared.model.Goal.{Goal}
use Rattle.clf_tree.specs.Tree.{Tree, tree}
use Rattle.expression_names.specs.declared.scope.Scope.{Scope}
use Rattle.expression_names.specs.LookedUp.{looked_up, refusal}

-- from a clafer, or at top level, with no variable
abbrev pub from : Option ℕ → Scope
from context = record { names = []; within = record { this = context; bound = [] } }

-- a rule and a goal with their expressions as trees
pub record RuleTree : Type 0 where
  pub context : Option ℕ
  pub body : Tree

pub record GoalTree : Type 0 where
  pub at : Span
  pub least : Bool
  pub body : Tree

abbrev pub rule_tree : Rule → RuleTree
rule_tree r = record { context = r.context; body = tree r.body }

abbrev pub goal_tree : Goal → GoalTree
goal_tree g = record { at = g.at; least = g.least; body = tree g.body }

module _ (clafers : List Clafer) where
  -- a rule is looked up from its context, a goal at top level
  abbrev pub looked_rule : Rule → RuleTree
  looked_rule r = record { context = r.context; body = looked_up clafers (tree r.body) (from r.context) }

  abbrev pub looked_goal : Goal → GoalTree
  looked_goal g = record { at = g.at; least = g.least; body = looked_up clafers (tree g.body) (from None) }

  abbrev pub rule_refusal : Rule → Option Refusal
  rule_refusal r = refusal clafers (tree r.body) (from r.context)

  abbrev pub goal_refusal : Goal → Option Refusal
  goal_refusal g = refusal clafers (tree g.body) (from None)

  -- of the rules, then of the goals
  unfoldable pub name_refusals : List Rule → List Goal → List Refusal
  name_refusals rules goals = filter_map rule_refusal rules ++ filter_map goal_refusal goals

  -- what holds of a fault: a refusal is the first in the expressions, and want of memory says nothing
  abbrev pub Explains : List Rule → List Goal → Fault → Type 0
  Explains rules goals (fault.Refused r) = first_refusal (name_refusals rules goals) ≡ Some r
  Explains rules goals fault.NoMemory = Unit {0}
