-- The model of a plain model, its names looked up, and the first refusal on the way.
use Rattle.std.specs.Prelude.{◌≡◌, List, map, Option, Some, IsTrue}
use Rattle.std.specs.Option.{option_or}
use Rattle.std.specs.List.{list_all}
use Rattle.clf_base.specs.declared.fault.Refusal.{Refusal}
use Rattle.clf_base.specs.declared.fault.Fault.{Fault}
use Rattle.clf_base.specs.declared.fault.Fault.TheVariants as fault
use Rattle.refusal_order.specs.Order.{first_refusal}
use Rattle.clf_tree.specs.declared.model.Clafer.{Clafer}
use Rattle.clf_tree.specs.declared.model.Model.{Model}
use Rattle.clf_tree.specs.declared.plain.PlainClafer.{PlainClafer}
use Rattle.clf_tree.specs.declared.plain.Plain.{Plain}
use Rattle.clf_tree.specs.Named.{has_name}
use Rattle.super_linker.specs.Supers.{linked, InheritsWell}
use Rattle.family_checks.specs.Families.{parts_refusal, IsFamily}
use Rattle.plain_models.specs.Known.{StandsWell}
use Rattle.target_finder.specs.Targets.{targeted, target_refusals}
use Rattle.expression_names.specs.Models.{rule_tree, goal_tree, looked_rule, looked_goal, name_refusals}

-- the clafers with their supers, then with their targets
abbrev pub resolved_clafers : List PlainClafer → List Clafer
resolved_clafers ks = targeted (linked ks) ks

-- the model of a plain model
pub record IsResolved (plain : Plain) (model : Model) : Type 0 where
  pub clafers : model.clafers ≡ resolved_clafers plain.clafers
  pub rules : map rule_tree model.rules ≡ map (looked_rule model.clafers) plain.rules
  pub goals : map goal_tree model.goals ≡ map (looked_goal model.clafers) plain.goals

-- what is refused of inheritance, then of containment, comes first, then what is refused of targets
abbrev pub clafers_refusal : List PlainClafer → Option Refusal
clafers_refusal ks = option_or (parts_refusal ks) (first_refusal (target_refusals (linked ks) ks))

-- then what is refused in expressions
abbrev pub refusal_of : Plain → Option Refusal
refusal_of plain = option_or (clafers_refusal plain.clafers) (first_refusal (name_refusals (resolved_clafers plain.clafers) plain.rules plain.goals))

-- what is known of clafers of which nothing is refused
pub record IsModel (clafers : List Clafer) : Type 0 where
  pub inherits : InheritsWell clafers
  pub family : IsFamily clafers
  pub stands : StandsWell clafers
  pub named : IsTrue (list_all has_name clafers)

-- what holds of a fault: a refusal is the first, and want of memory says nothing
abbrev pub ExplainsClafers : List PlainClafer → Fault → Type 0
ExplainsClafers ks (fault.Refused r) = clafers_refusal ks ≡ Some r
ExplainsClafers ks fault.NoMemory = Unit {0}

abbrev pub Explains : Plain → Fault → Type 0
Explains plain (fault.Refused r) = refusal_of plain ≡ Some r
Explains plain fault.NoMemory = Unit {0}
