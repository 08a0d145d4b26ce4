-- When the integers of a model need no more than 62 bits.
use Rattle.std.specs.Prelude.{ℕ, ◌&&◌, Bool, List, [], Option, None}
use Rattle.std.specs.List.{list_all}
use Rattle.clf_tree.specs.declared.model.Clafer.{Clafer}
use Rattle.clf_tree.specs.declared.model.Rule.{Rule}
use Rattle.clf_tree.specs.declared.model.Goal.{Goal}
use Rattle.clf_tree.specs.declared.model.Model.{Model}
use Rattle.clf_tree.specs.declared.scopes.Scopes.{Scopes}
use Rattle.clf_tree.specs.declared.kind.Within.{Within}
use Rattle.clf_tree.specs.Tree.{Tree, tree}
use Rattle.clf_tree.specs.Numerics.{inside, is_narrow, all_narrow}
use Rattle.clf_tree.specs.Satisfies.{Law, laws_of}

-- the kinds at an instance of the context of a constraint, or at top level
abbrev pub within_context : Option ℕ → Within
within_context context = record { this = context; bound = [] }

-- the parts of a constraint that stand in integer position, and a goal with all such parts
abbrev pub is_narrow_law : List Clafer → Scopes → Law → Bool
is_narrow_law clafers scopes (context, body) = list_all is_narrow (inside clafers scopes body (within_context context))

abbrev pub is_narrow_goal : List Clafer → Scopes → Tree → Bool
is_narrow_goal clafers scopes body = all_narrow clafers scopes body (within_context None)

abbrev pub is_narrow_model : Scopes → Model → Bool
is_narrow_model scopes model = list_all (is_narrow_law model.clafers scopes) (laws_of model) && list_all (λ g. is_narrow_goal model.clafers scopes (tree g.body)) model.goals
