-- What look-up leaves of an expression.
use Rattle.std.specs.Prelude.{◌≡◌, ℕ, List, [], length, Option, None, IsTrue}
use Rattle.clf_tree.specs.declared.model.Clafer.{Clafer}
use Rattle.clf_tree.specs.Hierarchy.{is_below}
use Rattle.clf_tree.specs.Named.{each, follows_parent, is_looked_up}
use Rattle.clf_tree.specs.Tree.{Tree}
use Rattle.plain_models.specs.Written.{is_written}
use Rattle.expression_names.specs.LookedUp.{looked_up, refusal}
use Rattle.expression_names.specs.Models.{from}

-- where nothing is refused in an expression, no name is left in what it becomes, and each number in it is of the model
abbrev pub LeavesNothing : Type 0
LeavesNothing = (clafers : List Clafer) (context : Option ℕ) (t : Tree) → IsTrue (each clafers (follows_parent clafers)) → IsTrue (is_below (length clafers) context)
    → IsTrue (is_written t) → refusal clafers t (from context) ≡ None
    → IsTrue (is_looked_up clafers (looked_up clafers t (from context)) (record { this = context; bound = [] }))
