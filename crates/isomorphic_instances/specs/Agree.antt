-- Isomorphic instances agree on every model.
use Rattle.std.specs.Prelude.{◌≡◌, List, IsTrue}
use Rattle.clf_tree.specs.declared.model.Model.{Model}
use Rattle.clf_tree.specs.declared.instance.Entry.{Entry}
use Rattle.clf_tree.specs.declared.scopes.Scopes.{Scopes}
use Rattle.clf_tree.specs.Nodes.{is_ordered}
use Rattle.clf_tree.specs.Satisfies.{satisfies, vector_of}
use Rattle.clf_tree.specs.Renaming.{IsIsomorphic}
use Rattle.instance_tables.specs.Below.{are_below_scopes}

-- both satisfy the model or neither does, and their goals have the same values
pub record Agree (model : Model) (scopes : Scopes) (a b : List Entry) : Type 0 where
  pub satisfy : satisfies model scopes a ≡ satisfies model scopes b
  pub goals : vector_of model a ≡ vector_of model b

-- of two isomorphic instances, where each node that the first names has a number below its clafer's scope
abbrev pub IsomorphicAgree : Type 0
IsomorphicAgree =
    (model : Model) (scopes : Scopes) (a b : List Entry)
    → IsTrue (is_ordered a) → IsTrue (are_below_scopes scopes a) → IsIsomorphic scopes a b
    → Agree model scopes a b
