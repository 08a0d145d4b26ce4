-- When an instance satisfies a model, and its goals.
use Rattle.std.specs.Prelude.{ℕ, ◌&&◌, Bool, List, [], map, Option, Some, None, ℤ}
use Rattle.std.specs.List.{list_all}
use Rattle.clf_tree.specs.declared.model.Model.{Model}
use Rattle.clf_tree.specs.declared.model.Clafer.{Clafer}
use Rattle.clf_tree.specs.declared.instance.Node.{Node}
use Rattle.clf_tree.specs.declared.instance.Entry.{Entry}
use Rattle.clf_tree.specs.declared.scopes.Scopes.{Scopes}
use Rattle.clf_tree.specs.Tree.{Tree, tree}
use Rattle.clf_tree.specs.Nodes.{is_within, is_tree}
use Rattle.clf_tree.specs.Shape.{has_shape, instances}
use Rattle.clf_tree.specs.Meaning.{Situation, value, is_true, number}

-- at top level, and at an instance of a clafer
abbrev pub outside : Situation
outside = record { within = record { this = None; bound = [] }; this = None; bound = [] }

abbrev pub at_instance : ℕ → Node → Situation
at_instance c n = record { within = record { this = Some c; bound = [] }; this = Some n; bound = [] }

-- a constraint with its context
abbrev pub Law : Type 0
Law = Option ℕ × Tree

abbrev pub laws_of : Model → List Law
laws_of model = map (λ r. (r.context, tree r.body)) model.rules

-- it holds once, or for each instance of its context
abbrev pub holds : List Clafer → List Entry → Law → Bool
holds clafers entries (None, body) = is_true (value clafers entries body outside)
holds clafers entries (Some c, body) =
    list_all (λ e. is_true (value clafers entries body (at_instance c e.node))) (instances clafers entries c)

abbrev pub satisfies_laws : List Clafer → List Law → Scopes → List Entry → Bool
satisfies_laws clafers laws scopes entries =
    is_within clafers scopes entries && is_tree clafers entries && has_shape clafers scopes entries && list_all (holds clafers entries) laws

abbrev pub satisfies : Model → Scopes → List Entry → Bool
satisfies model = satisfies_laws model.clafers (laws_of model)

-- the values of the goals
abbrev pub value_outside : List Clafer → List Entry → Tree → ℤ
value_outside clafers entries body = number clafers entries (value clafers entries body outside)

abbrev pub vector_of : Model → List Entry → List ℤ
vector_of model entries = map (λ g. value_outside model.clafers entries (tree g.body)) model.goals
