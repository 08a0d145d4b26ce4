-- How what a name means is written as steps.
use Rattle.std.specs.Prelude.{ℕ, zero, suc, Bool, false, List, [], ◌∷◌, Option, Some}
use Rattle.clf_base.specs.declared.fault.Span.{Span}
use Rattle.clf_tree.specs.declared.model.Clafer.{Clafer}
use Rattle.clf_tree.specs.declared.kind.Kind.{Kind}
use Rattle.clf_tree.specs.declared.kind.Kind.TheVariants.{Nodes}
use Rattle.clf_tree.specs.Tree as e
use Rattle.clf_tree.specs.Tree.{Tree}
use Rattle.name_resolver.specs.declared.steps.Meant.{Meant}
use Rattle.name_resolver.specs.declared.steps.Meant.TheVariants as meant
use Rattle.name_resolver.specs.Levels.{step_down, named}

-- so many times to the parent
abbrev pub outwards : Span → ℕ → Tree → Tree
outwards at zero t = t
outwards at (suc n) t = outwards at n (e.Parent at t)

-- down to each clafer of a way, one after the other
abbrev pub downwards : Span → List ℕ → Tree → Tree
downwards at [] t = t
downwards at (d ∷ ds) t = downwards at ds (e.Step at t (d ∷ []) false)

-- a name as steps: a variable; `this`, parents, then steps down; or all of a clafer
abbrev pub steps_of : Span → Meant → Tree
steps_of at (meant.Variable i) = e.Variable at i
steps_of at (meant.Below out way) = downwards at way (outwards at out (e.This at))
steps_of at (meant.Top c) = e.Clafer at c

-- the children of the name of the clafers of a kind
abbrev pub children_named : List Clafer → List ℕ → Option Kind → List ℕ
children_named clafers name (Some (Nodes ks)) = named clafers name (step_down clafers ks)
children_named clafers name _ = []

abbrev pub step : Span → Tree → List ℕ → Bool → Tree
step at t into follow = e.Step at t into follow

abbrev pub to_parent : Span → Tree → Tree
to_parent at t = e.Parent at t
