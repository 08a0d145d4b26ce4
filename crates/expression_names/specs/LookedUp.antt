-- What an expression becomes when its names are looked up, and the first refusal in it.
use Rattle.std.specs.Prelude.{ℕ, Bool, true, false, List, [], ◌∷◌, Option, Some, None}
use Rattle.std.specs.Option.{option_map_or, option_or}
use Rattle.clf_base.specs.declared.fault.Span.{Span}
use Rattle.clf_base.specs.declared.fault.Refusal.{Refusal}
use Rattle.refusal_order.specs.Order.{refused, with_refusal}
use Rattle.clf_tree.specs.declared.model.Clafer.{Clafer}
use Rattle.clf_tree.specs.declared.kind.Kind.{Kind}
use Rattle.clf_tree.specs.declared.kind.Kind.TheVariants.{Nodes}
use Rattle.clf_tree.specs.Tree as e
use Rattle.clf_tree.specs.Tree.{Tree}
use Rattle.clf_tree.specs.Kinds.{kind, clafers_of, parents_of, dref_kind}
use Rattle.name_resolver.specs.declared.outside.Found.{Found}
use Rattle.name_resolver.specs.declared.outside.Found.TheVariants as found
use Rattle.name_resolver.specs.declared.steps.Meant.TheVariants as meant
use Rattle.name_resolver.specs.Meaning.{meaning_of}
use Rattle.name_resolver.specs.Steps.{steps_of, children_named}
use Rattle.expression_names.specs.declared.names.NamedStep.{NamedStep}
use Rattle.expression_names.specs.declared.scope.Scope.{Scope}
use Rattle.expression_names.specs.Scopes.{variable, bind}

-- the first of two refusals, where there are any
abbrev pub sooner : Option Refusal → Option Refusal → Option Refusal
sooner first None = first
sooner first (Some r) = with_refusal first r

-- a name as steps; as it stands where nothing is meant
abbrev pub named_tree : Span → List ℕ → Found → Tree
named_tree at n (found.Means m) = steps_of at m
named_tree at n _ = e.Name at n

abbrev pub name_refusal : Span → Found → Option Refusal
name_refusal at found.Nothing = Some (refused 62 at 0)
name_refusal at found.Several = Some (refused 63 at 0)
name_refusal at (found.Means m) = None

-- `this` at top level
abbrev pub this_refusal : Span → Option ℕ → Option Refusal
this_refusal at None = Some (refused 66 at 0)
this_refusal at (Some c) = None

-- a step by a name leads into children, if there are some
abbrev pub some_into : Bool → List ℕ → Option NamedStep
some_into follow [] = None
some_into follow (d ∷ ds) = Some (record { into = d ∷ ds; follow = follow })

-- a step; as it stands where it leads into nothing
abbrev pub joined_tree : Span → Tree → List ℕ → Option NamedStep → Tree
joined_tree at t n (Some step) = e.Step at t step.into step.follow
joined_tree at t n None = e.Join at t n

abbrev pub join_refusal : Span → Option NamedStep → Option Refusal
join_refusal at None = Some (refused 62 at 0)
join_refusal at (Some step) = None

-- whether it is a kind of nodes
abbrev pub has_nodes : Option Kind → Bool
has_nodes (Some (Nodes ks)) = true
has_nodes _ = false

-- the parents of nodes, where these are the clafers that they can be of
abbrev pub parents_refusal : Span → Bool → List ℕ → Option Refusal
parents_refusal at true [] = Some (refused 66 at 0)
parents_refusal at _ _ = None

module _ (clafers : List Clafer) where
  -- the innermost variable of the name, or what it means from the clafer of `this`
  unfoldable pub name_meaning : List ℕ → Scope → Found
  name_meaning n s = option_map_or (λ i. found.Means (meant.Variable i)) (variable s.names n) (meaning_of clafers s.within.this n)

  -- the children of the name of the clafers of a kind; where there are none, those of their targets
  unfoldable pub step_by : Option Kind → List ℕ → Option NamedStep
  step_by k n = option_or (some_into false (children_named clafers n k)) (some_into true (children_named clafers n (dref_kind clafers k)))

  abbrev pub parent_refusal : Span → Option Kind → Option Refusal
  parent_refusal at k = parents_refusal at (has_nodes k) (parents_of clafers (clafers_of k))

  -- an expression with its names looked up; a name that is not found stays
  abbrev pub looked_up : Tree → Scope → Tree
  looked_up (e.Literal at n) s = e.Literal at n
  looked_up (e.This at) s = e.This at
  looked_up (e.Variable at i) s = e.Variable at i
  looked_up (e.Clafer at c) s = e.Clafer at c
  looked_up (e.Name at n) s = named_tree at n (name_meaning n s)
  looked_up (e.Join at a n) s = joined_tree at (looked_up a s) n (step_by (kind clafers (looked_up a s) s.within) n)
  looked_up (e.Step at of into follow) s = e.Step at (looked_up of s) into follow
  looked_up (e.Parent at a) s = e.Parent at (looked_up a s)
  looked_up (e.Dref at a) s = e.Dref at (looked_up a s)
  looked_up (e.Union at a b) s = e.Union at (looked_up a s) (looked_up b s)
  looked_up (e.Minus at a b) s = e.Minus at (looked_up a s) (looked_up b s)
  looked_up (e.Meet at a b) s = e.Meet at (looked_up a s) (looked_up b s)
  looked_up (e.If at c a b) s = e.If at (looked_up c s) (looked_up a s) (looked_up b s)
  looked_up (e.Not at a) s = e.Not at (looked_up a s)
  looked_up (e.And at a b) s = e.And at (looked_up a s) (looked_up b s)
  looked_up (e.Or at a b) s = e.Or at (looked_up a s) (looked_up b s)
  looked_up (e.Xor at a b) s = e.Xor at (looked_up a s) (looked_up b s)
  looked_up (e.Implies at a b) s = e.Implies at (looked_up a s) (looked_up b s)
  looked_up (e.Iff at a b) s = e.Iff at (looked_up a s) (looked_up b s)
  looked_up (e.Card at a) s = e.Card at (looked_up a s)
  looked_up (e.Sum at a) s = e.Sum at (looked_up a s)
  looked_up (e.Neg at a) s = e.Neg at (looked_up a s)
  looked_up (e.Add at a b) s = e.Add at (looked_up a s) (looked_up b s)
  looked_up (e.Sub at a b) s = e.Sub at (looked_up a s) (looked_up b s)
  looked_up (e.Mul at a b) s = e.Mul at (looked_up a s) (looked_up b s)
  looked_up (e.Less at a b) s = e.Less at (looked_up a s) (looked_up b s)
  looked_up (e.LessEqual at a b) s = e.LessEqual at (looked_up a s) (looked_up b s)
  looked_up (e.Greater at a b) s = e.Greater at (looked_up a s) (looked_up b s)
  looked_up (e.GreaterEqual at a b) s = e.GreaterEqual at (looked_up a s) (looked_up b s)
  looked_up (e.Equal at a b) s = e.Equal at (looked_up a s) (looked_up b s)
  looked_up (e.In at a b) s = e.In at (looked_up a s) (looked_up b s)
  looked_up (e.Some at a) s = e.Some at (looked_up a s)
  looked_up (e.No at a) s = e.No at (looked_up a s)
  looked_up (e.One at a) s = e.One at (looked_up a s)
  looked_up (e.Lone at a) s = e.Lone at (looked_up a s)
  looked_up (e.Quant at word disj names over body) s =
      e.Quant at word disj names (looked_up over s) (looked_up body (bind names (kind clafers (looked_up over s) s.within) s))

  -- The first refusal in an expression. An expression with a refused part is not refused itself.
  abbrev pub refusal : Tree → Scope → Option Refusal
  refusal (e.Literal at n) s = None
  refusal (e.This at) s = this_refusal at s.within.this
  refusal (e.Variable at i) s = None
  refusal (e.Clafer at c) s = None
  refusal (e.Name at n) s = name_refusal at (name_meaning n s)
  refusal (e.Join at a n) s = option_or (refusal a s) (join_refusal at (step_by (kind clafers (looked_up a s) s.within) n))
  refusal (e.Step at of into follow) s = refusal of s
  refusal (e.Parent at a) s = option_or (refusal a s) (parent_refusal at (kind clafers (looked_up a s) s.within))
  refusal (e.Dref at a) s = refusal a s
  refusal (e.Union at a b) s = sooner (refusal a s) (refusal b s)
  refusal (e.Minus at a b) s = sooner (refusal a s) (refusal b s)
  refusal (e.Meet at a b) s = sooner (refusal a s) (refusal b s)
  refusal (e.If at c a b) s = sooner (sooner (refusal c s) (refusal a s)) (refusal b s)
  refusal (e.Not at a) s = refusal a s
  refusal (e.And at a b) s = sooner (refusal a s) (refusal b s)
  refusal (e.Or at a b) s = sooner (refusal a s) (refusal b s)
  refusal (e.Xor at a b) s = sooner (refusal a s) (refusal b s)
  refusal (e.Implies at a b) s = sooner (refusal a s) (refusal b s)
  refusal (e.Iff at a b) s = sooner (refusal a s) (refusal b s)
  refusal (e.Card at a) s = refusal a s
  refusal (e.Sum at a) s = refusal a s
  refusal (e.Neg at a) s = refusal a s
  refusal (e.Add at a b) s = sooner (refusal a s) (refusal b s)
  refusal (e.Sub at a b) s = sooner (refusal a s) (refusal b s)
  refusal (e.Mul at a b) s = sooner (refusal a s) (refusal b s)
  refusal (e.Less at a b) s = sooner (refusal a s) (refusal b s)
  refusal (e.LessEqual at a b) s = sooner (refusal a s) (refusal b s)
  refusal (e.Greater at a b) s = sooner (refusal a s) (refusal b s)
  refusal (e.GreaterEqual at a b) s = sooner (refusal a s) (refusal b s)
  refusal (e.Equal at a b) s = sooner (refusal a s) (refusal b s)
  refusal (e.In at a b) s = sooner (refusal a s) (refusal b s)
  refusal (e.Some at a) s = refusal a s
  refusal (e.No at a) s = refusal a s
  refusal (e.One at a) s = refusal a s
  refusal (e.Lone at a) s = refusal a s
  refusal (e.Quant at word disj names over body) s =
      sooner (refusal over s) (refusal body (bind names (kind clafers (looked_up over s) s.within) s))
