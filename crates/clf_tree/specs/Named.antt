-- What is known of a model once its names are looked up: each name is replaced by what it names, and nothing is refused.
use Rattle.std.specs.Prelude.{ℕ, zero, suc, ◌==◌, ◌&&◌, ◌||◌, Bool, true, false, not, List, [], length, slice_get, slice_index, bytes_eq, nat_eq, nat_lt, Option, Some, None, is_some, is_none, IsTrue}
use Rattle.std.specs.Option.{option_map_or, option_eq}
use Rattle.std.specs.List.{filter, list_any, list_all}
use Rattle.std.specs.Char.{is_ascii_alphabetic, is_ascii_alphanumeric}
use Rattle.clf_tree.specs.declared.token.Title.{Title}
use Rattle.clf_tree.specs.declared.token.Word.{Word}
use Rattle.clf_tree.specs.declared.token.Word.TheVariants as words
use Rattle.clf_tree.specs.declared.module.Interval.{Interval}
use Rattle.clf_tree.specs.declared.model.Clafer.{Clafer}
use Rattle.clf_tree.specs.declared.model.Rule.{Rule}
use Rattle.clf_tree.specs.declared.model.Goal.{Goal}
use Rattle.clf_tree.specs.declared.model.Model.{Model}
use Rattle.clf_tree.specs.declared.kind.Within.{Within}
use Rattle.clf_tree.specs.declared.kind.Kind.{Kind}
use Rattle.clf_tree.specs.declared.kind.Kind.TheVariants as kinds
use Rattle.clf_tree.specs.Lists.{numbers_below, has, each_two}
use Rattle.clf_tree.specs.Spelling.{spelled_word}
use Rattle.clf_tree.specs.Tree as e
use Rattle.clf_tree.specs.Tree.{Tree, tree}
use Rattle.clf_tree.specs.Hierarchy.{super_of, parent_of, is_concrete, is_a, owners, is_below, is_closed}
use Rattle.clf_tree.specs.Kinds.{kind, clafers_of, bind_kinds, dref_kind}
use Rattle.clf_tree.specs.IntervalsHold.{refers_once}

-- ---- names and bounds

abbrev pub is_name_byte : ℕ → Bool
is_name_byte b = is_ascii_alphanumeric b || b == 95 || b == 39

-- a letter, then letters, digits, `_` and `'`; and no word of the language
abbrev pub is_name : List ℕ → Bool
is_name bytes = is_ascii_alphabetic (slice_index bytes 0) && list_all is_name_byte bytes && is_none (spelled_word bytes)

abbrev pub are_names : List Title → Bool
are_names titles = list_all (λ t. is_name t.name) titles

abbrev pub differ : Title → Title → Bool
differ a b = not (bytes_eq a.name b.name)

-- whether the low bound is above the high one
abbrev pub is_wrong : Interval → Bool
is_wrong bounds = option_map_or (λ high. nat_lt high bounds.low) bounds.high false

-- ---- clafers

abbrev pub has_name : Clafer → Bool
has_name k = is_name k.title.name

abbrev pub has_bounds : Clafer → Bool
has_bounds k = not (is_wrong k.group) && not (is_wrong k.times)

-- an abstract clafer stands at top level
abbrev pub is_placed : Clafer → Bool
is_placed k = not k.is_abstract || is_none k.parent

-- whether two clafers that are declared under one clafer, or both at top level, have different names
abbrev pub are_told_apart : Clafer → Clafer → Bool
are_told_apart a b = not (option_eq nat_eq a.parent b.parent && bytes_eq a.title.name b.title.name)

module _ (clafers : List Clafer) where
  -- whether a test holds of the number of each clafer
  abbrev pub each : (ℕ → Bool) → Bool
  each test = list_all test (numbers_below (length clafers))

  -- whether it stands behind the clafer that it is declared under
  abbrev pub follows_parent : ℕ → Bool
  follows_parent c = is_below c (parent_of clafers c)

  -- whether its super, if it has one, is abstract and at top level
  abbrev pub has_right_super : ℕ → Bool
  has_right_super c = option_map_or (λ s. not (is_concrete clafers s) && is_none (parent_of clafers s)) (super_of clafers c) true

  -- whether its super is-a it
  abbrev pub inherits_itself : ℕ → Bool
  inherits_itself c = option_map_or (λ s. is_a clafers s c) (super_of clafers c) false

  -- the owners of the given clafers, in model order
  abbrev pub owners_of : List ℕ → List ℕ
  owners_of ds = filter (λ o. list_any (λ d. has (owners clafers d) o) ds) (numbers_below (length clafers))

  -- whether c is one of the given clafers, or is reached from one of them by at most n steps to an owner
  abbrev pub is_outside : ℕ → List ℕ → ℕ → Bool
  is_outside zero ds c = has ds c
  is_outside (suc n) ds c = has ds c || is_outside n (owners_of ds) c

  -- whether going from owner to owner leads back to it
  abbrev pub contains_itself : ℕ → Bool
  contains_itself c = is_outside (length clafers) (owners clafers c) c

  abbrev pub have_one_name : ℕ → ℕ → Bool
  have_one_name c d = option_map_or (λ k. option_map_or (λ l. bytes_eq k.title.name l.title.name) (slice_get clafers d) false) (slice_get clafers c) false

  -- whether the parent of c inherits the child d
  abbrev pub stands_beside_inherited : ℕ → ℕ → Bool
  stands_beside_inherited c d =
      option_map_or (λ p. option_map_or (λ s. option_map_or (is_a clafers s) (parent_of clafers d) false) (super_of clafers p) false)
      (parent_of clafers c) false

  -- whether its parent inherits a child of its name
  abbrev pub repeats_inherited : ℕ → Bool
  repeats_inherited c = list_any (λ d. have_one_name c d && stands_beside_inherited c d) (numbers_below (length clafers))

  -- ---- expressions

  abbrev pub is_quantifier : Word → Bool
  is_quantifier words.All = true
  is_quantifier words.Some = true
  is_quantifier words.No = true
  is_quantifier words.One = true
  is_quantifier words.Lone = true
  is_quantifier _ = false

  abbrev pub is_nodes : Option Kind → Bool
  is_nodes (Some (kinds.Nodes ks)) = true
  is_nodes _ = false

  -- Whether no name is left, each number is there, `this` has a clafer, a `parent` of nodes has some declaring parent, a step that
  -- follows targets goes from nodes that refer to clafers, and each quantifier has names of its own.
  abbrev pub is_looked_up : Tree → Within → Bool
  is_looked_up (e.Literal _ n) w = true
  is_looked_up (e.This _) w = is_some w.this
  is_looked_up (e.Variable _ i) w = nat_lt i (length w.bound)
  is_looked_up (e.Clafer _ c) w = nat_lt c (length clafers)
  is_looked_up (e.Name _ _) w = false
  is_looked_up (e.Join _ _ _) w = false
  is_looked_up (e.Step _ of into follow) w =
      is_looked_up of w && list_all (λ c. nat_lt c (length clafers)) into && (not follow || is_nodes (dref_kind clafers (kind clafers of w)))
  is_looked_up (e.Parent at a) w = is_looked_up a w && (not (is_nodes (kind clafers a w)) || is_some (kind clafers (e.Parent at a) w))
  is_looked_up (e.Dref _ a) w = is_looked_up a w
  is_looked_up (e.Union _ a b) w = is_looked_up a w && is_looked_up b w
  is_looked_up (e.Minus _ a b) w = is_looked_up a w && is_looked_up b w
  is_looked_up (e.Meet _ a b) w = is_looked_up a w && is_looked_up b w
  is_looked_up (e.If _ c a b) w = is_looked_up c w && is_looked_up a w && is_looked_up b w
  is_looked_up (e.Not _ a) w = is_looked_up a w
  is_looked_up (e.And _ a b) w = is_looked_up a w && is_looked_up b w
  is_looked_up (e.Or _ a b) w = is_looked_up a w && is_looked_up b w
  is_looked_up (e.Xor _ a b) w = is_looked_up a w && is_looked_up b w
  is_looked_up (e.Implies _ a b) w = is_looked_up a w && is_looked_up b w
  is_looked_up (e.Iff _ a b) w = is_looked_up a w && is_looked_up b w
  is_looked_up (e.Card _ a) w = is_looked_up a w
  is_looked_up (e.Sum _ a) w = is_looked_up a w
  is_looked_up (e.Neg _ a) w = is_looked_up a w
  is_looked_up (e.Add _ a b) w = is_looked_up a w && is_looked_up b w
  is_looked_up (e.Sub _ a b) w = is_looked_up a w && is_looked_up b w
  is_looked_up (e.Mul _ a b) w = is_looked_up a w && is_looked_up b w
  is_looked_up (e.Less _ a b) w = is_looked_up a w && is_looked_up b w
  is_looked_up (e.LessEqual _ a b) w = is_looked_up a w && is_looked_up b w
  is_looked_up (e.Greater _ a b) w = is_looked_up a w && is_looked_up b w
  is_looked_up (e.GreaterEqual _ a b) w = is_looked_up a w && is_looked_up b w
  is_looked_up (e.Equal _ a b) w = is_looked_up a w && is_looked_up b w
  is_looked_up (e.In _ a b) w = is_looked_up a w && is_looked_up b w
  is_looked_up (e.Some _ a) w = is_looked_up a w
  is_looked_up (e.No _ a) w = is_looked_up a w
  is_looked_up (e.One _ a) w = is_looked_up a w
  is_looked_up (e.Lone _ a) w = is_looked_up a w
  is_looked_up (e.Quant _ word disj names over body) w =
      is_quantifier word && are_names names && each_two differ names
      && is_looked_up over w && is_looked_up body (bind_kinds (clafers_of (kind clafers over w)) (length names) w)

  -- a rule or a goal is looked up from its context, with no variable
  abbrev pub rule_is_looked_up : Rule → Bool
  rule_is_looked_up r = is_below (length clafers) r.context && is_looked_up (tree r.body) (record { this = r.context; bound = [] })

  abbrev pub goal_is_looked_up : Goal → Bool
  goal_is_looked_up g = is_looked_up (tree g.body) (record { this = None; bound = [] })

-- ---- models

-- what `Named` keeps of a model
pub record IsNamed (model : Model) : Type 0 where
  -- each clafer that a clafer names is there, and its parent stands before it
  pub closed : IsTrue (is_closed model.clafers)
  pub parents_first : IsTrue (each model.clafers (follows_parent model.clafers))
  -- names and bounds
  pub named : IsTrue (list_all has_name model.clafers)
  pub bounded : IsTrue (list_all has_bounds model.clafers)
  pub placed : IsTrue (list_all is_placed model.clafers)
  pub told_apart : IsTrue (each_two are_told_apart model.clafers)
  -- inheritance and containment
  pub inherits_abstract : IsTrue (each model.clafers (has_right_super model.clafers))
  pub inherits_no_cycle : IsTrue (each model.clafers (λ c. not (inherits_itself model.clafers c)))
  pub contains_no_cycle : IsTrue (each model.clafers (λ c. not (contains_itself model.clafers c)))
  pub refers : IsTrue (refers_once model.clafers)
  pub inherits_apart : IsTrue (each model.clafers (λ c. not (repeats_inherited model.clafers c)))
  -- expressions
  pub rules : IsTrue (list_all (rule_is_looked_up model.clafers) model.rules)
  pub goals : IsTrue (list_all (goal_is_looked_up model.clafers) model.goals)
