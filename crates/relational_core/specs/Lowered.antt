-- The relational expression of an expression.
use Rattle.std.specs.Prelude.{ℕ, ◌&&◌, ◌||◌, Bool, true, false, List, [], ◌∷◌, ◌++◌, length, replicate, nat_lt, Option, Some, None, ℤ, pos, neg_ℤ, ◌+ℤ◌, ◌*ℤ◌, if◌then◌else◌}
use Rattle.std.specs.Option.{option_map_or, option_and_then}
use Rattle.std.specs.List.{filter, list_any}
use Rattle.clf_tree.specs.declared.token.Word.{Word}
use Rattle.clf_tree.specs.declared.token.Word.TheVariants as word
use Rattle.clf_tree.specs.declared.model.Clafer.{Clafer}
use Rattle.clf_tree.specs.declared.scopes.Scopes.{Scopes}
use Rattle.clf_tree.specs.declared.bounds.Bounds.{Bounds}
use Rattle.clf_tree.specs.declared.kind.Within.{Within}
use Rattle.clf_tree.specs.declared.kind.Kind.{Kind}
use Rattle.clf_tree.specs.declared.kind.Kind.TheVariants as kinds
use Rattle.clf_tree.specs.declared.kind.Reading.{Reading}
use Rattle.clf_tree.specs.declared.kind.Reading.TheVariants.{ByNodes}
use Rattle.clf_tree.specs.declared.core_expr.Quantifier.TheVariants as quantifier
use Rattle.clf_tree.specs.Tree as e
use Rattle.clf_tree.specs.Tree.{Tree}
use Rattle.clf_tree.specs.Lists.{numbers_below, from_end, has}
use Rattle.clf_tree.specs.Hierarchy.{is_concrete, is_one_of, is_a, parent_of, target_of}
use Rattle.clf_tree.specs.Nodes.{scope_of}
use Rattle.clf_tree.specs.Kinds.{kind, clafers_of, bind_kinds, reading_of}
use Rattle.clf_tree.specs.Satisfies.{Law}
use Rattle.clf_tree.specs.Widths.{width}
use Rattle.clf_tree.specs.Intervals.{interval, between, sum_between, room, members}
use Rattle.int_widths.specs.Narrow.{within_context}
use Rattle.clf_tree.specs.Core as c
use Rattle.clf_tree.specs.Core.{Core}
use Rattle.clf_tree.specs.CoreSoundness.{sort, clafers_in, holds_integer}

-- in truth position nodes are read as "not empty"
abbrev pub as_truth : Option Kind → Core → Core
as_truth (Some kinds.Truth) a = a
as_truth _ a = c.AtLeast 1 a

-- in integer position nodes are read as the sum of their integers, which lies in the interval
abbrev pub as_number : Option Kind → Bounds → Core → Core
as_number (Some kinds.Integer) b a = a
as_number _ b a = c.Total (width b) a

-- the integer of a constant
abbrev pub constant : Core → Option ℤ
constant (c.Const _ z) = Some z
constant _ = None

-- an integer that 64 bits hold
abbrev pub kept : ℤ → Option ℤ
kept z = if holds_integer 64 z then Some z else None

-- the integer that one constant, or two, make
abbrev pub of_one : (ℤ → ℤ) → Core → Option ℤ
of_one f a = option_and_then (λ x. kept (f x)) (constant a)

abbrev pub of_two : (ℤ → ℤ → ℤ) → Core → Core → Option ℤ
of_two f a b = option_and_then (λ x. option_and_then (λ y. kept (f x y)) (constant b)) (constant a)

-- a form, or a constant where its integer is known
abbrev pub folded : ℕ → Option ℤ → Core → Core
folded w (Some z) a = c.Const w z
folded w None a = a

-- arithmetic; that of constants is done at once
unfoldable pub negated : ℕ → Core → Core
negated w a = folded w (of_one neg_ℤ a) (c.Neg w a)

unfoldable pub added : ℕ → Core → Core → Core
added w a b = folded w (of_two (λ x y. x +ℤ y) a b) (c.Add w a b)

unfoldable pub multiplied : ℕ → Core → Core → Core
multiplied w a b = folded w (of_two (λ x y. x *ℤ y) a b) (c.Mul w a b)

-- what is never true
abbrev pub never : Core
never = c.AtLeast 1 (c.Every [])

-- as many tuples as the word asks for
abbrev pub quant : Word → Bool → ℕ → Core → Core → Core
quant word.All disj n over body = c.Quant quantifier.All disj n over body
quant word.Some disj n over body = c.Quant quantifier.Some disj n over body
quant word.No disj n over body = c.Not (c.Quant quantifier.Some disj n over body)
quant word.One disj n over body = c.Quant quantifier.One disj n over body
quant word.Lone disj n over body = c.Quant quantifier.Lone disj n over body
quant _ disj n over body = never

-- of bound nodes, those of one of them
abbrev pub bound_node : List (List ℕ) → ℕ → Core
bound_node given i = c.Bound (option_map_or (λ ks. ks) (from_end given i) []) i

-- the nodes of a that are not in b
abbrev pub minus : Core → Core → Core
minus a b = c.Minus (clafers_in (sort a)) a b

-- a negated interval
abbrev pub negative : Bounds → Bounds
negative b = between (neg_ℤ b.high) (neg_ℤ b.low)

module _ (clafers : List Clafer) where
  -- whether an instance of p can be the parent of an instance of d
  abbrev pub can_hold : ℕ → ℕ → Bool
  can_hold p d = option_map_or (is_a clafers p) (parent_of clafers d) false

  -- whether an instance of d can have an instance of t as its target
  abbrev pub can_reach : ℕ → ℕ → Bool
  can_reach d t = option_map_or (is_a clafers t) (target_of clafers d) false

-- of nodes of a kind, the interval of the sum of their integers
unfoldable pub kind_interval : List Clafer → Scopes → Option Kind → Bounds
kind_interval clafers scopes k = sum_between clafers scopes (room clafers scopes (members clafers scopes k))

module _ (clafers : List Clafer) (scopes : Scopes) where
  -- a clafer that can have instances
  abbrev pub is_possible : ℕ → Bool
  is_possible d = is_concrete clafers d && nat_lt 0 (scope_of scopes d)

  -- those of them that pass a test, ascending
  abbrev pub possible : (ℕ → Bool) → List ℕ
  possible test = filter (λ d. is_possible d && test d) (numbers_below (length clafers))

  -- the clafers of nodes of ks, of those among them below nodes of ls, of parents, and of targets
  abbrev pub instances_of : List ℕ → List ℕ
  instances_of ks = possible (is_one_of clafers ks)

  abbrev pub children_of : List ℕ → List ℕ → List ℕ
  children_of ks ls = possible (λ d. is_one_of clafers ks d && list_any (λ p. can_hold clafers p d) ls)

  abbrev pub parents_of : List ℕ → List ℕ
  parents_of ls = possible (λ d. list_any (can_hold clafers d) ls)

  abbrev pub targets_of : List ℕ → List ℕ
  targets_of ls = possible (λ d. list_any (λ x. can_reach clafers x d) ls)

  abbrev pub either_of : List ℕ → List ℕ → List ℕ
  either_of ks ls = possible (λ d. has ks d || has ls d)

  abbrev pub both_of : List ℕ → List ℕ → List ℕ
  both_of ks ls = possible (λ d. has ks d && has ls d)

  -- sets of nodes, each with the clafers that its parts leave possible
  abbrev pub every : List ℕ → Core
  every ks = c.Every (instances_of ks)

  abbrev pub down : List ℕ → Core → Core
  down into a = c.Down (children_of into (clafers_in (sort a))) a

  abbrev pub up : Core → Core
  up a = c.Up (parents_of (clafers_in (sort a))) a

  abbrev pub follow : Core → Core
  follow a = c.Follow (targets_of (clafers_in (sort a))) a

  abbrev pub union : Core → Core → Core
  union a b = c.Union (either_of (clafers_in (sort a)) (clafers_in (sort b))) a b

  abbrev pub meet : Core → Core → Core
  meet a b = c.Meet (both_of (clafers_in (sort a)) (clafers_in (sort b))) a b

  abbrev pub choose_nodes : Core → Core → Core → Core
  choose_nodes t a b = c.ChooseNodes (either_of (clafers_in (sort a)) (clafers_in (sort b))) t a b

  -- `dref`, of a kind of its own: of integers it is the nodes that have them
  abbrev pub dref : Option Kind → Core → Core
  dref (Some (kinds.Numbers ks)) a = a
  dref _ a = follow a

  abbrev pub through : Bool → Core → Core
  through false a = a
  through true a = follow a

  -- two sides that are the same, and a side that is a part of the other, as they are read
  abbrev pub same : Option Reading → Core → Core → Core
  same (Some (ByNodes left right)) a b = c.SameNodes (through left a) (through right b)
  same _ a b = c.SameValues a b

  abbrev pub part : Option Reading → Core → Core → Core
  part (Some (ByNodes left right)) a b = c.WithinNodes (through left a) (through right b)
  part _ a b = c.WithinValues a b

  -- a choice, by its kind, of parts with their kinds and intervals
  abbrev pub choice : Option Kind → Bounds → Option Kind → Option Kind → Bounds → Bounds → Core → Core → Core → Core
  choice (Some kinds.Truth) z k l x y t a b = c.ChooseTruth t (as_truth k a) (as_truth l b)
  choice (Some kinds.Integer) z k l x y t a b = c.ChooseNumber (width z) t (as_number k x a) (as_number l y b)
  choice _ z k l x y t a b = choose_nodes t a b

  -- with the clafers of the bound nodes
  abbrev pub lowered : Tree → Within → List (List ℕ) → Core
  lowered (e.Literal at n) w g = c.Const (width (interval clafers scopes (e.Literal at n) w)) (pos n)
  lowered (e.This _) w g = bound_node g (length w.bound)
  lowered (e.Variable _ i) w g = bound_node g i
  lowered (e.Clafer _ k) w g = every (k ∷ [])
  lowered (e.Name _ _) w g = every []
  lowered (e.Join _ _ _) w g = every []
  lowered (e.Step _ of into follow) w g = down into (through follow (lowered of w g))
  lowered (e.Parent _ a) w g = up (lowered a w g)
  lowered (e.Dref at a) w g = dref (kind clafers (e.Dref at a) w) (lowered a w g)
  lowered (e.Union _ a b) w g = union (lowered a w g) (lowered b w g)
  lowered (e.Minus _ a b) w g = minus (lowered a w g) (lowered b w g)
  lowered (e.Meet _ a b) w g = meet (lowered a w g) (lowered b w g)
  lowered (e.If at t a b) w g =
      choice (kind clafers (e.If at t a b) w) (interval clafers scopes (e.If at t a b) w) (kind clafers a w) (kind clafers b w)
      (interval clafers scopes a w) (interval clafers scopes b w) (as_truth (kind clafers t w) (lowered t w g)) (lowered a w g) (lowered b w g)
  lowered (e.Not _ a) w g = c.Not (as_truth (kind clafers a w) (lowered a w g))
  lowered (e.And _ a b) w g = c.And (as_truth (kind clafers a w) (lowered a w g)) (as_truth (kind clafers b w) (lowered b w g))
  lowered (e.Or _ a b) w g = c.Or (as_truth (kind clafers a w) (lowered a w g)) (as_truth (kind clafers b w) (lowered b w g))
  lowered (e.Xor _ a b) w g = c.Xor (as_truth (kind clafers a w) (lowered a w g)) (as_truth (kind clafers b w) (lowered b w g))
  lowered (e.Implies _ a b) w g = c.Or (c.Not (as_truth (kind clafers a w) (lowered a w g))) (as_truth (kind clafers b w) (lowered b w g))
  lowered (e.Iff _ a b) w g = c.Not (c.Xor (as_truth (kind clafers a w) (lowered a w g)) (as_truth (kind clafers b w) (lowered b w g)))
  lowered (e.Card at a) w g = c.Count (width (interval clafers scopes (e.Card at a) w)) (lowered a w g)
  lowered (e.Sum _ a) w g = c.Total (width (kind_interval clafers scopes (kind clafers a w))) (lowered a w g)
  lowered (e.Neg at a) w g = negated (width (interval clafers scopes (e.Neg at a) w)) (as_number (kind clafers a w) (interval clafers scopes a w) (lowered a w g))
  lowered (e.Add at a b) w g =
      added (width (interval clafers scopes (e.Add at a b) w)) (as_number (kind clafers a w) (interval clafers scopes a w) (lowered a w g))
      (as_number (kind clafers b w) (interval clafers scopes b w) (lowered b w g))
  lowered (e.Sub at a b) w g =
      added (width (interval clafers scopes (e.Sub at a b) w)) (as_number (kind clafers a w) (interval clafers scopes a w) (lowered a w g))
      (negated (width (negative (interval clafers scopes b w))) (as_number (kind clafers b w) (interval clafers scopes b w) (lowered b w g)))
  lowered (e.Mul at a b) w g =
      multiplied (width (interval clafers scopes (e.Mul at a b) w)) (as_number (kind clafers a w) (interval clafers scopes a w) (lowered a w g))
      (as_number (kind clafers b w) (interval clafers scopes b w) (lowered b w g))
  lowered (e.Less _ a b) w g =
      c.Less (as_number (kind clafers a w) (interval clafers scopes a w) (lowered a w g)) (as_number (kind clafers b w) (interval clafers scopes b w) (lowered b w g))
  lowered (e.LessEqual _ a b) w g =
      c.Not (c.Less (as_number (kind clafers b w) (interval clafers scopes b w) (lowered b w g)) (as_number (kind clafers a w) (interval clafers scopes a w) (lowered a w g)))
  lowered (e.Greater _ a b) w g =
      c.Less (as_number (kind clafers b w) (interval clafers scopes b w) (lowered b w g)) (as_number (kind clafers a w) (interval clafers scopes a w) (lowered a w g))
  lowered (e.GreaterEqual _ a b) w g =
      c.Not (c.Less (as_number (kind clafers a w) (interval clafers scopes a w) (lowered a w g)) (as_number (kind clafers b w) (interval clafers scopes b w) (lowered b w g)))
  lowered (e.Equal _ a b) w g = same (reading_of clafers (kind clafers a w) (kind clafers b w)) (lowered a w g) (lowered b w g)
  lowered (e.In _ a b) w g = part (reading_of clafers (kind clafers a w) (kind clafers b w)) (lowered a w g) (lowered b w g)
  lowered (e.Some _ a) w g = c.AtLeast 1 (lowered a w g)
  lowered (e.No _ a) w g = c.Exactly 0 (lowered a w g)
  lowered (e.One _ a) w g = c.Exactly 1 (lowered a w g)
  lowered (e.Lone _ a) w g = c.AtMost 1 (lowered a w g)
  lowered (e.Quant _ word disj names over body) w g =
      quant word disj (length names) (lowered over w g)
      (as_truth (kind clafers body (bind_kinds (clafers_of (kind clafers over w)) (length names) w))
      (lowered body (bind_kinds (clafers_of (kind clafers over w)) (length names) w) (g ++ replicate (length names) (clafers_in (sort (lowered over w g))))))

  -- a constraint, for each instance of its context, and a goal
  abbrev pub lowered_law : Law → Core
  lowered_law (None, body) = as_truth (kind clafers body (within_context None)) (lowered body (within_context None) [])
  lowered_law (Some context, body) =
      c.Quant quantifier.All false 1 (every (context ∷ []))
      (as_truth (kind clafers body (within_context (Some context))) (lowered body (within_context (Some context)) (instances_of (context ∷ []) ∷ [])))

  abbrev pub lowered_goal : Tree → Core
  lowered_goal body =
      as_number (kind clafers body (within_context None)) (interval clafers scopes body (within_context None)) (lowered body (within_context None) [])
