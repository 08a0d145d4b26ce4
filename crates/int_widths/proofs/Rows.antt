-- The weights of small models, worked out by hand.
use Rattle.std.proofs.Common.{◌≡◌, ℕ, zero, suc, ◌+◌, ◌*◌, ◌/◌, ◌^◌, ◌≤◌, ◌<◌, Bool, true, false, cond, List, [], ◌∷◌, Option, Some, None, refl, ap, ◌∙◌, arith, pos, neg_ℤ}
use Rattle.std.specs.Prelude.{nat_lt}
use Rattle.std.proofs.lemmas.Grind.{common_steps}
use Rattle.std.proofs.Math.Nat.{pow-le-pow_right}
use Rattle.clf_base.specs.declared.fault.Span.{Span}
use Rattle.clf_tree.specs.declared.token.Word.TheVariants as word
use Rattle.clf_tree.specs.declared.token.Title.{Title}
use Rattle.clf_tree.specs.declared.module.Interval.{Interval}
use Rattle.clf_tree.specs.declared.model.Clafer.{Clafer}
use Rattle.clf_tree.specs.declared.model.Model.{Model}
use Rattle.clf_tree.specs.declared.model.Reference.{Reference}
use Rattle.clf_tree.specs.declared.scopes.Scopes.{Scopes}
use Rattle.clf_tree.specs.declared.kind.Within.{Within}
use Rattle.clf_tree.specs.Tree as e
use Rattle.clf_tree.specs.Tree.{Tree}
use Rattle.clf_tree.specs.CoreWeights.{digits_within, binary_digits}
use Rattle.clf_tree.specs.Widths.{width}
use Rattle.int_widths.specs.Narrow.{within_context}
use Rattle.int_widths.specs.Weight.{model_weight, clafers_weight, body_weight, number_weight, weight, clafer_weight}

abbrev at : Span
at = record { line = 1; column = 1 }

abbrev title : Title
title = record { name = 97 ∷ []; at = at }

abbrev times : ℕ → Option ℕ → Interval
times low high = record { low = low; high = high }

abbrev clafer : Option ℕ → Option Reference → Interval → Interval → Clafer
clafer parent reference group number = record { title = title; is_abstract = false; parent = parent; above = None; group = group; times = number; reference = reference }

abbrev abstract_clafer : Interval → Clafer
abstract_clafer number = record { title = title; is_abstract = true; parent = None; above = None; group = times 0 None; times = number; reference = None }

abbrev model : List Clafer → Model
model clafers = record { clafers = clafers; rules = []; goals = [] }

-- integers of twelve bits
abbrev scopes : List ℕ → Scopes
scopes of = record { of = of; low = neg_ℤ (pos 2048); high = pos 2047 }

nothing : model_weight (scopes []) (model []) ≡ 8
nothing = refl

-- one clafer of scope 1: 1 + 32 * 2 for its instance, 8 * 2 for its number
one : model_weight (scopes (1 ∷ [])) (model (clafer None None (times 0 None) (times 1 (Some 1)) ∷ [])) ≡ 89
one = refl

-- a power of two has one binary digit more than its exponent
half : (j : ℕ) → 2 ^ suc j / 2 ≡ 2 ^ j
half j = omega arith

big : (j : ℕ) → nat_lt (2 ^ suc j) 2 ≡ false
big j = at (2 ^ suc j) (pow-le-pow_right {n = 2} (omega arith) {i = 1} {j = suc j} (omega arith))
  where
    at : (m : ℕ) → 2 ≤ m → nat_lt m 2 ≡ false
    at m h = grind (arith, common_steps)

digits_of_power : (j k : ℕ) → j < k → digits_within k (2 ^ j) ≡ j + 1
digits_of_power j zero h = absurd (omega (arith, h))
digits_of_power zero (suc k) h = refl
digits_of_power (suc j) (suc k) h =
    ap (λ b. cond b 1 (suc (digits_within k (2 ^ suc j / 2)))) (big j) ∙ ap (λ m. suc (digits_within k m)) (half j) ∙ ap suc (digits_of_power j k (omega (arith, h))) ∙ omega arith

digits : binary_digits (2 ^ 24) ≡ 25
digits = digits_of_power 24 (2 ^ 24) (omega arith)

-- three variables over four nodes, of which two are compared: 64 tuples, of seven digits
abbrev three : Tree
three = e.Quant at word.All false (title ∷ title ∷ title ∷ []) (e.Clafer at 0) (e.Equal at (e.Variable at 2) (e.Variable at 1))

abbrev some_nodes : ℕ → List Clafer
some_nodes n = clafer None None (times 0 None) (times n (Some n)) ∷ []

tuples : body_weight (some_nodes 4) (scopes (4 ∷ [])) None three ≡ 64 * ((16 * (4 + 4 + 1) + 5 + 5) + 8 * 3 + 16 * 7 + 16) + 8 + 5
tuples = refl

all_weigh : clafers_weight (scopes (256 ∷ [])) (model (some_nodes 256)) ≡ (1 + 32 * 256 * 2) + 8 * 1 * 256 * 257
all_weigh = refl

-- the same over 256 nodes, where 2 ^ 24 tuples have 25 digits
heavy : 8 + ((1 + 32 * 256 * 2) + 8 * 1 * 256 * 257) + ((2 ^ 24 * ((16 * (256 + 256 + 1) + 257 + 257) + 8 * 3 + 16 * 25 + 16) + 8 + 257 + 8) + 8) ≡ 153713396002
heavy = refl

-- a node below each of two, of scopes 2 and 6, with a group of one: 12 slots of parents and values
abbrev below : List Clafer
below = clafer None None (times 1 (Some 1)) (times 2 (Some 2)) ∷ clafer (Some 0) (Some (record { at = at; bag = false; to = None })) (times 0 None) (times 0 None) ∷ []

above_weighs : clafer_weight below (scopes (2 ∷ 6 ∷ [])) 0 (clafer None None (times 1 (Some 1)) (times 2 (Some 2))) ≡ (1 + 32 * 2 * 2) + 8 * 1 * 2 * 3 + 8 * 2 * 6 * 2
above_weighs = refl

below_weighs : clafer_weight below (scopes (2 ∷ 6 ∷ [])) 1 (clafer (Some 0) (Some (record { at = at; bag = false; to = None })) (times 0 None) (times 0 None))
    ≡ 1 + 32 * 6 * (2 + 12 + 2) + 4 * 6 * 6 * (2 + 12 + 2) + 8 * 2 * 6 * 1
unfolding width
below_weighs = refl

-- an abstract clafer with 1 to 3 instances, of no concrete clafer
abstract_weighs : clafer_weight (abstract_clafer (times 1 (Some 3)) ∷ []) (scopes (0 ∷ [])) 0 (abstract_clafer (times 1 (Some 3))) ≡ 0
abstract_weighs = refl

-- the sum of six integers of twelve bits has fifteen: each is added up with 12 + 3 + 1 bits
sum_weighs : weight below (scopes (2 ∷ 6 ∷ [])) (e.Neg at (e.Clafer at 1)) (within_context None) ≡ 16 * 16 + (32 * 7 * (12 + 3 + 1) + 7)
unfolding width
sum_weighs = refl

-- values with an integer, and a step with a count in truth position
values_weigh : weight below (scopes (2 ∷ 6 ∷ [])) (e.Equal at (e.Clafer at 1) (e.Literal at 5)) (within_context None) ≡ 6 * 7 * 2 * (15 + 1) + 7 + 2
unfolding width
values_weigh = refl

step_weighs : body_weight below (scopes (2 ∷ 6 ∷ [])) (Some 0) (e.Step at (e.This at) (1 ∷ []) false) ≡ 32 * 7 * (12 + 3 + 1) + (4 * 2 * 6 + 0 + 3)
unfolding width
step_weighs = refl

goal_weighs : number_weight below (scopes (2 ∷ 6 ∷ [])) (e.Sub at (e.Literal at 5) (e.Card at (e.Clafer at 0))) ≡ 16 * (4 + 3 + 3) + 2 + (32 * 3 * (12 + 2 + 1) + 3)
unfolding width
goal_weighs = refl
