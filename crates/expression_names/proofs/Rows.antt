-- Names on small models, computed.
use Rattle.std.proofs.Common.{◌≡◌, ℕ, true, false, List, [], ◌∷◌, Option, Some, None, refl}
use Rattle.clf_base.specs.declared.fault.Span.{Span}
use Rattle.refusal_order.specs.Order.{refused}
use Rattle.clf_tree.specs.declared.token.Title.{Title}
use Rattle.clf_tree.specs.declared.token.Word.TheVariants as word
use Rattle.clf_tree.specs.declared.model.Clafer.{Clafer}
use Rattle.clf_tree.specs.Tree.{Tree, This, Variable, Clafer as All, Name, Join, Step, Parent, Quant, And}
use Rattle.name_resolver.specs.Meaning.{meaning_of}
use Rattle.expression_names.specs.LookedUp.{name_meaning, step_by, looked_up, refusal}
use Rattle.expression_names.specs.Scopes.{bind}
use Rattle.expression_names.specs.Models.{from}

abbrev at : ℕ → Span
at column = record { line = 1; column = column }

abbrev clafer : ℕ → Option ℕ → Option ℕ → Clafer
clafer name parent target = record {
  title = record { name = name ∷ []; at = at 1 };
  is_abstract = false;
  parent = parent;
  above = None;
  group = record { low = 0; high = None };
  times = record { low = 1; high = Some 1 };
  reference = Some (record { at = at 1; bag = false; to = target });
}

abbrev plain : ℕ → Option ℕ → Clafer
plain name parent = record (clafer name parent None) { reference = None }

-- x; a with another x; and r, which refers to a
abbrev model : List Clafer
model = plain 120 None ∷ plain 97 None ∷ plain 120 (Some 1) ∷ clafer 114 None (Some 1) ∷ []

abbrev x : ℕ → Tree
x column = Name (at column) (120 ∷ [])

abbrev a : ℕ → Tree
a column = Name (at column) (97 ∷ [])

pub the_nearest : looked_up model (x 5) (from (Some 1)) ≡ Step (at 5) (This (at 5)) (2 ∷ []) false
unfolding name_meaning meaning_of
the_nearest = refl

pub at_top_level : looked_up model (x 5) (from None) ≡ All (at 5) 0
unfolding name_meaning meaning_of
at_top_level = refl

pub not_found : refusal model (Name (at 7) (121 ∷ [])) (from (Some 1)) ≡ Some (refused 62 (at 7) 0)
unfolding name_meaning meaning_of
not_found = refl

pub below_a : looked_up model (Join (at 3) (a 1) (120 ∷ [])) (from None) ≡ Step (at 3) (All (at 1) 1) (2 ∷ []) false
unfolding name_meaning meaning_of step_by
below_a = refl

pub by_target : looked_up model (Join (at 3) (Name (at 1) (114 ∷ [])) (120 ∷ [])) (from None) ≡ Step (at 3) (All (at 1) 3) (2 ∷ []) true
unfolding name_meaning meaning_of step_by
by_target = refl

pub no_child : refusal model (Join (at 3) (x 1) (97 ∷ [])) (from None) ≡ Some (refused 62 (at 3) 0)
unfolding name_meaning meaning_of step_by
no_child = refl

-- a truth value has no child
pub of_truth : refusal model (Join (at 9) (And (at 3) (x 1) (x 6)) (97 ∷ [])) (from None) ≡ Some (refused 62 (at 9) 0)
unfolding name_meaning meaning_of step_by
of_truth = refl

pub no_this : refusal model (This (at 4)) (from None) ≡ Some (refused 66 (at 4) 0)
no_this = refl

pub no_parent : refusal model (Parent (at 3) (a 1)) (from None) ≡ Some (refused 66 (at 3) 0)
unfolding name_meaning meaning_of
no_parent = refl

abbrev title : ℕ → Title
title name = record { name = name ∷ []; at = at 1 }

-- `all a, x : a | x` and `.. | a`
pub innermost : looked_up model (Quant (at 1) word.All false (title 97 ∷ title 120 ∷ []) (a 5) (x 9)) (from None)
    ≡ Quant (at 1) word.All false (title 97 ∷ title 120 ∷ []) (All (at 5) 1) (Variable (at 9) 0)
unfolding name_meaning meaning_of bind
innermost = refl

pub one_further : looked_up model (Quant (at 1) word.All false (title 97 ∷ title 120 ∷ []) (a 5) (a 9)) (from None)
    ≡ Quant (at 1) word.All false (title 97 ∷ title 120 ∷ []) (All (at 5) 1) (Variable (at 9) 1)
unfolding name_meaning meaning_of bind
one_further = refl

-- b with c and d, each with a y
abbrev two_below : List Clafer
two_below = plain 98 None ∷ plain 99 (Some 0) ∷ plain 121 (Some 1) ∷ plain 100 (Some 0) ∷ plain 121 (Some 3) ∷ []

pub ambiguous : refusal two_below (Name (at 7) (121 ∷ [])) (from (Some 0)) ≡ Some (refused 63 (at 7) 0)
unfolding name_meaning meaning_of
ambiguous = refl

pub beside : looked_up two_below (Name (at 7) (100 ∷ [])) (from (Some 1)) ≡ Step (at 7) (Parent (at 7) (This (at 7))) (3 ∷ []) false
unfolding name_meaning meaning_of
beside = refl
