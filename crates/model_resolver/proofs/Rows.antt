-- Small plain models, computed: which of several refusals is given.
use Rattle.std.proofs.Common.{◌≡◌, ℕ, true, false, List, [], ◌∷◌, ◌++◌, Option, Some, None, refl, ap, ◌∙◌}
use Rattle.std.specs.Option.{option_or}
use Rattle.std.specs.List.{cons_option}
use Rattle.clf_base.specs.declared.fault.Span.{Span}
use Rattle.refusal_order.specs.Order.{refused, first_refusal}
use Rattle.clf_tree.specs.declared.token.Title.{Title}
use Rattle.clf_tree.specs.declared.module.Pointer.{Pointer}
use Rattle.clf_tree.specs.declared.expr.Expr.{roll-Expr, fold-roll-Expr}
use Rattle.clf_tree.specs.declared.expr.Form.{roll-Form}
use Rattle.clf_tree.specs.declared.expr.Form.TheOpen as open_form
use Rattle.clf_tree.specs.declared.expr.Form.TheFolds.{fold-roll-Form}
use Rattle.clf_tree.specs.Tree.{Tree, Name, form_tree, tree}
use Rattle.clf_tree.specs.declared.model.Rule.{Rule}
use Rattle.clf_tree.specs.declared.plain.PlainClafer.{PlainClafer}
use Rattle.clf_tree.specs.declared.plain.Plain.{Plain}
use Rattle.name_resolver.specs.Meaning.{meaning_of}
use Rattle.target_finder.specs.Targets.{targeted, target_refusals}
use Rattle.expression_names.specs.LookedUp.{name_meaning, refusal}
use Rattle.expression_names.specs.Models.{from, name_refusals}
use Rattle.model_resolver.specs.Resolved.{resolved_clafers, clafers_refusal, refusal_of}

abbrev at : ℕ → Span
at line = record { line = line; column = 1 }

abbrev title : ℕ → ℕ → Title
title name line = record { name = name ∷ []; at = at line }

-- a concrete clafer of this name, parent, super and reference, on this line
abbrev clafer : ℕ → ℕ → Option ℕ → Option Title → Option Pointer → PlainClafer
clafer line name parent above reference = record {
  at = at line;
  title = title name line;
  is_abstract = false;
  parent = parent;
  above = above;
  group = record { low = 0; high = None };
  times = record { low = 1; high = Some 1 };
  reference = reference;
}

abbrev abstract_clafer : ℕ → ℕ → PlainClafer
abstract_clafer line name = record (clafer line name None None None) { is_abstract = true }

abbrev to : ℕ → ℕ → Option Pointer
to name line = Some (record { at = at line; bag = false; to = Some (title name line) })

-- `[ q ]` at top level, on this line; no clafer is named q
abbrev missing_name : ℕ → Rule
missing_name line = record { context = None; body = roll-Expr (record { at = at line; form = roll-Form (open_form.Name (113 ∷ [])) }) }

abbrev plain : List PlainClafer → List Rule → Plain
plain clafers rules = record { clafers = clafers; rules = rules; goals = [] }

-- a super that is not there on line 4, a target that is not there on line 3, a name that is not there on line 1
pub supers_first : refusal_of (plain (clafer 3 97 None None (to 113 3) ∷ clafer 4 98 None (Some (title 113 4)) None ∷ []) (missing_name 1 ∷ [])) ≡ Some (refused 60 (at 4) 0)
unfolding meaning_of name_meaning targeted target_refusals name_refusals
supers_first = refl

-- abstract A with a : A below it, so a contains itself; the others as above
pub families_next :
    refusal_of (plain (clafer 3 98 None None (to 113 3) ∷ abstract_clafer 4 65 ∷ clafer 5 97 (Some 1) (Some (title 65 5)) None ∷ []) (missing_name 1 ∷ [])) ≡ Some (refused 64 (at 5) 0)
unfolding meaning_of name_meaning targeted target_refusals name_refusals
families_next = refl

pub targets_then : refusal_of (plain (clafer 3 97 None None (to 113 3) ∷ []) (missing_name 1 ∷ [])) ≡ Some (refused 67 (at 3) 0)
unfolding meaning_of name_meaning targeted target_refusals name_refusals
targets_then = refl

name_tree : (place : Span) (n : List ℕ) → tree (roll-Expr (record { at = place; form = roll-Form (open_form.Name n) })) ≡ Name place n
name_tree place n =
    fold-roll-Expr (Span → Tree) Tree form_tree (λ e. e.form e.at) (record { at = place; form = roll-Form (open_form.Name n) })
    ∙ ap (λ (f : Span → Tree). f place) (fold-roll-Form (Span → Tree) Tree form_tree (λ e. e.form e.at) (open_form.Name n))

-- a, which refers to itself
abbrev self_reference : List PlainClafer
self_reference = clafer 3 97 None None (to 97 3) ∷ []

pub names_last : refusal_of (plain self_reference (missing_name 1 ∷ [])) ≡ Some (refused 62 (at 1) 0)
unfolding meaning_of name_meaning targeted target_refusals name_refusals
names_last =
    ap (λ (t : Tree). option_or (clafers_refusal self_reference) (first_refusal (cons_option (refusal (resolved_clafers self_reference) t (from None)) [] ++ []))) (name_tree (at 1) (113 ∷ []))

pub accepted : refusal_of (plain self_reference []) ≡ None
unfolding meaning_of name_meaning targeted target_refusals name_refusals
accepted = refl
