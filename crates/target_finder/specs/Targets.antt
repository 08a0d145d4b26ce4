-- Which clafers the references of a model refer to, and what is refused of them.
use Rattle.std.specs.Prelude.{ℕ, ◌≡◌, ◌-◌, List, ◌∷◌, length, map, slice_get, Option, Some, None}
use Rattle.std.specs.Option.{option_map, option_and_then}
use Rattle.std.specs.List.{filter_map}
use Rattle.clf_base.specs.declared.fault.Span.{Span}
use Rattle.clf_base.specs.declared.fault.Refusal.{Refusal}
use Rattle.clf_base.specs.declared.fault.Fault.{Fault}
use Rattle.clf_base.specs.declared.fault.Fault.TheVariants as fault
use Rattle.refusal_order.specs.Order.{refused, with_refusal, first_refusal}
use Rattle.clf_tree.specs.declared.token.Title.{Title}
use Rattle.clf_tree.specs.declared.module.Pointer.{Pointer}
use Rattle.clf_tree.specs.declared.model.Clafer.{Clafer}
use Rattle.clf_tree.specs.declared.model.Reference.{Reference}
use Rattle.clf_tree.specs.declared.plain.PlainClafer.{PlainClafer}
use Rattle.name_resolver.specs.declared.steps.Meant.{Meant}
use Rattle.name_resolver.specs.declared.steps.Meant.TheVariants as meant
use Rattle.name_resolver.specs.declared.outside.Found.{Found}
use Rattle.name_resolver.specs.declared.outside.Found.TheVariants as found
use Rattle.name_resolver.specs.Meaning.{meaning_of}

-- the clafer at the end of the way, or the one at top level
abbrev pub end_of : Meant → Option ℕ
end_of (meant.Variable i) = None
end_of (meant.Below out way) = slice_get way (length way - 1)
end_of (meant.Top c) = Some c

abbrev pub clafer_of : Found → Option ℕ
clafer_of (found.Means m) = end_of m
clafer_of _ = None

-- a target is not found, or is ambiguous
abbrev pub refusal_of : Span → Found → Option Refusal
refusal_of at found.Nothing = Some (refused 67 at 0)
refusal_of at found.Several = Some (refused 63 at 0)
refusal_of at (found.Means m) = None

-- the name of its target, where it has one
abbrev pub title_of : Option Pointer → Option Title
title_of reference = option_and_then (λ p. p.to) reference

module _ (clafers : List Clafer) where
  -- of a reference whose clafer is declared under this one: what the target's name means from there
  abbrev pub target_from : Option ℕ → Option Pointer → Option ℕ
  target_from parent reference = option_and_then (λ t. clafer_of (meaning_of clafers parent t.name)) (title_of reference)

  abbrev pub refusal_from : Option ℕ → Option Pointer → Option Refusal
  refusal_from parent reference = option_and_then (λ t. refusal_of t.at (meaning_of clafers parent t.name)) (title_of reference)

  abbrev pub target_of : PlainClafer → Option ℕ
  target_of k = target_from k.parent k.reference

  abbrev pub target_refusal : PlainClafer → Option Refusal
  target_refusal k = refusal_from k.parent k.reference

  -- of all clafers, in model order
  unfoldable pub target_refusals : List PlainClafer → List Refusal
  target_refusals ks = filter_map target_refusal ks

abbrev pub refers_to : Option ℕ → Reference → Reference
refers_to target r = record r { to = target }

-- a clafer with the target of its reference
abbrev pub with_target : Option ℕ → Clafer → Clafer
with_target target k = record k { reference = option_map (refers_to target) k.reference }

-- one after the other
abbrev pub with_targets : List (Option ℕ) → List Clafer → List Clafer
with_targets (t ∷ ts) (k ∷ ks) = with_target t k ∷ with_targets ts ks
with_targets ts ks = ks

-- the clafers with their targets, looked up among clafers with their supers
unfoldable pub targeted : List Clafer → List PlainClafer → List Clafer
targeted clafers ks = with_targets (map (target_of clafers) ks) clafers

-- the first of two refusals that may be missing
abbrev pub sooner : Option Refusal → Option Refusal → Option Refusal
sooner first None = first
sooner first (Some r) = with_refusal first r

-- what holds of a fault: a refusal is the first of the targets, and want of memory says nothing
abbrev pub Explains : List Clafer → List PlainClafer → Fault → Type 0
Explains clafers ks (fault.Refused r) = first_refusal (target_refusals clafers ks) ≡ Some r
Explains clafers ks fault.NoMemory = Unit {0}
