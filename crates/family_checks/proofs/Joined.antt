-- Going on over the refusals of clafer after clafer.
use Rattle.std.proofs.Common.{◌≡◌, ℕ, ◌+◌, Bool, true, false, List, [], ◌∷◌, ◌++◌, Option, Some, refl, ap, sym, ◌∙◌}
use Rattle.std.specs.Prelude.{slice_get}
use Rattle.std.specs.Option.{option_map_or}
use Rattle.std.specs.List.{flat_map}
use Rattle.std.proofs.lemmas.Bool.{true≢false}
use Rattle.std.proofs.lemmas.List.{flat_map_more}
use Rattle.clf_base.specs.declared.fault.Span.{Span}
use Rattle.clf_base.specs.declared.fault.Refusal.{Refusal}
use Rattle.refusal_order.specs.Order.{with_refusal, with_refusals}
use Rattle.clf_tree.specs.declared.model.Clafer.{Clafer}
use Rattle.clf_tree.specs.Lists.{numbers_below}
use Rattle.clf_tree.specs.Named.{contains_itself, repeats_inherited}
use Rattle.super_linker.specs.Supers.{refused_if}
use Rattle.family_checks.specs.Families.{reference_refusals, refusals_at, clafer_refusals}
use Rattle.family_checks.specs.Marks.{is_marked, MarkRepeats}
use Rattle.family_checks.proofs.Numbers.{numbers-more}

pub with_refusals-append : (first : Option Refusal) (xs ys : List Refusal) → with_refusals first (xs ++ ys) ≡ with_refusals (with_refusals first xs) ys
with_refusals-append first [] ys = refl
with_refusals-append first (x ∷ xs) ys = with_refusals-append (with_refusal first x) xs ys

-- one more number
pub one_more : (f : ℕ → List Refusal) (start now next : Option Refusal) (i : ℕ) → now ≡ with_refusals start (flat_map f (numbers_below i)) → next ≡ with_refusals now (f i)
    → next ≡ with_refusals start (flat_map f (numbers_below (i + 1)))
one_more f start now next i so step =
    step ∙ ap (λ r. with_refusals r (f i)) so ∙ sym (with_refusals-append start (flat_map f (numbers_below i)) (f i))
    ∙ ap (with_refusals start) (flat_map_more f [] (numbers_below i) i) ∙ ap (λ xs. with_refusals start (flat_map f xs)) (sym (numbers-more i))

-- the three refusals of a clafer, one after the other
pub in_one : (cs : List Clafer) (c : ℕ) (k : Clafer) (first r s t : Option Refusal) → slice_get cs c ≡ Some k
    → r ≡ with_refusals first (refused_if (contains_itself cs c) 64 k.title.at)
    → s ≡ with_refusals r (reference_refusals cs c k.reference)
    → t ≡ with_refusals s (refused_if (repeats_inherited cs c) 68 k.title.at)
    → t ≡ with_refusals first (clafer_refusals cs c)
in_one cs c k first r s t at one two three =
    let xs = refused_if (contains_itself cs c) 64 k.title.at in
    let ys = reference_refusals cs c k.reference in
    let zs = refused_if (repeats_inherited cs c) 68 k.title.at in
    three ∙ ap (λ z. with_refusals z zs) two ∙ sym (with_refusals-append r ys zs)
    ∙ ap (λ z. with_refusals z (ys ++ zs)) one ∙ sym (with_refusals-append first xs (ys ++ zs))
    ∙ ap (λ (z : Option Clafer). with_refusals first (option_map_or (refusals_at cs c) z [])) (sym at)

-- what isn't marked isn't refused
pub not_marked : (cs : List Clafer) (marks : List Bool) (c : ℕ) (first : Option Refusal) (at : Span) → MarkRepeats cs marks → is_marked marks c ≡ false
    → first ≡ with_refusals first (refused_if (repeats_inherited cs c) 68 at)
not_marked cs marks c first at marked none = by_test (repeats_inherited cs c) refl
  where
    by_test : (b : Bool) → repeats_inherited cs c ≡ b → first ≡ with_refusals first (refused_if b 68 at)
    by_test false e = refl
    by_test true e = absurd (true≢false (sym (marked c e) ∙ none))
