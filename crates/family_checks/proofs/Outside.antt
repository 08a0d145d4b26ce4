-- Where heights don't rise from a clafer to its owners, a clafer whose owners are all lower doesn't contain itself.
use Rattle.std.proofs.Common.{◌≡◌, ◌≢◌, ℕ, zero, suc, ◌<◌, ◌≤◌, Bool, true, false, ◌||◌, List, [], length, Option, Some, None, refl, ap, sym, subst, ◌∙◌, arith, ◌⊎◌, inl, inr}
use Rattle.std.specs.Prelude.{eqb}
use Rattle.std.specs.Option.{option_map_or}
use Rattle.std.specs.List.{list_any}
use Rattle.std.proofs.lemmas.Bool.Decides.{eqb_tells}
use Rattle.std.proofs.lemmas.Bool.{true≢false, or_cases}
use Rattle.clf_base.specs.declared.fault.Span.{Span}
use Rattle.clf_base.specs.declared.fault.Refusal.{Refusal}
use Rattle.refusal_order.specs.Order.{with_refusals}
use Rattle.clf_tree.specs.declared.model.Clafer.{Clafer}
use Rattle.clf_tree.specs.Lists.{has, numbers_below}
use Rattle.clf_tree.specs.Hierarchy.{super_of, way_up, owners}
use Rattle.clf_tree.specs.Named.{owners_of, is_outside, contains_itself}
use Rattle.super_linker.specs.Supers.{refused_if}
use Rattle.family_checks.specs.Heights.{height_of, Rise, StandsAbove}
use Rattle.family_checks.proofs.Found.{any_at, has_at}
use Rattle.family_checks.proofs.Owners.{kept, owns}

-- ---- on the way up the heirs get no lower

at_first : (heirs : List ℕ) (low high : ℕ) (b : Bool) → ((eqb high low ≡ true) × (high ≡ low)) ⊎ ((eqb high low ≡ false) × (high ≢ low)) → (b ≡ true → height_of heirs low ≤ height_of heirs high)
    → (eqb high low || b) ≡ true → height_of heirs low ≤ height_of heirs high
at_first heirs low high b (inl h) rest met = let same : height_of heirs high ≡ height_of heirs low = ap (height_of heirs) h.1 in omega (arith, same)
at_first heirs low high b (inr h) rest met = rest (ap (λ z. z || b) (sym h.0) ∙ met)

on_way : (clafers : List Clafer) (own heirs : List ℕ) (low high n : ℕ) (next : Option ℕ) → Rise clafers own heirs → super_of clafers low ≡ next
    → ((mid : ℕ) → has (way_up clafers n mid) high ≡ true → height_of heirs mid ≤ height_of heirs high)
    → has (option_map_or (way_up clafers n) next []) high ≡ true → height_of heirs low ≤ height_of heirs high
on_way clafers own heirs low high n None rise e rest met = absurd (true≢false (sym met))
on_way clafers own heirs low high n (Some mid) rise e rest met =
    let first = (rise low).heirs_of_super mid e in
    let then = rest mid met in
    omega (arith, first, then)

no_lower : (clafers : List Clafer) (own heirs : List ℕ) (high n low : ℕ) → Rise clafers own heirs → has (way_up clafers n low) high ≡ true → height_of heirs low ≤ height_of heirs high
no_lower clafers own heirs high zero low rise met = at_first heirs low high false (eqb_tells high low) (λ e. absurd (true≢false (sym e))) met
no_lower clafers own heirs high (suc n) low rise met =
    at_first heirs low high (has (option_map_or (way_up clafers n) (super_of clafers low) []) high) (eqb_tells high low)
    (on_way clafers own heirs low high n (super_of clafers low) rise refl (λ mid m. no_lower clafers own heirs high n mid rise m)) met

-- ---- owners

-- each of the clafers is lower than r
abbrev Lower : List ℕ → ℕ → List ℕ → Type 0
Lower own r ds = (d : ℕ) → has ds d ≡ true → height_of own d < r

owner_lower : (clafers : List Clafer) (own heirs : List ℕ) (d o r : ℕ) → Rise clafers own heirs → height_of own d < r → has (owners clafers d) o ≡ true → height_of own o < r
owner_lower clafers own heirs d o r rise low met =
    let w = owns clafers d o met in
    let a = (rise o).is_heir w.concrete in
    let b = no_lower clafers own heirs w.parent (length clafers) o rise w.under in
    let c = (rise d).below_parent w.parent w.declared in
    omega (arith, low, a, b, c)

owners_lower : (clafers : List Clafer) (own heirs : List ℕ) (r : ℕ) (ds : List ℕ) → Rise clafers own heirs → Lower own r ds → Lower own r (owners_of clafers ds)
owners_lower clafers own heirs r ds rise low o met =
    let w = any_at (λ d. has (owners clafers d) o) ds (kept (λ z. list_any (λ d. has (owners clafers d) z) ds) (numbers_below (length clafers)) o met) in
    owner_lower clafers own heirs w.item o r rise (low w.item (has_at ds w.index w.item w.at)) w.passes

outside_lower : (clafers : List Clafer) (own heirs : List ℕ) (r c n : ℕ) (ds : List ℕ) → Rise clafers own heirs → Lower own r ds → is_outside clafers n ds c ≡ true → height_of own c < r
outside_lower clafers own heirs r c zero ds rise low met = low c met
outside_lower clafers own heirs r c (suc n) ds rise low met = elim (or_cases (has ds c) (is_outside clafers n (owners_of clafers ds) c) met) [
  | inl here ↦ low c here
  | inr more ↦ outside_lower clafers own heirs r c n (owners_of clafers ds) rise (owners_lower clafers own heirs r ds rise low) more
]

first_lower : (clafers : List Clafer) (own heirs : List ℕ) (c : ℕ) → Rise clafers own heirs → StandsAbove clafers own heirs c → Lower own (height_of own c) (owners clafers c)
first_lower clafers own heirs c rise above o met =
    let w = owns clafers c o met in
    let a = (rise o).is_heir w.concrete in
    let b = no_lower clafers own heirs w.parent (length clafers) o rise w.under in
    let s = above w.parent w.declared in
    omega (arith, a, b, s)

by_test : (clafers : List Clafer) (own heirs : List ℕ) (c : ℕ) (b : Bool) → Rise clafers own heirs → StandsAbove clafers own heirs c → contains_itself clafers c ≡ b → false ≡ b
by_test clafers own heirs c false rise above met = refl
by_test clafers own heirs c true rise above met =
    let low = outside_lower clafers own heirs (height_of own c) c (length clafers) (owners clafers c) rise (first_lower clafers own heirs c rise above) met in
    absurd (omega (arith, low))

pub stays_outside : (clafers : List Clafer) (own heirs : List ℕ) (c : ℕ) → Rise clafers own heirs → StandsAbove clafers own heirs c → false ≡ contains_itself clafers c
stays_outside clafers own heirs c rise above = by_test clafers own heirs c (contains_itself clafers c) rise above refl

-- the same of the heights as slices
pub stays_at : (clafers : List Clafer) (own heirs os hs : List ℕ) (c : ℕ) → os ≡ own → hs ≡ heirs → Rise clafers own heirs → StandsAbove clafers os hs c → false ≡ contains_itself clafers c
stays_at clafers own heirs os hs c e f rise above =
    stays_outside clafers os hs c (subst (λ (z : List ℕ). Rise clafers z hs) (sym e) (subst (λ (z : List ℕ). Rise clafers own z) (sym f) rise)) above

pub nothing_refused : (clafers : List Clafer) (own heirs os hs : List ℕ) (c : ℕ) (first : Option Refusal) (at : Span) → os ≡ own → hs ≡ heirs → Rise clafers own heirs → StandsAbove clafers os hs c
    → first ≡ with_refusals first (refused_if (contains_itself clafers c) 64 at)
nothing_refused clafers own heirs os hs c first at e f rise above = ap (λ b. with_refusals first (refused_if b 64 at)) (stays_at clafers own heirs os hs c e f rise above)

pub no_heights : (clafers : List Clafer) (own heirs : List ℕ) → own ≡ [] → heirs ≡ [] → Rise clafers own heirs
no_heights clafers own heirs e f c = record {
  below_parent = λ p q. let none : height_of heirs p ≡ 0 = ap (λ (hs : List ℕ). height_of hs p) f in omega (arith, none);
  is_heir = λ q. let none : height_of own c ≡ 0 = ap (λ (hs : List ℕ). height_of hs c) e in omega (arith, none);
  heirs_of_super = λ s q. let none : height_of heirs c ≡ 0 = ap (λ (hs : List ℕ). height_of hs c) f in omega (arith, none);
}
