-- Who owns a clafer, and going from owner to owner.
use Rattle.std.proofs.Common.{◌≡◌, ℕ, zero, suc, ◌<◌, Bool, true, false, not, ◌&&◌, ◌||◌, List, [], length, Option, Some, None, refl, ap, sym, ◌∙◌}
use Rattle.std.specs.Prelude.{slice_get, eqb}
use Rattle.std.specs.Option.{option_map_or}
use Rattle.std.specs.List.{filter}
use Rattle.std.proofs.lemmas.Bool.{and_parts, and_from, and_left, eqb-true, eq-eqb}
use Rattle.clf_tree.specs.declared.model.Clafer.{Clafer}
use Rattle.clf_tree.specs.Lists.{has, numbers_below}
use Rattle.clf_tree.specs.Hierarchy.{parent_of, is_concrete, is_a, concrete_below, owners}
use Rattle.clf_tree.specs.Named.{owners_of, is_outside}
use Rattle.family_checks.proofs.Numbers.{any-some}
use Rattle.family_checks.proofs.Found.{any_at, any_filter, same_tests}

-- a number is in a filter of numbers exactly where it passes
pub kept : (p : ℕ → Bool) (xs : List ℕ) (o : ℕ) → has (filter p xs) o ≡ true → p o ≡ true
kept p xs o met =
    let a = any_at (λ y. p y && eqb o y) xs (sym (any_filter p (eqb o) xs) ∙ met) in
    let parts = and_parts (p a.item) (eqb o a.item) a.passes in
    ap p (eqb-true o a.item parts.1) ∙ parts.0

stays : (p : ℕ → Bool) (n o : ℕ) → o < n → p o ≡ true → has (filter p (numbers_below n)) o ≡ true
stays p n o within pass =
    any_filter p (eqb o) (numbers_below n) ∙ any-some (λ y. p y && eqb o y) n o within (and_from (p o) (eqb o o) pass (eq-eqb o o refl))

pub has_filter : (p : ℕ → Bool) (n o : ℕ) → o < n → has (filter p (numbers_below n)) o ≡ p o
has_filter p n o within = same_tests (has (filter p (numbers_below n)) o) (p o) (kept p (numbers_below n) o) (stays p n o within)

-- an owner is concrete and is-a the parent
pub record Owns (clafers : List Clafer) (d o : ℕ) : Type 0 where
  pub parent : ℕ
  pub declared : parent_of clafers d ≡ Some parent
  pub concrete : is_concrete clafers o ≡ true
  pub under : is_a clafers o parent ≡ true

owns_by : (clafers : List Clafer) (d o : ℕ) (parent : Option ℕ) → parent_of clafers d ≡ parent → has (option_map_or (concrete_below clafers) parent []) o ≡ true → Owns clafers d o
owns_by clafers d o None e met = (cc)
owns_by clafers d o (Some p) e met =
    let parts = and_parts (is_concrete clafers o) (is_a clafers o p) (kept (λ x. is_concrete clafers x && is_a clafers x p) (numbers_below (length clafers)) o met) in
    record { parent = p; declared = e; concrete = parts.0; under = parts.1 }

pub owns : (clafers : List Clafer) (d o : ℕ) → has (owners clafers d) o ≡ true → Owns clafers d o
owns clafers d o met = owns_by clafers d o (parent_of clafers d) refl met

owner_is : (clafers : List Clafer) (d o p : ℕ) → parent_of clafers d ≡ Some p → o < length clafers → has (owners clafers d) o ≡ (is_concrete clafers o && is_a clafers o p)
owner_is clafers d o p e within =
    ap (λ (q : Option ℕ). has (option_map_or (concrete_below clafers) q []) o) e ∙ has_filter (λ x. is_concrete clafers x && is_a clafers x p) (length clafers) o within

pub owner_none : (clafers : List Clafer) (d o : ℕ) (q : Option ℕ) → q ≡ parent_of clafers d → q ≡ None → false ≡ has (owners clafers d) o
owner_none clafers d o q is none = ap (λ (p : Option ℕ). has (option_map_or (concrete_below clafers) p []) o) (sym none ∙ is)

pub owner_abstract : (clafers : List Clafer) (d o p : ℕ) (k : Clafer) (q : Option ℕ) → q ≡ parent_of clafers d → q ≡ Some p → o < length clafers → slice_get clafers o ≡ Some k → k.is_abstract ≡ true
    → false ≡ has (owners clafers d) o
owner_abstract clafers d o p k q is some within at abstract =
    let test : is_concrete clafers o ≡ false = ap (λ (z : Option Clafer). option_map_or (λ x. not x.is_abstract) z false) at ∙ ap not abstract in
    sym (owner_is clafers d o p (sym is ∙ some) within ∙ and_left (is_concrete clafers o) (is_a clafers o p) test)

pub owner_tested : (clafers : List Clafer) (d o p : ℕ) (k : Clafer) (q : Option ℕ) (b : Bool) → q ≡ parent_of clafers d → q ≡ Some p → o < length clafers → slice_get clafers o ≡ Some k → k.is_abstract ≡ false
    → b ≡ is_a clafers o p → b ≡ has (owners clafers d) o
owner_tested clafers d o p k q b is some within at concrete test =
    let there : is_concrete clafers o ≡ true = ap (λ (z : Option Clafer). option_map_or (λ x. not x.is_abstract) z false) at ∙ ap not concrete in
    test ∙ sym (owner_is clafers d o p (sym is ∙ some) within ∙ ap (λ z. z && is_a clafers o p) there)

pub ruleset owner_facts = (owner_none, owner_abstract, owner_tested)

-- ---- from owner to owner

pub outside_here : (clafers : List Clafer) (n c : ℕ) (ds : List ℕ) → has ds c ≡ true → is_outside clafers n ds c ≡ true
outside_here clafers zero c ds met = met
outside_here clafers (suc n) c ds met = ap (λ b. b || is_outside clafers n (owners_of clafers ds) c) met

pub outside_more : (clafers : List Clafer) (n c : ℕ) (ds : List ℕ) → has ds c ≡ false → is_outside clafers (suc n) ds c ≡ is_outside clafers n (owners_of clafers ds) c
outside_more clafers n c ds none = ap (λ b. b || is_outside clafers n (owners_of clafers ds) c) none
