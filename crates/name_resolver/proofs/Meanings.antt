-- What a name means, step by step outwards.
use Rattle.std.proofs.Common.{◌≡◌, ℕ, ◌+◌, ◌<◌, ◌&&◌, Bool, true, false, List, length, Option, Some, None, refl, ap, sym, subst, ◌∙◌, arith}
use Rattle.std.specs.Prelude.{nat_lt, IsTrue}
use Rattle.std.specs.Option.{option_map_or}
use Rattle.std.specs.List.{list_all}
use Rattle.std.proofs.lemmas.Bool.{true≢false}
use Rattle.std.proofs.lemmas.Bool.Decides.{Decides-ltb}
use Rattle.clf_tree.specs.declared.model.Clafer.{Clafer}
use Rattle.clf_tree.specs.Lists.{numbers_below}
use Rattle.clf_tree.specs.Hierarchy.{parent_of, is_below}
use Rattle.clf_tree.specs.Named.{each, follows_parent}
use Rattle.name_resolver.specs.declared.nearest.Nearest.TheVariants as nearest
use Rattle.name_resolver.specs.declared.outside.Found.{Found}
use Rattle.name_resolver.specs.declared.outside.Found.TheVariants as found
use Rattle.name_resolver.specs.declared.steps.Meant.TheVariants as meant
use Rattle.name_resolver.specs.Ways.{down}
use Rattle.name_resolver.specs.LookUp.{IsNearest, only}
use Rattle.name_resolver.specs.FirstWay.{IsTakenIfAny}
use Rattle.name_resolver.specs.Outwards.{Means, at_top, below, ambiguous, outside, top}
use Rattle.name_resolver.proofs.Members.{In, first, later, in_numbers}

both : (a b : Bool) → (a && b) ≡ true → (a ≡ true) × (b ≡ true)
both true b h = (refl, h)
both false b h = absurd (true≢false (sym h))

in_all : (p : ℕ → Bool) (c : ℕ) (xs : List ℕ) → list_all p xs ≡ true → In c xs → p c ≡ true
in_all p c _ all (first {xs = xs}) = (both (p c) (list_all p xs) all).0
in_all p c _ all (later {x = x} {xs = xs} i) = in_all p c xs ((both (p x) (list_all p xs) all).1) i

pub means_below : (clafers : List Clafer) (c : ℕ) (name : List ℕ) (out d : ℕ) (way : List ℕ) → IsNearest clafers c name (nearest.Only d) → IsTakenIfAny clafers c way d
    → Means clafers name (Some c) out (found.Means (meant.Below out way))
means_below clafers c name out d way (only other hit shortest one) taken = below (only other hit shortest one) (taken other hit.leads hit.some_step)

pub means_several : (clafers : List Clafer) (c : ℕ) (name : List ℕ) (out : ℕ) → IsNearest clafers c name nearest.Several → Means clafers name (Some c) out found.Several
means_several clafers c name out near = ambiguous near

pub means_outside : (clafers : List Clafer) (c : ℕ) (name : List ℕ) (out : ℕ) (p : Option ℕ) (r : Found) → IsNearest clafers c name nearest.Nothing → parent_of clafers c ≡ p
    → Means clafers name p (out + 1) r → Means clafers name (Some c) out r
means_outside clafers c name out p r near e m = outside near e m

-- a parent stands before its child
pub parent_before : (clafers : List Clafer) (c p : ℕ) → c < length clafers → IsTrue (each clafers (follows_parent clafers)) → parent_of clafers c ≡ Some p → p < c
parent_before clafers c p within all e =
    let one : follows_parent clafers c ≡ true = in_all (follows_parent clafers) c (numbers_below (length clafers)) all (in_numbers (length clafers) c within) in
    let lower : nat_lt p c ≡ true = ap (is_below c) (sym e) ∙ one in
    (Decides-ltb p c).0 lower

-- going to the parent goes down in the model
pub smaller : (clafers : List Clafer) (k : ℕ) (p current : Option ℕ) → current ≡ Some k → p ≡ parent_of clafers k → k < length clafers → IsTrue (each clafers (follows_parent clafers))
    → option_map_or (λ c. c + 1) p 0 < option_map_or (λ c. c + 1) current 0
smaller clafers k None current e at within all =
    let now : option_map_or (λ c. c + 1) current 0 ≡ k + 1 = ap (λ (o : Option ℕ). option_map_or (λ c. c + 1) o 0) e in
    omega (arith, now)
smaller clafers k (Some q) current e at within all =
    let now : option_map_or (λ c. c + 1) current 0 ≡ k + 1 = ap (λ (o : Option ℕ). option_map_or (λ c. c + 1) o 0) e in
    let before = parent_before clafers k q within all (sym at) in
    omega (arith, now, before)

pub means_top : (clafers : List Clafer) (name : List ℕ) (out : ℕ) (current : Option ℕ) (r : Found) → current ≡ None → r ≡ at_top clafers name → Means clafers name current out r
means_top clafers name out current r e is =
    subst (λ (o : Option ℕ). Means clafers name o out r) (sym e) (subst (λ (f : Found). Means clafers name None out f) (sym is) top)

pub means_from : (clafers : List Clafer) (name : List ℕ) (k out : ℕ) (current p : Option ℕ) (r : Found) → current ≡ Some k → IsNearest clafers k name nearest.Nothing → p ≡ parent_of clafers k
    → Means clafers name p (out + 1) r → Means clafers name current out r
means_from clafers name k out current p r e near at m =
    subst (λ (o : Option ℕ). Means clafers name o out r) (sym e) (outside near (sym at) m)
