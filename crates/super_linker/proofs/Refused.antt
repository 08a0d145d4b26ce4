-- Going on over the refusals of clafer after clafer.
use Rattle.std.proofs.Common.{◌≡◌, ℕ, ◌+◌, Bool, true, false, not, ◌&&◌, List, [], ◌∷◌, ◌++◌, map, Option, Some, None, refl, ap, sym, ◌∙◌, arith}
use Rattle.std.specs.Prelude.{if◌then◌else◌}
use Rattle.std.specs.List.{flat_map, list_all}
use Rattle.std.proofs.lemmas.List.{flat_map_more}
use Rattle.std.proofs.lemmas.List.FromFn.{map-range_with_len_more}
use Rattle.clf_base.specs.declared.fault.Span.{Span}
use Rattle.clf_base.specs.declared.fault.Refusal.{Refusal}
use Rattle.refusal_order.specs.Order.{is_before, with_refusal, with_refusals, first_refusal}
use Rattle.clf_tree.specs.Lists.{numbers_below}
use Rattle.super_linker.specs.Supers.{refused_if}

pub with_refusals-append : (first : Option Refusal) (xs ys : List Refusal) → with_refusals first (xs ++ ys) ≡ with_refusals (with_refusals first xs) ys
with_refusals-append first [] ys = refl
with_refusals-append first (x ∷ xs) ys = with_refusals-append (with_refusal first x) xs ys

map-itself : (xs : List ℕ) → map (λ x. x) xs ≡ xs
map-itself [] = refl
map-itself (x ∷ xs) = ap (λ ys. x ∷ ys) (map-itself xs)

pub numbers-more : (n : ℕ) → numbers_below (n + 1) ≡ numbers_below n ++ n ∷ []
numbers-more n = sym (map-itself (numbers_below (n + 1))) ∙ map-range_with_len_more (λ x. x) 0 n n (omega arith) ∙ ap (λ xs. xs ++ n ∷ []) (map-itself (numbers_below n))

-- one more number
pub one_more : (f : ℕ → List Refusal) (start now next : Option Refusal) (i : ℕ) → now ≡ with_refusals start (flat_map f (numbers_below i)) → next ≡ with_refusals now (f i)
    → next ≡ with_refusals start (flat_map f (numbers_below (i + 1)))
one_more f start now next i so step =
    step ∙ ap (λ r. with_refusals r (f i)) so ∙ sym (with_refusals-append start (flat_map f (numbers_below i)) (f i))
    ∙ ap (with_refusals start) (flat_map_more f [] (numbers_below i) i) ∙ ap (λ xs. with_refusals start (flat_map f xs)) (sym (numbers-more i))

-- a refusal that would not come first
pub not_first : (found r : Refusal) (met : Bool) → is_before r found ≡ false → with_refusals (Some found) (if met then r ∷ [] else []) ≡ Some found
not_first found r true later = ap (λ b. if b then Some r else Some found) later
not_first found r false later = refl

-- ---- nothing is refused

either : (x f : Refusal) (rs : List Refusal) (b : Bool) → ((y : Refusal) → with_refusals (Some y) rs ≡ None → ⊥) → with_refusals (if b then Some x else Some f) rs ≡ None → ⊥
either x f rs true go e = go x e
either x f rs false go e = go f e

stays : (rs : List Refusal) (f : Refusal) → with_refusals (Some f) rs ≡ None → ⊥
stays [] f e = (cc)
stays (x ∷ rs) f e = either x f rs (is_before x f) (λ y. stays rs y) e

pub none_refused : (rs : List Refusal) → first_refusal rs ≡ None → rs ≡ []
none_refused [] e = refl
none_refused (x ∷ rs) e = absurd (stays rs x e)

pub both_none : (xs ys : List Refusal) → xs ++ ys ≡ [] → (xs ≡ []) × (ys ≡ [])
both_none [] ys e = (refl, e)
both_none (x ∷ xs) ys e = (cc)

pub not_met : (met : Bool) (code : ℕ) (at : Span) → refused_if met code at ≡ [] → not met ≡ true
not_met true code at e = (cc)
not_met false code at e = refl

-- where nothing is refused of the listed numbers, each passes
pub all_pass : (f : ℕ → List Refusal) (test : ℕ → Bool) → ((c : ℕ) → f c ≡ [] → test c ≡ true) → (xs : List ℕ) → flat_map f xs ≡ [] → list_all test xs ≡ true
all_pass f test each [] e = refl
all_pass f test each (x ∷ xs) e =
    let parts = both_none (f x) (flat_map f xs) e in ap (λ b. b && list_all test xs) (each x parts.0) ∙ all_pass f test each xs parts.1

pub all_true : (test : ℕ → Bool) → ((c : ℕ) → test c ≡ true) → (xs : List ℕ) → list_all test xs ≡ true
all_true test each [] = refl
all_true test each (x ∷ xs) = ap (λ b. b && list_all test xs) (each x) ∙ all_true test each xs
