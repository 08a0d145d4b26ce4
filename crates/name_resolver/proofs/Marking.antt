-- Marks on a way up, and what they tell of children.
use Rattle.std.proofs.Common.{◌≡◌, ◌≢◌, ℕ, zero, suc, ◌<◌, ◌≤◌, ◌&&◌, ◌||◌, Bool, true, false, List, [], ◌∷◌, ◌++◌, length, set, get_or, Option, Some, None, refl, ap, sym, ◌∙◌, arith, inl, inr}
use Rattle.std.specs.Prelude.{slice_get, ◌==◌, IsTrue}
use Rattle.std.specs.Option.{option_map_or, option_and_then}
use Rattle.std.specs.List.{list_any, list_all}
use Rattle.std.proofs.lemmas.Bool.{cases_eq}
use Rattle.std.proofs.lemmas.Bool.Decides.{Decides-ltb}
use Rattle.std.proofs.lemmas.List.{get_or-set_same, get_or-set_other}
use Rattle.std.proofs.lemmas.List.Folds.{list_any-append}
use Rattle.clf_tree.specs.declared.model.Clafer.{Clafer}
use Rattle.clf_tree.specs.Lists.{has}
use Rattle.clf_tree.specs.Hierarchy.{is_below, names_below, is_closed, is_a, way_up, parent_of, super_of}
use Rattle.name_resolver.specs.Levels.{is_child_of}
use Rattle.name_resolver.specs.Marks.{MarksAbove}
use Rattle.name_resolver.proofs.Beyond.{both, not_got, alone, parent_there}

equals_itself : (p : ℕ) → (p == p) ≡ true
equals_itself p = grind arith

differs : (p q : ℕ) → p ≢ q → (p == q) ≡ false
differs p q other = grind (arith, other)

or_true : (b : Bool) → (b || true) ≡ true
or_true true = refl
or_true false = refl

or_false : (b : Bool) → (b || false) ≡ b
or_false true = refl
or_false false = refl

or_both : (a b : Bool) → (a || (b || false)) ≡ (a || b)
or_both true b = refl
or_both false b = or_false b

-- ---- a way up

pub marked-more : (marks : List Bool) (cur p : ℕ) (rest : Bool) → cur < length marks → (get_or (set marks cur true) p false || rest) ≡ (get_or marks p false || ((p == cur) || rest))
marked-more marks cur p rest within =
    elim (cases_eq p cur) [
      | inl same ↦
          ap (λ b. b || rest) (ap (λ z. get_or (set marks cur true) z false) same ∙ get_or-set_same marks cur true false within)
          ∙ sym (ap (λ b. get_or marks p false || (b || rest)) (ap (λ z. z == cur) same ∙ equals_itself cur) ∙ or_true (get_or marks p false))
      | inr other ↦
          ap (λ b. b || rest) (get_or-set_other marks cur p true false other)
          ∙ sym (ap (λ b. get_or marks p false || (b || rest)) (differs p cur other))
    ]

pub marked-on : (clafers : List Clafer) (n cur above p : ℕ) (marks : List Bool) → cur < length marks → super_of clafers cur ≡ Some above
    → (get_or (set marks cur true) p false || has (way_up clafers n above) p) ≡ (get_or marks p false || has (way_up clafers (suc n) cur) p)
marked-on clafers n cur above p marks within e =
    marked-more marks cur p (has (way_up clafers n above) p) within
    ∙ ap (λ (o : Option ℕ). get_or marks p false || ((p == cur) || has (option_map_or (way_up clafers n) o []) p)) (sym e)

pub marked-end : (clafers : List Clafer) (n cur p : ℕ) (marks : List Bool) → cur < length marks → super_of clafers cur ≡ None
    → get_or (set marks cur true) p false ≡ (get_or marks p false || has (way_up clafers (suc n) cur) p)
marked-end clafers n cur p marks within e =
    sym (or_false (get_or (set marks cur true) p false)) ∙ marked-more marks cur p false within
    ∙ ap (λ (o : Option ℕ). get_or marks p false || ((p == cur) || has (option_map_or (way_up clafers n) o []) p)) (sym e)

pub marked-last : (clafers : List Clafer) (cur p : ℕ) (marks : List Bool) → cur < length marks → get_or (set marks cur true) p false ≡ (get_or marks p false || has (way_up clafers 0 cur) p)
marked-last clafers cur p marks within = sym (or_false (get_or (set marks cur true) p false)) ∙ marked-more marks cur p false within

super_at : (n : ℕ) (xs : List Clafer) (c d : ℕ) → list_all (names_below n) xs ≡ true → option_and_then (λ k. k.above) (slice_get xs c) ≡ Some d → d < n
super_at n [] c d all e = (cc)
super_at n (x ∷ xs) zero d all e =
    let one = (both (names_below n x) (list_all (names_below n) xs) all).0 in
    let two = both (is_below n x.parent && is_below n x.above) (is_below n (option_and_then (λ r. r.to) x.reference)) one in
    let low : is_below n x.above ≡ true = (both (is_below n x.parent) (is_below n x.above) two.0).1 in
    (Decides-ltb d n).0 (ap (is_below n) (sym e) ∙ low)
super_at n (x ∷ xs) (suc c) d all e = super_at n xs c d (both (names_below n x) (list_all (names_below n) xs) all).1 e

pub super_in : (clafers : List Clafer) (c d : ℕ) → IsTrue (is_closed clafers) → super_of clafers c ≡ Some d → d < length clafers
super_in clafers c d closed e = super_at (length clafers) clafers c d closed e

pub parent_in : (clafers : List Clafer) (c d : ℕ) → IsTrue (is_closed clafers) → parent_of clafers c ≡ Some d → d < length clafers
parent_in clafers c d closed e = parent_there (length clafers) clafers c d closed e

-- ---- one clafer after the other

one_more : (clafers : List Clafer) (ms : List ℕ) (m p : ℕ) → list_any (λ k. is_a clafers k p) (ms ++ m ∷ []) ≡ (list_any (λ k. is_a clafers k p) ms || is_a clafers m p)
one_more clafers ms m p = list_any-append (λ k. is_a clafers k p) ms (m ∷ []) ∙ or_both (list_any (λ k. is_a clafers k p) ms) (is_a clafers m p)

pub mark-there : (clafers : List Clafer) (m : ℕ) (old new : List Bool) → ((p : ℕ) → p < length clafers → get_or new p false ≡ (get_or old p false || is_a clafers m p))
    → (ms : List ℕ) → MarksAbove clafers ms old → MarksAbove clafers (ms ++ m ∷ []) new
mark-there clafers m old new step ms marks p within = step p within ∙ ap (λ b. b || is_a clafers m p) (marks p within) ∙ sym (one_more clafers ms m p)

pub mark-beyond : (clafers : List Clafer) (m : ℕ) (marks : List Bool) → length clafers ≤ m → (ms : List ℕ) → MarksAbove clafers ms marks → MarksAbove clafers (ms ++ m ∷ []) marks
mark-beyond clafers m marks far ms holds p within =
    holds p within
    ∙ sym (one_more clafers ms m p
    ∙ ap (λ b. list_any (λ k. is_a clafers k p) ms || b) (alone clafers (length clafers) m p (not_got clafers m far) (omega (arith, within, far)))
    ∙ or_false (list_any (λ k. is_a clafers k p) ms))

pub ruleset marking_steps = (mark-there, mark-beyond)

-- ---- children

any_false : (ms : List ℕ) → list_any (λ (m : ℕ). false) ms ≡ false
any_false [] = refl
any_false (m ∷ ms) = any_false ms

pub child-marked : (clafers : List Clafer) (d p : ℕ) (b : Bool) (marks : List Bool) (ms : List ℕ) → IsTrue (is_closed clafers) → parent_of clafers d ≡ Some p → b ≡ get_or marks p false
    → MarksAbove clafers ms marks → b ≡ is_child_of clafers ms d
child-marked clafers d p b marks ms closed e same holds =
    same ∙ holds p (parent_in clafers d p closed e) ∙ sym (ap (λ (o : Option ℕ). list_any (λ m. option_map_or (is_a clafers m) o false) ms) e)

pub child-none : (clafers : List Clafer) (d : ℕ) (ms : List ℕ) → parent_of clafers d ≡ None → false ≡ is_child_of clafers ms d
child-none clafers d ms e = sym (ap (λ (o : Option ℕ). list_any (λ m. option_map_or (is_a clafers m) o false) ms) e ∙ any_false ms)

pub super_is : (clafers : List Clafer) (c : ℕ) (k : Clafer) → slice_get clafers c ≡ Some k → super_of clafers c ≡ k.above
super_is clafers c k found = ap (λ (o : Option Clafer). option_and_then (λ x. x.above) o) found

pub parent_is : (clafers : List Clafer) (c : ℕ) (k : Clafer) → slice_get clafers c ≡ Some k → parent_of clafers c ≡ k.parent
parent_is clafers c k found = ap (λ (o : Option Clafer). option_and_then (λ x. x.parent) o) found
