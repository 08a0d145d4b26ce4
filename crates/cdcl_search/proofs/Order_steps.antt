-- How a clause comes from sorted codes.
use Rattle.std.proofs.Common.{ℕ, Bool, true, false, [], ◌∷◌, ◌++◌, ◌≡◌, ◌+◌, ◌-◌, ◌<◌, ◌≤◌, ◌⊎◌, ◌==◌, ◌||◌, List, All, Contains, length, get_or, take, inl, inr, arith, refl, ap, sym, ◌∙◌, subst}
use Rattle.std.proofs.lemmas.Bool.{cases_eq, false≢true}
use Rattle.std.proofs.lemmas.Bool.Decides.{nat_tests}
use Rattle.std.proofs.lemmas.List.{take_more, get_or_default}
use Rattle.std.proofs.lemmas.List.Folds.{list_any-append}
use Rattle.std.proofs.lemmas.List.Quantifiers.{all_pairs_push}
use Rattle.std.proofs.lemmas.List.Elements.{All-push, All-weaker, All-nil}
use Rattle.std.specs.List.Sorted.{IsNonDecreasingBy, IsPermutation}
use Rattle.std.proofs.lemmas.List.Sorted.{Contains-permutation, IsPermutation-sym}
use Rattle.clause_store.specs.declared.clause.Literal.{Literal}
use Rattle.clause_store.specs.Literals.{IsAscending, literals_of}
use Rattle.cdcl_search.specs.Literals.{Has}
use Rattle.cdcl_search.specs.Derivations.{IsClauseOf}
use Rattle.cdcl_search.proofs.Members.{Has-left, Has-right, Has-append, Has-at, Has-index}

-- the first codes of a sorted list have come to a clause, and a code below `next` is there
pub record IsOrdered (sorted : List ℕ) (i : ℕ) (literals : List Literal) (next : ℕ) : Type 0 where
  pub ascends : IsAscending literals
  pub below : All (λ l. l.code < next) literals
  pub same : IsClauseOf (take i sorted) literals
  pub last : (i ≡ 0) ⊎ (next ≡ get_or sorted (i - 1) 0 + 1)
  pub first : i ≡ 0 → next ≡ 0

pub ordered_none : (sorted : List ℕ) → IsOrdered sorted 0 [] 0
ordered_none sorted = record {
  ascends = λ i j d h k. absurd (omega arith);
  below = All-nil (λ (l : Literal). l.code < 0);
  same = λ l. ((λ h. absurd h), (λ h. absurd (false≢true h)));
  last = inl refl;
  first = λ e. refl;
}

or_cases : (x y : Bool) → (x || y) ≡ true → (x ≡ true) ⊎ (y ≡ true)
or_cases true y e = inl refl
or_cases false y e = inr e

or_left : (x y : Bool) → x ≡ true → (x || y) ≡ true
or_left x y e = rw e refl

or_right : (x y : Bool) → y ≡ true → (x || y) ≡ true
or_right true y e = refl
or_right false y e = e

single : (x : Literal) (l : ℕ) → literals_of (x ∷ []) l ≡ true → x.code ≡ l
single x l h = elim (or_cases (x.code == l) false h) [ inl e ↦ grind (arith, nat_tests) | inr e ↦ absurd (false≢true e) ]

single_there : (x : Literal) (l : ℕ) → x.code ≡ l → literals_of (x ∷ []) l ≡ true
single_there x l e = or_left (x.code == l) false (grind (arith, nat_tests))

pub ordered_pushed : (sorted : List ℕ) (i : ℕ) (literals : List Literal) (next : ℕ) (x : Literal) → IsOrdered sorted i literals next → i < length sorted → x.code ≡ get_or sorted i 0 → next ≤ x.code
    → IsOrdered sorted (i + 1) (literals ++ x ∷ []) (x.code + 1)
ordered_pushed sorted i literals next x o h e n = record {
  ascends = all_pairs_push (λ (a b : Literal). a.code < b.code) literals x o.ascends (All-weaker (λ (l : Literal). l.code < next) (λ l. l.code < x.code) (λ l k. omega arith) literals o.below);
  below = All-push (λ (l : Literal). l.code < x.code + 1) literals x (All-weaker (λ (l : Literal). l.code < next) (λ l. l.code < x.code + 1) (λ l k. omega arith) literals o.below) (omega arith);
  same = λ l. (
    (λ k. rw (list_any-append (λ (y : Literal). y.code == l) literals (x ∷ [])) (elim (Has-append (take i sorted) (get_or sorted i 0 ∷ []) l (rw (take_more sorted i 0 h) at k)) [
      | inl a ↦ or_left (literals_of literals l) (literals_of (x ∷ []) l) ((o.same l).0 a)
      | inr a ↦ or_right (literals_of literals l) (literals_of (x ∷ []) l) (elim a [ inl q ↦ single_there x l (e ∙ q) | inr q ↦ absurd q ])
    ])),
    (λ k. rw (take_more sorted i 0 h) (elim (or_cases (literals_of literals l) (literals_of (x ∷ []) l) (rw (list_any-append (λ (y : Literal). y.code == l) literals (x ∷ [])) at k)) [
      | inl a ↦ Has-left (take i sorted) (get_or sorted i 0 ∷ []) l ((o.same l).1 a)
      | inr a ↦ Has-right (take i sorted) (get_or sorted i 0 ∷ []) l (inl (sym e ∙ single x l a))
    ])),
  );
  last = inr (rw e (ap (λ k. get_or sorted k 0 + 1) (let q : i ≡ i + 1 - 1 = omega arith in q)));
  first = λ q. absurd (omega arith);
}

last_there : (sorted : List ℕ) (i : ℕ) → 0 < i → i ≤ length sorted → Has (take i sorted) (get_or sorted (i - 1) 0)
last_there sorted i p h =
    let q : i - 1 + 1 ≡ i = omega arith in
    let t = take_more sorted (i - 1) 0 (omega arith) in
    subst (λ k. Has (take k sorted) (get_or sorted (i - 1) 0)) q (rw t (Has-right (take (i - 1) sorted) (get_or sorted (i - 1) 0 ∷ []) (get_or sorted (i - 1) 0) (inl refl)))

pub ordered_skipped : (sorted : List ℕ) (i : ℕ) (literals : List Literal) (next : ℕ) → IsNonDecreasingBy (λ x. x) sorted → IsOrdered sorted i literals next → i < length sorted → get_or sorted i 0 < next
    → IsOrdered sorted (i + 1) literals next
ordered_skipped sorted i literals next up o h n =
    let z : 0 < i = elim (cases_eq i 0) [ inl q ↦ absurd (omega (arith, o.first q)) | inr q ↦ omega arith ] in
    let e : next ≡ get_or sorted (i - 1) 0 + 1 = elim o.last [ inl q ↦ absurd (omega arith) | inr q ↦ q ] in
    let u : get_or sorted (i - 1) 0 ≤ get_or sorted i 0 = up (i - 1) i 0 (omega arith) h in
    let s : get_or sorted i 0 ≡ get_or sorted (i - 1) 0 = omega arith in
    record {
      ascends = o.ascends;
      below = o.below;
      same = λ l. (
        (λ k. elim (Has-append (take i sorted) (get_or sorted i 0 ∷ []) l (rw (take_more sorted i 0 h) at k)) [
          | inl a ↦ (o.same l).0 a
          | inr a ↦ elim a [ inl q ↦ (o.same l).0 (subst (Has (take i sorted)) (sym s ∙ q) (last_there sorted i z (omega arith))) | inr q ↦ absurd q ]
        ]),
        (λ k. rw (take_more sorted i 0 h) (Has-left (take i sorted) (get_or sorted i 0 ∷ []) l ((o.same l).1 k))),
      );
      last = inr (let q : i + 1 - 1 ≡ i = omega arith in rw (q, s) e);
      first = λ q. absurd (omega arith);
    }

-- the same, where the new values are told
pub ordered_more : (sorted : List ℕ) (i : ℕ) (literals : List Literal) (next : ℕ) (x : Literal) (literals' : List Literal) (next' : ℕ) → IsOrdered sorted i literals next → i < length sorted → x.code ≡ get_or sorted i 0 → next ≤ x.code
    → literals' ≡ literals ++ x ∷ [] → next' ≡ x.code + 1 → IsOrdered sorted (i + 1) literals' next'
ordered_more sorted i literals next x literals' next' o h e n f g = rw (f, g) (ordered_pushed sorted i literals next x o h e n)

pub ordered_same : (sorted : List ℕ) (i : ℕ) (literals : List Literal) (next : ℕ) (literals' : List Literal) (next' : ℕ) → IsNonDecreasingBy (λ x. x) sorted → IsOrdered sorted i literals next → i < length sorted → get_or sorted i 0 < next
    → literals' ≡ literals → next' ≡ next → IsOrdered sorted (i + 1) literals' next'
ordered_same sorted i literals next literals' next' up o h n f g = rw (f, g) (ordered_skipped sorted i literals next up o h n)

contains_has : (xs : List ℕ) (l : ℕ) → Contains xs l → Has xs l
contains_has xs l c = subst (Has xs) (sym (get_or_default xs c.0 l 0 c.1) ∙ c.2) (Has-at xs c.0 c.1)

has_contains : (xs : List ℕ) (l : ℕ) → Has xs l → Contains xs l
has_contains xs l h = let r = Has-index xs l h in (r.0, r.1, get_or_default xs r.0 l 0 r.1 ∙ r.2)

-- in another order the codes give the same clause
pub permuted_clause : (codes sorted : List ℕ) (clause : List Literal) → IsPermutation codes sorted → IsClauseOf sorted clause → IsClauseOf codes clause
permuted_clause codes sorted clause p c l = (
  (λ h. (c l).0 (contains_has sorted l (Contains-permutation codes sorted l p (has_contains codes l h)))),
  (λ h. contains_has codes l (Contains-permutation sorted codes l (IsPermutation-sym codes sorted p) (has_contains sorted l ((c l).1 h)))),
)
