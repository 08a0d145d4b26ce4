-- Members of a clause.
use Rattle.std.proofs.Common.{ℕ, zero, suc, Bool, true, false, cond, [], ◌∷◌, ◌++◌, ◌≡◌, ◌/◌, ◌<◌, ◌≢◌, ◌⊎◌, ◌==◌, List, length, get_or, take, inl, inr, arith, refl, ap, sym, ◌∙◌, not}
use Rattle.std.proofs.lemmas.Bool.Decides.{nat_tests}
use Rattle.cdcl_search.specs.Literals.{Has}
use Rattle.cdcl_search.specs.Derivations.{without, resolvent}

pub Has-at : (c : List ℕ) (k : ℕ) → k < length c → Has c (get_or c k 0)
Has-at [] k h = absurd (omega arith)
Has-at (x ∷ c) zero h = inl refl
Has-at (x ∷ c) (suc k) h = inr (Has-at c k (omega arith))

pub Has-index : (c : List ℕ) (l : ℕ) → Has c l → (k : ℕ) × (k < length c) × (get_or c k 0 ≡ l)
Has-index [] l h = absurd h
Has-index (x ∷ c) l (inl e) = (0, omega arith, e)
Has-index (x ∷ c) l (inr h) = let r = Has-index c l h in (suc r.0, omega (arith, r.1), r.2)

pub Has-left : (c d : List ℕ) (l : ℕ) → Has c l → Has (c ++ d) l
Has-left [] d l h = absurd h
Has-left (x ∷ c) d l (inl e) = inl e
Has-left (x ∷ c) d l (inr h) = inr (Has-left c d l h)

pub Has-right : (c d : List ℕ) (l : ℕ) → Has d l → Has (c ++ d) l
Has-right [] d l h = h
Has-right (x ∷ c) d l h = inr (Has-right c d l h)

pub Has-append : (c d : List ℕ) (l : ℕ) → Has (c ++ d) l → Has c l ⊎ Has d l
Has-append [] d l h = inr h
Has-append (x ∷ c) d l (inl e) = inl (inl e)
Has-append (x ∷ c) d l (inr h) = elim (Has-append c d l h) [ inl a ↦ inl (inr a) | inr a ↦ inr a ]

-- a member of a list without a variable
keep : (b : Bool) (x l : ℕ) (c : List ℕ) → Has (cond b (x ∷ c) c) l → ((b ≡ true) × (x ≡ l)) ⊎ Has c l
keep true x l c (inl e) = inl (refl, e)
keep true x l c (inr h) = inr h
keep false x l c h = inr h

pub Has-without : (v : ℕ) (c : List ℕ) (l : ℕ) → Has (without v c) l → Has c l × (l / 2 ≢ v)
Has-without v [] l h = absurd h
Has-without v (x ∷ c) l h = elim (keep (not (x / 2 == v)) x l (without v c) h) [
  | inl a ↦ (inl a.1, (λ e. let q : x / 2 ≡ v = ap (λ y. y / 2) a.1 ∙ e in grind (arith, nat_tests, a.0)))
  | inr a ↦ let r = Has-without v c l a in (inr r.0, r.1)
]

kept_first : (b : Bool) (x l : ℕ) (c : List ℕ) → b ≡ true → x ≡ l → Has (cond b (x ∷ c) c) l
kept_first true x l c h e = inl e
kept_first false x l c h e = absurd (cc)

kept_rest : (b : Bool) (x l : ℕ) (c : List ℕ) → Has c l → Has (cond b (x ∷ c) c) l
kept_rest true x l c h = inr h
kept_rest false x l c h = h

pub without-has : (v : ℕ) (c : List ℕ) (l : ℕ) → Has c l → l / 2 ≢ v → Has (without v c) l
without-has v [] l h k = h
without-has v (x ∷ c) l (inl e) k =
    let q : x / 2 ≢ v = λ z. k (ap (λ y. y / 2) (sym e) ∙ z) in
    kept_first (not (x / 2 == v)) x l (without v c) (grind (arith, nat_tests)) e
without-has v (x ∷ c) l (inr h) k = kept_rest (not (x / 2 == v)) x l (without v c) (without-has v c l h k)

pub Has-resolvent : (v : ℕ) (c d : List ℕ) (l : ℕ) → Has (resolvent v c d) l → (Has c l ⊎ Has d l) × (l / 2 ≢ v)
Has-resolvent v c d l h = elim (Has-append (without v c) (without v d) l h) [
  | inl a ↦ let r = Has-without v c l a in (inl r.0, r.1)
  | inr a ↦ let r = Has-without v d l a in (inr r.0, r.1)
]

pub resolvent-left : (v : ℕ) (c d : List ℕ) (l : ℕ) → Has c l → l / 2 ≢ v → Has (resolvent v c d) l
resolvent-left v c d l h k = Has-left (without v c) (without v d) l (without-has v c l h k)

pub resolvent-right : (v : ℕ) (c d : List ℕ) (l : ℕ) → Has d l → l / 2 ≢ v → Has (resolvent v c d) l
resolvent-right v c d l h k = Has-right (without v c) (without v d) l (without-has v d l h k)

pub Has-take : (c : List ℕ) (d j : ℕ) → j < d → j < length c → Has (take d c) (get_or c j 0)
Has-take [] d j h k = absurd (omega arith)
Has-take (x ∷ c) zero j h k = absurd (omega arith)
Has-take (x ∷ c) (suc d) zero h k = inl refl
Has-take (x ∷ c) (suc d) (suc j) h k = inr (Has-take c d j (omega arith) (omega arith))
