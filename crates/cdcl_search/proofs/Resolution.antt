-- Derivations grow at their end, and steps over lists of codes are steps over clauses.
use Rattle.std.proofs.Common.{ℕ, zero, suc, Bool, true, false, not, [], ◌∷◌, ◌++◌, ◌≡◌, ◌+◌, ◌*◌, ◌/◌, ◌<◌, ◌≢◌, ◌⊎◌, ◌↔◌, ◌==◌, ◌||◌, ◌&&◌, List, length, get_or, inl, inr, arith, refl, ap, sym, ◌∙◌, map, subst, length-append}
use Rattle.std.proofs.Math.ListN.{get_or-append}
use Rattle.std.proofs.Math.Seq.{get_or-append_seam}
use Rattle.std.proofs.lemmas.Bool.{cases_eq, false≢true}
use Rattle.std.proofs.lemmas.Bool.Decides.{nat_tests}
use Rattle.std.proofs.lemmas.List.{append_assoc, append-nil, length-map}
use Rattle.clause_store.specs.declared.clause.Literal.{Literal}
use Rattle.clause_store.specs.declared.derivation.Step.{Step}
use Rattle.clause_store.specs.declared.derivation.Chain.{Chain}
use Rattle.clause_store.specs.Literals.{LiteralSet, literals_of}
use Rattle.clause_store.specs.Store.{clause_at}
use Rattle.clause_store.specs.Resolution as clauses
use Rattle.cdcl_search.specs.Literals.{flip, Has}
use Rattle.cdcl_search.specs.Derivations.{resolvent, resolved, Clash, AreLawful, IsTraced, IsClauseOf, IsNamed, clause_of}
use Rattle.cdcl_search.proofs.Members.{Has-resolvent, resolvent-left, resolvent-right}
use Rattle.cdcl_search.proofs.Flips.{flip_positive, flip_negated}

pub resolved-push : (known : List (List ℕ)) (c : List ℕ) (steps : List Step) (s : Step)
    → resolved known c (steps ++ s ∷ []) ≡ resolvent s.pivot (resolved known c steps) (get_or known s.clause [])
resolved-push known c [] s = refl
resolved-push known c (x ∷ steps) s = resolved-push known (resolvent x.pivot c (get_or known x.clause [])) steps s

pub AreLawful-push : (known : List (List ℕ)) (c : List ℕ) (steps : List Step) (s : Step) (l : ℕ)
    → AreLawful known c steps → s.clause < length known → Clash s.pivot (resolved known c steps) (get_or known s.clause []) l
    → AreLawful known c (steps ++ s ∷ [])
AreLawful-push known c [] s l a b k = (b, (l, k), tt)
AreLawful-push known c (x ∷ steps) s l a b k = (a.0, a.1, AreLawful-push known (resolvent x.pivot c (get_or known x.clause [])) steps s l a.2 b k)

-- a list of codes and a set have the same literals
abbrev pub StandsFor : List ℕ → LiteralSet → Type 0
StandsFor codes s = (l : ℕ) → Has codes l ↔ (s l ≡ true)

same_truth : (x y : Bool) → (x ≡ true → y ≡ true) → (y ≡ true → x ≡ true) → x ≡ y
same_truth true true f g = refl
same_truth true false f g = sym (f refl)
same_truth false true f g = g refl
same_truth false false f g = refl

not_true : (x : Bool) → (x ≡ true → ⊥) → x ≡ false
not_true true f = absurd (f refl)
not_true false f = refl

or_true : (x y : Bool) → (x || y) ≡ true → (x ≡ true) ⊎ (y ≡ true)
or_true true y e = inl refl
or_true false y e = inr e

both_true : (x y : Bool) → (x && y) ≡ true → (x ≡ true) × (y ≡ true)
both_true true y e = (refl, e)
both_true false y e = absurd (false≢true e)

left_true : (x y z : Bool) → x ≡ true → z ≡ false → ((x || y) && not z) ≡ true
left_true x y z e f = rw (e, f) refl

right_true : (x y z : Bool) → y ≡ true → z ≡ false → ((x || y) && not z) ≡ true
right_true true y z e f = rw f refl
right_true false y z e f = rw (e, f) refl

same_variable : (l v : ℕ) → (l / 2 == v) ≡ false → l / 2 ≢ v
same_variable l v e = grind (arith, nat_tests)

other_variable : (l v : ℕ) → l / 2 ≢ v → (l / 2 == v) ≡ false
other_variable l v n = grind (arith, nat_tests)

not_false : (x : Bool) → not x ≡ true → x ≡ false
not_false true e = absurd (false≢true e)
not_false false e = refl

resolvent_stands : (v : ℕ) (c d : List ℕ) (s t : LiteralSet) → StandsFor c s → StandsFor d t → StandsFor (resolvent v c d) (clauses.resolvent s t v)
resolvent_stands v c d s t a b l = (
  (λ h. let r = Has-resolvent v c d l h in
      elim r.0 [
        | inl x ↦ left_true (s l) (t l) (l / 2 == v) ((a l).0 x) (other_variable l v r.1)
        | inr x ↦ right_true (s l) (t l) (l / 2 == v) ((b l).0 x) (other_variable l v r.1)
      ]),
  (λ h. let r = both_true (s l || t l) (not (l / 2 == v)) h in
      let n = same_variable l v (not_false (l / 2 == v) r.1) in
      elim (or_true (s l) (t l) r.0) [
        | inl x ↦ resolvent-left v c d l ((a l).1 x) n
        | inr x ↦ resolvent-right v c d l ((b l).1 x) n
      ]),
)

even_or_odd : (l v : ℕ) → l / 2 ≡ v → (l ≡ 2 * v) ⊎ (l ≡ 2 * v + 1)
even_or_odd l v e = elim (cases_eq l (2 * v)) [ inl q ↦ inl q | inr q ↦ inr (omega arith) ]

clash_stands : (v : ℕ) (c d : List ℕ) (s t : LiteralSet) (l : ℕ) → StandsFor c s → StandsFor d t → Clash v c d l → clauses.Clashes s t v
clash_stands v c d s t l a b k =
    elim (even_or_odd l v k.variable) [
      | inl e ↦
          let f : flip l ≡ 2 * v + 1 = ap flip e ∙ flip_positive v in
          inr (
            record { there = subst (λ x. s x ≡ true) f ((a (flip l)).0 k.here); alone = not_true (s (2 * v)) (λ x. k.not_here ((a l).1 (subst (λ y. s y ≡ true) (sym e) x))) },
            record { there = subst (λ x. t x ≡ true) e ((b l).0 k.there); alone = not_true (t (2 * v + 1)) (λ x. k.not_there ((b (flip l)).1 (subst (λ y. t y ≡ true) (sym f) x))) },
          )
      | inr e ↦
          let f : flip l ≡ 2 * v = ap flip e ∙ flip_negated v in
          inl (
            record { there = subst (λ x. s x ≡ true) f ((a (flip l)).0 k.here); alone = not_true (s (2 * v + 1)) (λ x. k.not_here ((a l).1 (subst (λ y. s y ≡ true) (sym e) x))) },
            record { there = subst (λ x. t x ≡ true) e ((b l).0 k.there); alone = not_true (t (2 * v)) (λ x. k.not_there ((b (flip l)).1 (subst (λ y. t y ≡ true) (sym f) x))) },
          )
    ]

-- the steps lead on as they do with lists
steps_stand : (store : List (List ℕ)) (known : List (List Literal)) (c : List ℕ) (s : LiteralSet) (steps : List Step) (r : LiteralSet) → IsNamed store known → StandsFor c s
    → AreLawful store c steps → StandsFor (resolved store c steps) r → clauses.ResolvesTo known s steps r
steps_stand store known c s [] r n a w g = λ code. same_truth (s code) (r code) (λ x. (g code).0 ((a code).1 x)) (λ x. (a code).0 ((g code).1 x))
steps_stand store known c s (x ∷ steps) r n a w g =
    let d = get_or store x.clause [] in
    let t = literals_of (clause_at known x.clause) in
    let b : StandsFor d t = n.same x.clause w.0 in (
      rw (← n.as_many) w.0,
      clash_stands x.pivot c d s t w.1.0 a b w.1.1,
      steps_stand store known (resolvent x.pivot c d) (clauses.resolvent s t x.pivot) steps r n (resolvent_stands x.pivot c d s t a b) w.2 g,
    )

-- what is traced is a lawful chain
pub traced_lawful : (store : List (List ℕ)) (known : List (List Literal)) (chain : Chain) (codes : List ℕ) → IsNamed store known → IsTraced store chain.start chain.steps codes → IsClauseOf codes chain.result
    → clauses.IsLawfulChain known chain
traced_lawful store known chain codes n t r = (
  rw (← n.as_many) t.begins,
  steps_stand store known (get_or store chain.start []) (literals_of (clause_at known chain.start)) chain.steps (literals_of chain.result) n (n.same chain.start t.begins) t.steps_lawful
      (λ l. ((λ h. (r l).0 ((t.gives l).1 h)), (λ h. (t.gives l).0 ((r l).1 h)))),
)

pub known-push : (given : List (List Literal)) (chains : List Chain) (c : Chain) → clauses.known_clauses given (chains ++ c ∷ []) ≡ clauses.known_clauses given chains ++ c.result ∷ []
known-push given [] c = ap (λ x. x ++ c.result ∷ []) (sym (append-nil given))
known-push given (x ∷ chains) c =
    sym (append_assoc given (x.result ∷ []) (map (λ (d : Chain). d.result) (chains ++ c ∷ [])))
    ∙ known-push (given ++ x.result ∷ []) chains c
    ∙ ap (λ y. y ++ c.result ∷ []) (append_assoc given (x.result ∷ []) (map (λ (d : Chain). d.result) chains))

pub IsLawful-push : (known : List (List Literal)) (chains : List Chain) (c : Chain)
    → clauses.IsLawful known chains → clauses.IsLawfulChain (clauses.known_clauses known chains) c → clauses.IsLawful known (chains ++ c ∷ [])
IsLawful-push known [] c a b = (rw (append-nil known) at b, tt)
IsLawful-push known (x ∷ chains) c a b =
    let e : known ++ (x.result ∷ map (λ (d : Chain). d.result) chains) ≡ known ++ x.result ∷ [] ++ map (λ (d : Chain). d.result) chains = sym (append_assoc known (x.result ∷ []) (map (λ (d : Chain). d.result) chains)) in
    (a.0, IsLawful-push (known ++ x.result ∷ []) chains c a.1 (subst (λ k. clauses.IsLawfulChain k c) e b))

pub named-push : (store : List (List ℕ)) (known : List (List Literal)) (codes : List ℕ) (c : List Literal) → IsNamed store known → IsClauseOf codes c → IsNamed (store ++ codes ∷ []) (known ++ c ∷ [])
named-push store known codes c n r = record {
  as_many = length-append store (codes ∷ []) ∙ ap (λ x. x + 1) n.as_many ∙ sym (length-append known (c ∷ []));
  same = λ i h. elim (cases_eq i (length store)) [
    | inl e ↦ rw (e, get_or-append_seam store codes [] [], n.as_many, get_or-append_seam known c [] []) r
    | inr e ↦
        let b : i < length store = omega (arith, h, length-append store (codes ∷ [])) in
        let k : i < length known = omega (arith, b, n.as_many) in
        rw (get_or-append store (codes ∷ []) [] i b, get_or-append known (c ∷ []) [] i k) (n.same i b)
  ];
}

here_true : (x y : Bool) → x ≡ true → (x || y) ≡ true
here_true x y e = rw e refl

there_true : (x y : Bool) → y ≡ true → (x || y) ≡ true
there_true true y e = refl
there_true false y e = e

-- a clause of codes has them
pub clause_of_codes : (codes : List ℕ) → IsClauseOf codes (clause_of codes)
clause_of_codes [] l = ((λ h. absurd h), (λ h. absurd (false≢true h)))
clause_of_codes (x ∷ codes) l = (
  (λ h. elim h [
    | inl e ↦ here_true (x == l) (literals_of (clause_of codes) l) (grind (arith, nat_tests))
    | inr h ↦ there_true (x == l) (literals_of (clause_of codes) l) ((clause_of_codes codes l).0 h)
  ]),
  (λ h. elim (or_true (x == l) (literals_of (clause_of codes) l) h) [
    | inl e ↦ inl (grind (arith, nat_tests))
    | inr h ↦ inr ((clause_of_codes codes l).1 h)
  ]),
)

named_at : (store : List (List ℕ)) (i : ℕ) → i < length store → IsClauseOf (get_or store i []) (clause_at (map clause_of store) i)
named_at [] i h = absurd (omega arith)
named_at (c ∷ store) zero h = clause_of_codes c
named_at (c ∷ store) (suc i) h = named_at store i (omega arith)

pub named_given : (store : List (List ℕ)) → IsNamed store (map clause_of store)
named_given store = record {
  as_many = sym (length-map store clause_of);
  same = named_at store;
}
