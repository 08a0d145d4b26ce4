-- The learned clause follows, is new, and forces its literal of the last level after the jump back.
use Rattle.std.proofs.Common.{ℕ, [], ◌∷◌, ◌++◌, ◌≡◌, ◌/◌, ◌<◌, ◌≤◌, ◌≢◌, ◌⊎◌, List, length, get_or, set, inl, inr, arith, refl, ap, sym, ◌∙◌, length-append}
use Rattle.std.proofs.lemmas.Bool.{cases_eq, cases_lt}
use Rattle.std.proofs.lemmas.List.{get_or-set_other}
use Rattle.cdcl_search.specs.Literals.{flip, Has}
use Rattle.cdcl_search.specs.Trails.{IsTrail, FalseBelow, Agree}
use Rattle.cdcl_search.specs.Searches.{Quiet, Forces}
use Rattle.cdcl_search.specs.Marks.{ones, Covers, IsMarked, AreKept}
use Rattle.cdcl_search.specs.States.{IsState}
use Rattle.cdcl_search.specs.Learnings.{IsAsserting, AreSame, IsNoTautology, IsNew}
use Rattle.cdcl_search.specs.declared.trail.Trail.{Trail}
use Rattle.cdcl_search.specs.declared.analysis.Analysis.{Analysis}
use Rattle.cdcl_search.specs.Derivations.{resolved, IsTraced}
use Rattle.cdcl_search.specs.Explanations.{IsExplained}
use Rattle.cdcl_search.proofs.Flips.{flip-flip, flip-variable}
use Rattle.cdcl_search.proofs.Members.{Has-at, Has-index, Has-left, Has-right, Has-append}
use Rattle.cdcl_search.proofs.Mark_steps.{ones-none, ones-clear, false_at}

-- the one mark of the last level
pub only_mark : (v w : List ℕ) (base n : ℕ) (m lower : List ℕ) (k p : ℕ) → IsMarked v w base n m lower 1 → base ≤ k → get_or m k 0 ≢ 0 → base ≤ p → get_or m p 0 ≢ 0 → p ≡ k
only_mark v w base n m lower k p i h z q y = elim (cases_eq p k) [
  | inl e ↦ e
  | inr d ↦
      let o : ones base (set m k 0) ≡ 0 = omega (arith, i.counts, ones-clear base m k h z) in
      absurd (y (rw (get_or-set_other m k p 0 0 d) at (ones-none base (set m k 0) p o q)))
]

-- the literal that became false at the place k
pub false_value : (t : Trail) (k : ℕ) → IsTrail t.values.items t.places.items t.literals.items t.count → k < t.count → get_or t.values.items (flip (get_or t.literals.items k 0)) 0 ≡ 2
false_value t k s h = s.true_opposite (get_or t.literals.items k 0) (s.is_true k h)

false_place : (t : Trail) (k : ℕ) → IsTrail t.values.items t.places.items t.literals.items t.count → k < t.count → get_or t.places.items (flip (get_or t.literals.items k 0) / 2) 0 ≡ k
false_place t k s h = rw flip-variable (s.placed k h)

abbrev pub taught : Trail → ℕ → List ℕ → List ℕ
taught t k lower = lower ++ flip (get_or t.literals.items k 0) ∷ []

pub taught_covers : (t : Trail) (base k : ℕ) (m lower kept : List ℕ) → IsTrail t.values.items t.places.items t.literals.items t.count → k < t.count → base ≤ k → get_or m k 0 ≢ 0
    → IsMarked t.values.items t.places.items base (length t.literals.items) m lower 1 → AreKept t.places.items m lower kept → Covers t.values.items t.places.items m (taught t k kept)
taught_covers t base k m lower kept s h b z i o = record {
  marked = λ l x. elim (Has-append kept (flip (get_or t.literals.items k 0) ∷ []) l x) [
    | inl y ↦ record { value = (i.below l (o.from_lower l y)).value; mark = o.marked l y }
    | inr y ↦ elim y [
      | inl e ↦ rw (← e) (record { value = false_value t k s h; mark = rw (false_place t k s h) z })
      | inr e ↦ absurd e
    ]
  ];
  covered = λ l x. elim (cases_lt (get_or t.places.items (l / 2) 0) base) [
    | inl y ↦ Has-left kept (flip (get_or t.literals.items k 0) ∷ []) l (o.all l (i.marked_lower l (record { value = x.value; place = y }) x.mark) x.mark)
    | inr y ↦
        let e : get_or t.places.items (l / 2) 0 ≡ k = only_mark _ _ base _ m lower k (get_or t.places.items (l / 2) 0) i b z y x.mark in
        let f : get_or t.literals.items k 0 ≡ flip l = false_at t.values.items t.places.items t.literals.items t.count l k s x.value e in
        Has-right kept (flip (get_or t.literals.items k 0) ∷ []) l (inl (ap flip f ∙ flip-flip l))
  ];
}

-- two clauses that the same marks stand for have the same literals
pub covers_same : (v w m c d : List ℕ) → Covers v w m c → Covers v w m d → AreSame c d
covers_same v w m c d a b l = ((λ x. b.covered l (a.marked l x)), (λ x. a.covered l (b.marked l x)))

taught_member : (t : Trail) (base k : ℕ) (lower : List ℕ) (l : ℕ) → IsAsserting t base k lower → Has (taught t k lower) l → (l ≡ flip (get_or t.literals.items k 0)) ⊎ FalseBelow t.values.items t.places.items l base
taught_member t base k lower l a h = elim (Has-append lower (flip (get_or t.literals.items k 0) ∷ []) l h) [
  | inl y ↦ inr (a.below l y)
  | inr y ↦ elim y [ inl e ↦ inl (sym e) | inr e ↦ absurd e ]
]

pub taught_new : (store : List (List ℕ)) (t : Trail) (base k j : ℕ) (lower : List ℕ) → IsState store t → j < length t.limits.items → base ≡ get_or t.limits.items j 0 → IsAsserting t base k lower → IsNew store (taught t k lower)
taught_new store t base k j lower s h b a = λ i x same.
    let q = s.search.quiet j h i x (flip (get_or t.literals.items k 0)) (λ y z. rw (← b) (taught_member t base k lower (get_or (get_or store i []) y 0) a ((same (get_or (get_or store i []) y 0)).0 (Has-at (get_or store i []) y z)))) in
    omega (arith, q.1.value, false_value t k s.search.trail a.within)

pub taught_false : (t : Trail) (base k : ℕ) (lower : List ℕ) (l : ℕ) → IsTrail t.values.items t.places.items t.literals.items t.count → IsAsserting t base k lower → Has (taught t k lower) l → get_or t.values.items l 0 ≡ 2
taught_false t base k lower l s a h = elim (taught_member t base k lower l a h) [ inl e ↦ rw e (false_value t k s a.within) | inr y ↦ y.value ]

pub taught_no_tautology : (t : Trail) (base k : ℕ) (lower : List ℕ) → IsTrail t.values.items t.places.items t.literals.items t.count → IsAsserting t base k lower → IsNoTautology (taught t k lower)
taught_no_tautology t base k lower s a l x y =
    let p : get_or t.values.items l 0 ≡ 2 = taught_false t base k lower l s a x in
    let q : get_or t.values.items (flip l) 0 ≡ 2 = taught_false t base k lower (flip l) s a y in
    let r : get_or t.values.items (flip l) 0 ≡ 1 = s.false_opposite l p in
    omega arith

-- at an earlier limit two literals of the clause are not false yet
pub taught_quiet : (t : Trail) (v' : List ℕ) (base k m p q : ℕ) (lower : List ℕ) → IsTrail t.values.items t.places.items t.literals.items t.count → IsAsserting t base k lower
    → Agree t.values.items t.places.items v' t.places.items m → p ≤ m → p ≤ base → Has lower q → p ≤ get_or t.places.items (q / 2) 0 → Quiet v' t.places.items (taught t k lower) p
taught_quiet t v' base k m p q lower s a g i o h b u f =
    let r = Has-index (taught t k lower) q (Has-left lower (flip (get_or t.literals.items k 0) ∷ []) q h) in
    let z = Has-index (taught t k lower) (flip (get_or t.literals.items k 0)) (Has-right lower (flip (get_or t.literals.items k 0) ∷ []) (flip (get_or t.literals.items k 0)) (inl refl)) in
    let x : q ≡ u = elim (f r.0 r.1) [ inl e ↦ sym r.2 ∙ e | inr y ↦ absurd (let n : FalseBelow v' t.places.items q p = rw r.2 at y in omega (arith, n.place, b)) ] in
    let y : flip (get_or t.literals.items k 0) ≡ u = elim (f z.0 z.1) [ inl e ↦ sym z.2 ∙ e | inr y ↦ absurd (let n : FalseBelow v' t.places.items (flip (get_or t.literals.items k 0)) p = rw z.2 at y in omega (arith, n.place, false_place t k s a.within, a.after, o)) ] in
    absurd (omega (arith, (a.below q h).place, ap (λ j. get_or t.places.items (j / 2) 0) (x ∙ sym y), false_place t k s a.within, a.after))

-- after the jump the clause forces its last literal
pub taught_forces : (t : Trail) (v' : List ℕ) (base k m : ℕ) (lower : List ℕ) → Agree t.values.items t.places.items v' t.places.items m
    → ((l : ℕ) → Has lower l → FalseBelow t.values.items t.places.items l m) → Forces v' t.places.items (taught t k lower) (flip (get_or t.literals.items k 0)) m
taught_forces t v' base k m lower g f = record {
  has = Has-right lower (flip (get_or t.literals.items k 0) ∷ []) (flip (get_or t.literals.items k 0)) (inl refl);
  rest = λ j h. elim (Has-append lower (flip (get_or t.literals.items k 0) ∷ []) (get_or (taught t k lower) j 0) (Has-at (taught t k lower) j h)) [
    | inl y ↦ inr (g.false_to (get_or (taught t k lower) j 0) m (omega arith) (f (get_or (taught t k lower) j 0) y))
    | inr y ↦ elim y [ inl e ↦ inl (sym e) | inr e ↦ absurd e ]
  ];
}

-- the steps of a conflict lead to the learned clause
pub taught_traced : (store : List (List ℕ)) (t : Trail) (base k : ℕ) (a : Analysis) (kept : List ℕ) → IsState store t → IsExplained store t base a → a.counter ≡ 1 → IsAsserting t base k kept → get_or a.marks.items k 0 ≢ 0
    → AreKept t.places.items a.marks.items a.lower.items kept → IsTraced store a.start a.steps.items (taught t k kept)
taught_traced store t base k a kept s e n y z o =
    let m : IsMarked t.values.items t.places.items base (length t.literals.items) a.marks.items a.lower.items 1 = rw (← n) e.marked in
    let v = taught_covers t base k a.marks.items a.lower.items kept s.search.trail y.within y.after z m o in
    record {
      begins = e.start;
      steps_lawful = e.lawful;
      gives = covers_same t.values.items t.places.items a.marks.items (taught t k kept) (resolved store (get_or store a.start []) a.steps.items) v e.covers;
    }

-- with no mark the steps have led to the empty clause
pub refuted_traced : (store : List (List ℕ)) (t : Trail) (a : Analysis) → IsExplained store t 0 a → a.counter ≡ 0 → IsTraced store a.start a.steps.items []
refuted_traced store t a e n = record {
  begins = e.start;
  steps_lawful = e.lawful;
  gives = λ l. ((λ x. absurd x), (λ x. let m = e.covers.marked l x in m.mark (ones-none 0 a.marks.items (get_or t.places.items (l / 2) 0) (sym e.marked.counts ∙ n) (omega arith))));
}

pub taught_some : (t : Trail) (k : ℕ) (lower : List ℕ) → 0 < length (taught t k lower)
taught_some t k lower = rw (length-append lower (flip (get_or t.literals.items k 0) ∷ [])) (omega arith)
