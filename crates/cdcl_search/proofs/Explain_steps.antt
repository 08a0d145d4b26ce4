-- What the steps of an explanation keep.
use Rattle.std.proofs.Common.{ℕ, zero, suc, [], ◌∷◌, ◌++◌, ◌≡◌, ◌+◌, ◌-◌, ◌/◌, ◌<◌, ◌≤◌, ◌≢◌, List, length, get_or, set, inl, inr, arith, refl, ap, sym, ◌∙◌, subst}
use Rattle.std.proofs.lemmas.Bool.{cases_eq, cases_lt}
use Rattle.std.proofs.lemmas.List.{get_or-set_same, get_or-set_other}
use Rattle.cdcl_search.specs.Literals.{Has}
use Rattle.cdcl_search.specs.Trails.{FalseBelow}
use Rattle.cdcl_search.specs.Searches.{Forces}
use Rattle.cdcl_search.specs.Marks.{ones, Covers, IsMarked, Grown}
use Rattle.cdcl_search.specs.States.{IsState, IsFalse}
use Rattle.cdcl_search.specs.Derivations.{resolvent, resolved, Clash, AreLawful}
use Rattle.cdcl_search.specs.Explanations.{IsExplained, IsBase, AreMarksBelow}
use Rattle.cdcl_search.specs.declared.trail.Trail.{Trail}
use Rattle.clause_store.specs.declared.derivation.Step.{Step}
use Rattle.cdcl_search.specs.declared.analysis.Analysis.{Analysis}
use Rattle.cdcl_search.proofs.Members.{Has-index, Has-at}
use Rattle.cdcl_search.proofs.Resolution.{resolved-push, AreLawful-push}
use Rattle.cdcl_search.proofs.Mark_steps.{ones-none, none-ones, ones-clear, clash, resolved_covers, others_false, same_place, still}

-- the reason of the literal at a place
abbrev pub reason_at : Trail → ℕ → ℕ
reason_at t k = get_or t.reasons.items (get_or t.literals.items k 0 / 2) 0

pub at_least_one : (v w : List ℕ) (base n : ℕ) (m lower : List ℕ) (counter p : ℕ) → IsMarked v w base n m lower counter → base ≤ p → get_or m p 0 ≢ 0 → 1 ≤ counter
at_least_one v w base n m lower counter p k h z = omega (arith, k.counts, ones-clear base m p h z)

pub explained_lawful : (store : List (List ℕ)) (t : Trail) (base k : ℕ) (a : Analysis) (s : Step) → IsState store t → IsExplained store t base a → k < t.count
    → get_or a.marks.items k 0 ≢ 0 → reason_at t k ≢ 4294967295 → s.clause ≡ reason_at t k → s.pivot ≡ get_or t.literals.items k 0 / 2
    → AreLawful store (get_or store a.start []) (a.steps.items ++ s ∷ [])
explained_lawful store t base k a s x e h z n c p =
    let f : Forces t.values.items t.places.items (get_or store s.clause []) (get_or t.literals.items k 0) k = rw c (x.search.forces k h n) in
    let l : Clash (get_or t.literals.items k 0 / 2) (resolved store (get_or store a.start []) a.steps.items) (get_or store s.clause []) (get_or t.literals.items k 0)
    = clash t.values.items t.places.items t.literals.items t.count a.marks.items (resolved store (get_or store a.start []) a.steps.items) (get_or store s.clause []) k (get_or t.literals.items k 0) x.search.trail refl h z f e.covers in
    AreLawful-push store (get_or store a.start []) a.steps.items s (get_or t.literals.items k 0) e.lawful (rw c (x.search.reason_below k h n)) (rw p l)

pub explained_covers : (store : List (List ℕ)) (t : Trail) (base k : ℕ) (a : Analysis) (s : Step) (m1 : List ℕ) → IsState store t → IsExplained store t base a → k < t.count
    → reason_at t k ≢ 4294967295 → s.clause ≡ reason_at t k → s.pivot ≡ get_or t.literals.items k 0 / 2
    → Grown t.places.items a.marks.items m1 (get_or store s.clause []) (get_or t.literals.items k 0) → length m1 ≡ length t.literals.items
    → Covers t.values.items t.places.items (set m1 k 0) (resolved store (get_or store a.start []) (a.steps.items ++ s ∷ []))
explained_covers store t base k a s m1 x e h n c p g b =
    let f : Forces t.values.items t.places.items (get_or store s.clause []) (get_or t.literals.items k 0) k = rw c (x.search.forces k h n) in
    let r : Covers t.values.items t.places.items (set m1 k 0) (resolvent (get_or t.literals.items k 0 / 2) (resolved store (get_or store a.start []) a.steps.items) (get_or store s.clause []))
    = resolved_covers t.values.items t.places.items t.literals.items t.count a.marks.items m1 (resolved store (get_or store a.start []) a.steps.items) (get_or store s.clause []) k (get_or t.literals.items k 0) x.search.trail refl h f e.covers g (omega (arith, x.search.trail.open_count)) in
    rw (resolved-push store (get_or store a.start []) a.steps.items s, p) r

pub grown_top : (store : List (List ℕ)) (t : Trail) (k r : ℕ) (m m1 : List ℕ) → Forces t.values.items t.places.items (get_or store r []) (get_or t.literals.items k 0) k
    → Grown t.places.items m m1 (get_or store r []) (get_or t.literals.items k 0) → AreMarksBelow m (k + 1) → k < length m1 → AreMarksBelow (set m1 k 0) k
grown_top store t k r m m1 f g b i p z =
    let n : p ≢ k = λ e. z (rw (e, get_or-set_same) refl) in
    let y : get_or m1 p 0 ≢ 0 = rw (get_or-set_other m1 k p 0 0 n) at z in
    elim (g.only p y) [
      | inl q ↦ omega (arith, b p q)
      | inr q ↦ omega (arith, q.3, (others_false t.values.items t.places.items (get_or store r []) (get_or t.literals.items k 0) k q.0 f q.1 q.2).place)
    ]

pub top_above : (v w : List ℕ) (base n : ℕ) (m lower : List ℕ) (counter top : ℕ) → IsMarked v w base n m lower counter → AreMarksBelow m top → 0 < counter → base < top
top_above v w base n m lower counter top k b h = elim (cases_lt base top) [
  | inl e ↦ e
  | inr e ↦ absurd (let z : ones base m ≡ 0 = none-ones base m (λ p q. elim (cases_eq (get_or m p 0) 0) [ inl y ↦ y | inr y ↦ absurd (omega (arith, b p y)) ]) in omega (arith, z, k.counts))
]

cleared : (m : List ℕ) (k : ℕ) → get_or (set m k 0) k 0 ≡ 0
cleared [] k = refl
cleared (x ∷ m) zero = refl
cleared (x ∷ m) (suc k) = cleared m k

-- a literal above the last decision has a reason
pub has_reason : (store : List (List ℕ)) (t : Trail) (base floor k : ℕ) (m lower : List ℕ) (counter : ℕ) → IsState store t → IsBase t base floor → IsMarked t.values.items t.places.items base (length t.literals.items) m lower counter
    → k < t.count → base ≤ k → get_or m k 0 ≢ 0 → AreMarksBelow m (k + 1) → floor < counter → reason_at t k ≢ 4294967295
has_reason store t base floor k m lower counter s b i h l z a f e =
    let r = Has-index t.limits.items k (s.search.decided k h e) in
    let y = b.later (omega (arith, r.1)) in
    let last : k ≤ get_or t.limits.items (length t.limits.items - 1) 0 = elim (cases_eq r.0 (length t.limits.items - 1)) [
      | inl q ↦ rw (← q, r.2) (omega arith)
      | inr q ↦ omega (arith, r.2, s.search.limits_rise r.0 (length t.limits.items - 1) (omega (arith, r.1)) (omega (arith, r.1)))
    ] in
    let same : k ≡ base = omega (arith, y.0) in
    let c : ones base (set m k 0) + 1 ≡ ones base m = ones-clear base m k l z in
    let o : ones base (set m k 0) ≡ 0 = none-ones base (set m k 0) (λ p q. elim (cases_eq p k) [
      | inl j ↦ rw j (cleared m k)
      | inr j ↦ rw (get_or-set_other m k p 0 0 j) (elim (cases_eq (get_or m p 0) 0) [ inl u ↦ u | inr u ↦ absurd (omega (arith, a p u)) ])
    ]) in
    omega (arith, y.1, i.counts)

pub fresh : (v w : List ℕ) (base n : ℕ) (m : List ℕ) → ((p : ℕ) → get_or m p 0 ≡ 0) → length m ≡ n → IsMarked v w base n m [] 0
fresh v w base n m z e = record {
  len = e;
  below = λ l h. absurd h;
  marked_lower = λ l f x. absurd (x (z (get_or w (l / 2) 0)));
  counts = sym (none-ones base m (λ p q. z p));
}

pub begun_covers : (store : List (List ℕ)) (t : Trail) (c m m1 : List ℕ) → IsState store t → IsFalse t c → ((j : ℕ) → j < length c → get_or c j 0 ≢ 4294967295) → ((p : ℕ) → get_or m p 0 ≡ 0)
    → Grown t.places.items m m1 c 4294967295 → Covers t.values.items t.places.items m1 c
begun_covers store t c m m1 s f b z g = record {
  marked = λ l h. let r = Has-index c l h in record {
    value = rw (← r.2) (f r.0 r.1).value;
    mark = g.adds l h (rw (← r.2) (b r.0 r.1));
  };
  covered = λ l x. elim (g.only (get_or t.places.items (l / 2) 0) x.mark) [
    | inl y ↦ absurd (y (z (get_or t.places.items (l / 2) 0)))
    | inr y ↦
        let r = Has-index c y.0 y.1 in
        let q : get_or t.values.items y.0 0 ≡ 2 = rw (← r.2) (f r.0 r.1).value in
        subst (Has c) (same_place t.values.items t.places.items t.literals.items t.count y.0 l s.search.trail q x.value y.3) y.1
  ];
}

pub begun_top : (t : Trail) (c m m1 : List ℕ) → IsFalse t c → ((p : ℕ) → get_or m p 0 ≡ 0)
    → Grown t.places.items m m1 c 4294967295 → AreMarksBelow m1 t.count
begun_top t c m m1 f z g p x = elim (g.only p x) [
  | inl y ↦ absurd (y (z p))
  | inr y ↦ let r = Has-index c y.0 y.1 in omega (arith, y.3, ap (λ i. get_or t.places.items (i / 2) 0) r.2, (f r.0 r.1).place)
]

-- a clause that is false has a literal of the last level
pub enough : (store : List (List ℕ)) (t : Trail) (base floor conflict : ℕ) (m lower : List ℕ) (counter : ℕ) → IsState store t → IsBase t base floor → conflict < length store → IsFalse t (get_or store conflict [])
    → IsMarked t.values.items t.places.items base (length t.literals.items) m lower counter
    → ((l : ℕ) → Has (get_or store conflict []) l → get_or m (get_or t.places.items (l / 2) 0) 0 ≢ 0) → floor ≤ counter
enough store t base floor conflict m lower counter s b h f i all = elim (cases_eq (length t.limits.items) 0) [
  | inl e ↦ omega (arith, (b.first e).1)
  | inr e ↦
      let y = b.later (omega arith) in
      elim (cases_eq counter 0) [
        | inr n ↦ omega (arith, y.1)
        | inl n ↦
            let below : (j : ℕ) → j < length (get_or store conflict []) → FalseBelow t.values.items t.places.items (get_or (get_or store conflict []) j 0) base = λ j k. elim (cases_lt (get_or t.places.items (get_or (get_or store conflict []) j 0 / 2) 0) base) [
              | inl q ↦ record { value = (f j k).value; place = q }
              | inr q ↦ absurd (all (get_or (get_or store conflict []) j 0) (Has-at (get_or store conflict []) j k) (ones-none base m (get_or t.places.items (get_or (get_or store conflict []) j 0 / 2) 0) (sym i.counts ∙ n) q))
            ] in
            let x = s.search.quiet (length t.limits.items - 1) (omega arith) conflict h 0 (λ j k. inr (rw (← y.0) (below j k))) in
            let r = Has-index (get_or store conflict []) 0 x.0 in
            absurd (let two : get_or t.values.items 0 0 ≡ 2 = rw r.2 at (f r.0 r.1).value in omega (arith, two, x.1.value))
      ]
]

pub ones_top : (base : ℕ) (m : List ℕ) (top : ℕ) → AreMarksBelow m top → 0 < ones base m → base < top
ones_top base m top b h = elim (cases_lt base top) [
  | inl e ↦ e
  | inr e ↦ absurd (let z : ones base m ≡ 0 = none-ones base m (λ p q. elim (cases_eq (get_or m p 0) 0) [ inl y ↦ y | inr y ↦ absurd (omega (arith, b p y)) ]) in omega (arith, z))
]

-- a literal of the levels before whose reason's other literals are marked is left out
pub left_out : (store : List (List ℕ)) (t : Trail) (base k : ℕ) (a : Analysis) (s : Step) → IsState store t → IsExplained store t base a → k < t.count → k < base
    → get_or a.marks.items k 0 ≢ 0 → reason_at t k ≢ 4294967295 → s.clause ≡ reason_at t k → s.pivot ≡ get_or t.literals.items k 0 / 2
    → ((l : ℕ) → Has (get_or store s.clause []) l → l ≢ get_or t.literals.items k 0 → get_or a.marks.items (get_or t.places.items (l / 2) 0) 0 ≢ 0)
    → AreLawful store (get_or store a.start []) (a.steps.items ++ s ∷ []) × Covers t.values.items t.places.items (set a.marks.items k 0) (resolved store (get_or store a.start []) (a.steps.items ++ s ∷ []))
left_out store t base k a s x e h b z n c p i =
    let g : Grown t.places.items a.marks.items a.marks.items (get_or store s.clause []) (get_or t.literals.items k 0) = record { keeps = λ q y. y; adds = i; only = λ q y. inl y } in
    (explained_lawful store t base k a s x e h z n c p, explained_covers store t base k a s a.marks.items x e h n c p g e.marked.len)

pub still_below : (m : List ℕ) (k top : ℕ) → AreMarksBelow m top → AreMarksBelow (set m k 0) top
still_below m k top b p x = b p (λ e. x (still m k p e))
