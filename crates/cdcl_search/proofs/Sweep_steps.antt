-- How the marks of a conflict are taken away.
use Rattle.std.proofs.Common.{ℕ, ◌≡◌, ◌+◌, ◌/◌, ◌<◌, ◌≤◌, ◌≢◌, List, length, get_or, set, inl, inr, arith, ap, sym, ◌∙◌}
use Rattle.std.proofs.lemmas.Bool.{cases_eq, cases_lt}
use Rattle.cdcl_search.specs.Literals.{flip}
use Rattle.cdcl_search.specs.Trails.{IsTrail, FalseBelow}
use Rattle.cdcl_search.specs.Marks.{IsMarked, AreClear, IsSwept}
use Rattle.cdcl_search.proofs.Flips.{flip-variable}
use Rattle.cdcl_search.proofs.Members.{Has-index}
use Rattle.cdcl_search.proofs.Mark_steps.{taken, still}
use Rattle.cdcl_search.proofs.Learn_steps.{only_mark}

pub swept_more : (w m m1 lower : List ℕ) (i : ℕ) → IsSwept w m m1 lower i → IsSwept w m (set m1 (get_or w (get_or lower i 0 / 2) 0) 0) lower (i + 1)
swept_more w m m1 lower i s = record {
  gone = λ j h. elim (cases_eq j i) [
    | inl e ↦ rw e (taken m1 (get_or w (get_or lower i 0 / 2) 0))
    | inr d ↦ still m1 (get_or w (get_or lower i 0 / 2) 0) (get_or w (get_or lower j 0 / 2) 0) (s.gone j (omega arith))
  ];
  only = λ p x e. s.only p (λ y. x (still m1 (get_or w (get_or lower i 0 / 2) 0) p y)) e;
}

-- each place has a literal that became false there
lower_gone : (v w ls : List ℕ) (count base n : ℕ) (m0 m m' lower : List ℕ) (p : ℕ) → IsTrail v w ls count → IsMarked v w base n m lower 1 → IsSwept w m0 m' lower (length lower)
    → p < base → p < count → get_or m p 0 ≢ 0 → get_or m' p 0 ≡ 0
lower_gone v w ls count base n m0 m m' lower p t k s b h z =
    let place : get_or w (flip (get_or ls p 0) / 2) 0 ≡ p = rw flip-variable (t.placed p h) in
    let f : FalseBelow v w (flip (get_or ls p 0)) base = record { value = t.true_opposite (get_or ls p 0) (t.is_true p h); place = omega (arith, place) } in
    let r = Has-index lower (flip (get_or ls p 0)) (k.marked_lower (flip (get_or ls p 0)) f (rw place z)) in
    let same : get_or w (get_or lower r.0 0 / 2) 0 ≡ p = ap (λ l. get_or w (l / 2) 0) r.2 ∙ place in
    ap (λ q. get_or m' q 0) (sym same) ∙ s.gone r.0 r.1

pub swept_all : (v w ls : List ℕ) (count base n : ℕ) (m m' lower : List ℕ) (last : ℕ) → IsTrail v w ls count → IsMarked v w base n m lower 1 → last < count → base ≤ last → get_or m last 0 ≢ 0
    → IsSwept w (set m last 0) m' lower (length lower) → AreClear m'
swept_all v w ls count base n m m' lower last t k h b z s p = elim (cases_eq (get_or m' p 0) 0) [
  | inl e ↦ e
  | inr x ↦
      let y : get_or m p 0 ≢ 0 = λ e. s.only p x (still m last p e) in
      elim (cases_lt p base) [
        | inl q ↦ lower_gone v w ls count base n (set m last 0) m m' lower p t k s q (omega arith) y
        | inr q ↦ absurd (let e : p ≡ last = only_mark v w base n m lower last p k b z q y in s.only p x (rw e (taken m last)))
      ]
]
