-- What each step of a search keeps.
use Rattle.std.proofs.Common.{ℕ, [], ◌∷◌, ◌++◌, ◌≡◌, ◌+◌, ◌*◌, ◌/◌, ◌<◌, ◌≤◌, ◌≢◌, List, length, get_or, set, take, inl, inr, arith, refl, ap, sym, ◌∙◌, subst}
use Rattle.std.proofs.Math.ListN.{length-set, get_or-append}
use Rattle.std.proofs.Common.{length-append}
use Rattle.std.proofs.Math.Seq.{get_or-append_seam}
use Rattle.std.proofs.lemmas.Bool.{cases_eq, cases_lt}
use Rattle.std.proofs.lemmas.List.{get_or-set_same, get_or-set_other, length-take-le, get_or-take}
use Rattle.cdcl_search.specs.Literals.{Has}
use Rattle.cdcl_search.specs.Trails.{with_true, IsTrail, Agree}
use Rattle.cdcl_search.specs.Searches.{FalseBut, Quiet, Forces, IsSearch}
use Rattle.cdcl_search.proofs.Members.{Has-left, Has-right, Has-index, Has-take}
use Rattle.cdcl_search.proofs.Trail_steps.{kept, room, assigned, assigned-agree}

pub FalseBut-agree : (v w v' w' c : List ℕ) (u p q : ℕ) → Agree v w v' w' p → q ≤ p → FalseBut v w c u q → FalseBut v' w' c u q
FalseBut-agree v w v' w' c u p q a i f j h = elim (f j h) [ inl e ↦ inl e | inr b ↦ inr (a.false_to (get_or c j 0) q i b) ]

pub FalseBut-from : (v w v' w' c : List ℕ) (u p q : ℕ) → Agree v w v' w' p → q ≤ p → FalseBut v' w' c u q → FalseBut v w c u q
FalseBut-from v w v' w' c u p q a i f j h = elim (f j h) [ inl e ↦ inl e | inr b ↦ inr (a.false_from (get_or c j 0) q i b) ]

pub Forces-agree : (v w v' w' c : List ℕ) (l p k : ℕ) → Agree v w v' w' p → k ≤ p → Forces v w c l k → Forces v' w' c l k
Forces-agree v w v' w' c l p k a i f = record { has = f.has; rest = FalseBut-agree v w v' w' c l p k a i f.rest }

pub Quiet-agree : (v w v' w' c : List ℕ) (p q : ℕ) → Agree v w v' w' p → q ≤ p → Quiet v w c q → Quiet v' w' c q
Quiet-agree v w v' w' c p q a i h u f = let r = h u (FalseBut-from v w v' w' c u p q a i f) in (r.0, a.true_to u q i r.1)

-- the reasons of the literals before `count` stay
kept_reason : (none : ℕ) (store : List (List ℕ)) (v w rs ls : List ℕ) (count : ℕ) (limits : List ℕ) (l r k : ℕ) → IsSearch none store v w rs ls count limits → get_or v l 0 ≡ 0 → k < count
    → get_or (set rs (l / 2) r) (get_or (set ls count l) k 0 / 2) 0 ≡ get_or rs (get_or ls k 0 / 2) 0
kept_reason none store v w rs ls count limits l r k s o h =
    let e : k ≢ count = omega arith in
    let on : get_or v (get_or ls k 0) 0 ≡ 1 = s.trail.is_true k h in
    let d : get_or ls k 0 / 2 ≢ l / 2 = (kept v w ls count l (get_or ls k 0) s.trail o (omega arith)).0 in
    rw (get_or-set_other {A = ℕ} ls count k l 0, get_or-set_other {A = ℕ} rs (l / 2) (get_or ls k 0 / 2) r 0) refl

new_reason : (none : ℕ) (store : List (List ℕ)) (v w rs ls : List ℕ) (count : ℕ) (limits : List ℕ) (l r : ℕ) → IsSearch none store v w rs ls count limits → l < 2 * length ls → get_or v l 0 ≡ 0
    → get_or (set rs (l / 2) r) (get_or (set ls count l) count 0 / 2) 0 ≡ r
new_reason none store v w rs ls count limits l r s h o =
    let c : count < length ls = room v w ls count l s.trail h o in
    let b : l / 2 < length rs = omega (arith, s.reasons_len) in
    rw (get_or-set_same {A = ℕ} ls count l 0, get_or-set_same {A = ℕ} rs (l / 2) r 0) refl

-- a clause makes its last open literal true
pub forced : (none : ℕ) (store : List (List ℕ)) (v w rs ls : List ℕ) (count : ℕ) (limits : List ℕ) (l r : ℕ) → IsSearch none store v w rs ls count limits → l < 2 * length ls → get_or v l 0 ≡ 0
    → r ≢ none → r < length store → Forces v w (get_or store r []) l count
    → IsSearch none store (with_true v l) (set w (l / 2) count) (set rs (l / 2) r) (set ls count l) (count + 1) limits
forced none store v w rs ls count limits l r s h o n b f =
    let g : Agree v w (with_true v l) (set w (l / 2) count) count = assigned-agree v w ls count l s.trail h o in
    let old : (k : ℕ) → k < count → get_or (set rs (l / 2) r) (get_or (set ls count l) k 0 / 2) 0 ≡ get_or rs (get_or ls k 0 / 2) 0 = λ k j. kept_reason none store v w rs ls count limits l r k s o j in
    let new : get_or (set rs (l / 2) r) (get_or (set ls count l) count 0 / 2) 0 ≡ r = new_reason none store v w rs ls count limits l r s h o in
    let c : count < length ls = room v w ls count l s.trail h o in
    record {
      trail = assigned v w ls count l s.trail h o;
      reasons_len = simp length-set s.reasons_len;
      reason_below = λ k j m. elim (cases_eq k count) [
        | inl e ↦ rw (e, new) b
        | inr e ↦ let q : k < count = omega arith in rw (old k q) (s.reason_below k q (λ z. m (old k q ∙ z)))
      ];
      forces = λ k j m. elim (cases_eq k count) [
        | inl e ↦ rw (e, new, get_or-set_same {A = ℕ} ls count l 0) (Forces-agree v w (with_true v l) (set w (l / 2) count) (get_or store r []) l count count g (omega arith) f)
        | inr e ↦ let q : k < count = omega arith in
            rw (old k q, get_or-set_other {A = ℕ} ls count k l 0) (Forces-agree v w (with_true v l) (set w (l / 2) count) (get_or store (get_or rs (get_or ls k 0 / 2) 0) []) (get_or ls k 0) count k g (omega arith) (s.forces k q (λ z. m (old k q ∙ z))))
      ];
      decided = λ k j m. elim (cases_eq k count) [
        | inl e ↦ absurd (n (sym new ∙ (rw e at m)))
        | inr e ↦ let q : k < count = omega arith in s.decided k q (sym (old k q) ∙ m)
      ];
      limit_below = λ j i. omega (arith, s.limit_below j i);
      limits_rise = s.limits_rise;
      quiet = λ j i x y. Quiet-agree v w (with_true v l) (set w (l / 2) count) (get_or store x []) count (get_or limits j 0) g (omega (arith, s.limit_below j i)) (s.quiet j i x y);
    }

-- a decision opens a level
pub chosen : (none : ℕ) (store : List (List ℕ)) (v w rs ls : List ℕ) (count : ℕ) (limits : List ℕ) (l : ℕ) → IsSearch none store v w rs ls count limits → l < 2 * length ls → get_or v l 0 ≡ 0
    → ((i : ℕ) → i < length store → Quiet v w (get_or store i []) count)
    → IsSearch none store (with_true v l) (set w (l / 2) count) (set rs (l / 2) none) (set ls count l) (count + 1) (limits ++ count ∷ [])
chosen none store v w rs ls count limits l s h o all =
    let g : Agree v w (with_true v l) (set w (l / 2) count) count = assigned-agree v w ls count l s.trail h o in
    let old : (k : ℕ) → k < count → get_or (set rs (l / 2) none) (get_or (set ls count l) k 0 / 2) 0 ≡ get_or rs (get_or ls k 0 / 2) 0 = λ k j. kept_reason none store v w rs ls count limits l none k s o j in
    let new : get_or (set rs (l / 2) none) (get_or (set ls count l) count 0 / 2) 0 ≡ none = new_reason none store v w rs ls count limits l none s h o in
    let c : count < length ls = room v w ls count l s.trail h o in
    let p : length (limits ++ count ∷ []) ≡ length limits + 1 = length-append limits (count ∷ []) in
    let last : get_or (limits ++ count ∷ []) (length limits) 0 ≡ count = get_or-append_seam limits count [] 0 in
    let first : (j : ℕ) → j < length limits → get_or (limits ++ count ∷ []) j 0 ≡ get_or limits j 0 = λ j i. get_or-append limits (count ∷ []) 0 j i in
    record {
      trail = assigned v w ls count l s.trail h o;
      reasons_len = simp length-set s.reasons_len;
      reason_below = λ k j m. elim (cases_eq k count) [
        | inl e ↦ absurd (m (rw e new))
        | inr e ↦ let q : k < count = omega arith in rw (old k q) (s.reason_below k q (λ z. m (old k q ∙ z)))
      ];
      forces = λ k j m. elim (cases_eq k count) [
        | inl e ↦ absurd (m (rw e new))
        | inr e ↦ let q : k < count = omega arith in
            rw (old k q, get_or-set_other {A = ℕ} ls count k l 0) (Forces-agree v w (with_true v l) (set w (l / 2) count) (get_or store (get_or rs (get_or ls k 0 / 2) 0) []) (get_or ls k 0) count k g (omega arith) (s.forces k q (λ z. m (old k q ∙ z))))
      ];
      decided = λ k j m. elim (cases_eq k count) [
        | inl e ↦ Has-right limits (count ∷ []) k (inl (sym e))
        | inr e ↦ let q : k < count = omega arith in Has-left limits (count ∷ []) k (s.decided k q (sym (old k q) ∙ m))
      ];
      limit_below = λ j i. elim (cases_eq j (length limits)) [
        | inl e ↦ rw (e, last) (omega arith)
        | inr e ↦ let q : j < length limits = omega arith in rw (first j q) (omega (arith, s.limit_below j q))
      ];
      limits_rise = λ i j x y. let a : i < length limits = omega arith in elim (cases_eq j (length limits)) [
        | inl e ↦ rw (e, last, first i a) (s.limit_below i a)
        | inr e ↦ let q : j < length limits = omega arith in rw (first j q, first i a) (s.limits_rise i j x q)
      ];
      quiet = λ j i x y. elim (cases_eq j (length limits)) [
        | inl e ↦ rw (e, last) (Quiet-agree v w (with_true v l) (set w (l / 2) count) (get_or store x []) count count g (omega arith) (all x y))
        | inr e ↦ let q : j < length limits = omega arith in
            rw (first j q) (Quiet-agree v w (with_true v l) (set w (l / 2) count) (get_or store x []) count (get_or limits j 0) g (omega (arith, s.limit_below j q)) (s.quiet j q x y))
      ];
    }

-- which limit it is
limit_index : (none : ℕ) (store : List (List ℕ)) (v w rs ls : List ℕ) (count : ℕ) (limits : List ℕ) (d j : ℕ) → IsSearch none store v w rs ls count limits
    → d < length limits → j < length limits → get_or limits j 0 < get_or limits d 0 → j < d
limit_index none store v w rs ls count limits d j s a b c = elim (cases_lt j d) [
  | inl e ↦ e
  | inr e ↦ elim (cases_eq j d) [ inl q ↦ absurd (omega (arith, ap (λ x. get_or limits x 0) q)) | inr q ↦ absurd (omega (arith, s.limits_rise d j (omega arith) b)) ]
]

-- back to the limit of the level d
pub taken_back : (none : ℕ) (store : List (List ℕ)) (v w rs ls : List ℕ) (count : ℕ) (limits v' : List ℕ) (m d : ℕ) → IsSearch none store v w rs ls count limits
    → d < length limits → m ≡ get_or limits d 0 → IsTrail v' w ls m → Agree v w v' w m
    → IsSearch none store v' w rs ls m (take d limits)
taken_back none store v w rs ls count limits v' m d s a e t g =
    let c : m < count = rw e (s.limit_below d a) in
    let n : length (take d limits) ≡ d = length-take-le d limits (omega arith) in
    let at : (j : ℕ) → j < d → get_or (take d limits) j 0 ≡ get_or limits j 0 = λ j i. get_or-take d limits j 0 i in
    record {
      trail = t;
      reasons_len = s.reasons_len;
      reason_below = λ k j r. s.reason_below k (omega arith) r;
      forces = λ k j r. Forces-agree v w v' w (get_or store (get_or rs (get_or ls k 0 / 2) 0) []) (get_or ls k 0) m k g (omega arith) (s.forces k (omega arith) r);
      decided = λ k j r.
          let x = Has-index limits k (s.decided k (omega arith) r) in
          let y : x.0 < d = limit_index none store v w rs ls count limits d x.0 s a x.1 (omega (arith, x.2, e, j)) in
          subst (Has (take d limits)) x.2 (Has-take limits d x.0 y x.1);
      limit_below = λ j i. rw (at j (omega arith), e) (s.limits_rise j d (omega arith) a);
      limits_rise = λ i j x y. rw (at i (omega arith), at j (omega arith)) (s.limits_rise i j x (omega arith));
      quiet = λ j i x y.
          let b : get_or limits j 0 < get_or limits d 0 = s.limits_rise j d (omega arith) a in
          rw (at j (omega arith)) (Quiet-agree v w v' w (get_or store x []) m (get_or limits j 0) g (omega arith) (s.quiet j (omega arith) x y));
    }

-- a clause is added
pub learned : (none : ℕ) (store : List (List ℕ)) (v w rs ls : List ℕ) (count : ℕ) (limits c : List ℕ) → IsSearch none store v w rs ls count limits
    → ((j : ℕ) → j < length limits → Quiet v w c (get_or limits j 0))
    → IsSearch none (store ++ c ∷ []) v w rs ls count limits
learned none store v w rs ls count limits c s q =
    let n : length (store ++ c ∷ []) ≡ length store + 1 = length-append store (c ∷ []) in
    let first : (i : ℕ) → i < length store → get_or (store ++ c ∷ []) i [] ≡ get_or store i [] = λ i h. get_or-append store (c ∷ []) [] i h in
    let last : get_or (store ++ c ∷ []) (length store) [] ≡ c = get_or-append_seam store c [] [] in
    record {
      trail = s.trail;
      reasons_len = s.reasons_len;
      reason_below = λ k j r. omega (arith, n, s.reason_below k j r);
      forces = λ k j r. rw (first (get_or rs (get_or ls k 0 / 2) 0) (s.reason_below k j r)) (s.forces k j r);
      decided = s.decided;
      limit_below = s.limit_below;
      limits_rise = s.limits_rise;
      quiet = λ j i x y. elim (cases_eq x (length store)) [
        | inl e ↦ rw (e, last) (q j i)
        | inr e ↦ let z : x < length store = omega arith in rw (first x z) (s.quiet j i x z)
      ];
    }
