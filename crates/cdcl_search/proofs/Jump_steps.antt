-- The jump back, and what the learned clause forces then.
use Rattle.std.proofs.Common.{ℕ, [], ◌∷◌, ◌++◌, ◌≡◌, ◌+◌, ◌-◌, ◌*◌, ◌/◌, ◌<◌, ◌≤◌, List, length, get_or, set, take, inl, inr, arith, refl, ap, length-append}
use Rattle.std.proofs.Math.ListN.{length-set, get_or-append}
use Rattle.std.proofs.Math.Seq.{get_or-append_seam}
use Rattle.std.proofs.lemmas.List.{get_or_past, length-take-le, get_or-take}
use Rattle.std.proofs.lemmas.Bool.{cases_eq, cases_lt}
use Rattle.cdcl_search.specs.Literals.{flip, Has}
use Rattle.cdcl_search.specs.Trails.{with_true, IsTrail, FalseBelow, Agree}
use Rattle.cdcl_search.specs.Searches.{Quiet, Forces, IsSearch}
use Rattle.cdcl_search.specs.States.{IsState, AreWithin}
use Rattle.cdcl_search.specs.Learnings.{IsAsserting, IsReach, IsTarget, IsUndone}
use Rattle.cdcl_search.specs.declared.trail.Trail.{Trail}
use Rattle.cdcl_search.proofs.Flips.{flip-variable, flip-below}
use Rattle.cdcl_search.proofs.Members.{Has-at, Has-index}
use Rattle.cdcl_search.proofs.Trail_steps.{false_placed, literal_within}
use Rattle.cdcl_search.proofs.Search_steps.{forced, taken_back, learned}
use Rattle.cdcl_search.proofs.Learn_steps.{taught, taught_quiet, taught_forces, taught_false}

-- limits up to the target's are before a literal of the clause
pub target_reached : (store : List (List ℕ)) (t : Trail) (lower : List ℕ) (r d j : ℕ) → IsState store t → IsReach t.places.items lower (length lower) r → IsTarget t.limits.items r d → j < d
    → (q : ℕ) × Has lower q × (get_or t.limits.items j 0 ≤ get_or t.places.items (q / 2) 0)
target_reached store t lower r d j s a b h =
    let f : get_or t.limits.items (d - 1) 0 < r = b.first (omega arith) in
    let l : get_or t.limits.items j 0 ≤ get_or t.limits.items (d - 1) 0 = elim (cases_eq j (d - 1)) [ inl e ↦ rw e (omega arith) | inr e ↦ omega (arith, s.search.limits_rise j (d - 1) (omega arith) (omega (arith, b.within))) ] in
    elim a.reached [ inl e ↦ absurd (omega arith) | inr q ↦ (q.0, q.1, omega (arith, q.2)) ]

pub target_far : (t : Trail) (base k : ℕ) (lower : List ℕ) (r d l : ℕ) → IsAsserting t base k lower → IsReach t.places.items lower (length lower) r → IsTarget t.limits.items r d → Has lower l
    → FalseBelow t.values.items t.places.items l (get_or t.limits.items d 0)
target_far t base k lower r d l a x b h =
    let i = Has-index lower l h in
    record { value = (a.below l h).value; place = omega (arith, b.far, x.before i.0 i.1, ap (λ j. get_or t.places.items (j / 2) 0) i.2) }

-- the clause's last literal is open after the jump
pub asserted_open : (t : Trail) (v' ls : List ℕ) (k m : ℕ) → IsTrail v' t.places.items ls m → IsTrail t.values.items t.places.items t.literals.items t.count → k < t.count → m ≤ k → get_or v' (flip (get_or t.literals.items k 0)) 0 ≡ 0
asserted_open t v' ls k m s u h i =
    let p : get_or t.places.items (flip (get_or t.literals.items k 0) / 2) 0 ≡ k = rw flip-variable (u.placed k h) in
    let two = s.at_most_two (flip (get_or t.literals.items k 0)) in
    elim (cases_eq (get_or v' (flip (get_or t.literals.items k 0)) 0) 1) [
      | inl e ↦ absurd (omega (arith, p, s.place_below (flip (get_or t.literals.items k 0)) e))
      | inr n ↦ elim (cases_eq (get_or v' (flip (get_or t.literals.items k 0)) 0) 2) [
        | inl e ↦ absurd (omega (arith, p, (false_placed v' t.places.items ls m (flip (get_or t.literals.items k 0)) s e).place))
        | inr o ↦ omega arith
      ]
    ]

pub taught_below : (t : Trail) (base k : ℕ) (lower : List ℕ) (l : ℕ) → IsTrail t.values.items t.places.items t.literals.items t.count → IsAsserting t base k lower → Has (taught t k lower) l → l < 2 * length t.literals.items
taught_below t base k lower l s a h = elim (cases_lt l (length t.values.items)) [
  | inl e ↦ omega (arith, s.values_len)
  | inr e ↦ absurd (omega (arith, get_or_past t.values.items l 0 e, taught_false t base k lower l s a h))
]

pub within_push : (store : List (List ℕ)) (c : List ℕ) (n : ℕ) → AreWithin store n → ((l : ℕ) → Has c l → l < 2 * n) → AreWithin (store ++ c ∷ []) n
within_push store c n w h i b j k = elim (cases_eq i (length store)) [
  | inl e ↦
      let x : get_or (store ++ c ∷ []) i [] ≡ c = rw e (get_or-append_seam store c [] []) in
      let y : j < length c = rw x at k in
      rw x (h (get_or c j 0) (Has-at c j y))
  | inr e ↦
      let z : i < length store = omega (arith, b, length-append store (c ∷ [])) in
      let x : get_or (store ++ c ∷ []) i [] ≡ get_or store i [] = get_or-append store (c ∷ []) [] i z in
      let y : j < length (get_or store i []) = rw x at k in
      rw x (w i z j y)
]

-- the whole step
pub jumped : (store : List (List ℕ)) (t u : Trail) (base k r d : ℕ) (lower : List ℕ) → IsState store t → 0 < length t.limits.items → base ≡ get_or t.limits.items (length t.limits.items - 1) 0 → IsAsserting t base k lower
    → IsReach t.places.items lower (length lower) r → IsTarget t.limits.items r d → IsUndone t u (get_or t.limits.items d 0) → length store + 1 < 4294967295
    → IsSearch 4294967295 (store ++ taught t k lower ∷ []) u.values.items u.places.items u.reasons.items u.literals.items u.count (take d t.limits.items)
    × (get_or u.values.items (flip (get_or t.literals.items k 0)) 0 ≡ 0)
    × Forces u.values.items u.places.items (taught t k lower) (flip (get_or t.literals.items k 0)) u.count
jumped store t u base k r d lower s o e a x b n f =
    let ep : u.places.items ≡ t.places.items = ap (λ y. y.items) n.places in
    let er : u.reasons.items ≡ t.reasons.items = ap (λ y. y.items) n.reasons in
    let el : u.literals.items ≡ t.literals.items = ap (λ y. y.items) n.literals in
    let g : Agree t.values.items t.places.items u.values.items t.places.items (get_or t.limits.items d 0) = rw ep at n.agree in
    let v : IsTrail u.values.items t.places.items t.literals.items (get_or t.limits.items d 0) = rw (ep, el) at n.trail in
    let lo : get_or t.limits.items d 0 ≤ base = elim (cases_eq d (length t.limits.items - 1)) [ inl q ↦ rw (q, e) (omega arith) | inr q ↦ omega (arith, e, s.search.limits_rise d (length t.limits.items - 1) (omega (arith, b.within)) (omega arith)) ] in
    let back = taken_back 4294967295 store t.values.items t.places.items t.reasons.items t.literals.items t.count t.limits.items u.values.items (get_or t.limits.items d 0) d s.search b.within refl v g in
    let len : length (take d t.limits.items) ≡ d = length-take-le d t.limits.items (omega (arith, b.within)) in
    let quiet : (j : ℕ) → j < length (take d t.limits.items) → Quiet u.values.items t.places.items (taught t k lower) (get_or (take d t.limits.items) j 0) = λ j h.
    let i : j < d = omega (arith, len) in
    let y = target_reached store t lower r d j s x b i in
    let z : get_or t.limits.items j 0 < get_or t.limits.items d 0 = s.search.limits_rise j d i b.within in
    rw (get_or-take d t.limits.items j 0 i) (taught_quiet t u.values.items base k (get_or t.limits.items d 0) (get_or t.limits.items j 0) y.0 lower s.search.trail a g (omega arith) (omega arith) y.1 y.2) in
    let all = learned 4294967295 store u.values.items t.places.items t.reasons.items t.literals.items (get_or t.limits.items d 0) (take d t.limits.items) (taught t k lower) back quiet in (
      rw (ep, er, el, n.count) all,
      asserted_open t u.values.items t.literals.items k (get_or t.limits.items d 0) v s.search.trail a.within (omega (arith, a.after, lo)),
      rw (ep, n.count) (taught_forces t u.values.items base k (get_or t.limits.items d 0) lower g (λ l h. target_far t base k lower r d l a x b h)),
    )

pub jumped_state : (store store' : List (List ℕ)) (t u new : Trail) (base k r d l reason : ℕ) (lower : List ℕ) → IsState store t → 0 < length t.limits.items → base ≡ get_or t.limits.items (length t.limits.items - 1) 0 → IsAsserting t base k lower
    → IsReach t.places.items lower (length lower) r → IsTarget t.limits.items r d → IsUndone t u (get_or t.limits.items d 0) → length store + 1 < 4294967295
    → l ≡ flip (get_or t.literals.items k 0) → reason ≡ length store → store' ≡ store ++ taught t k lower ∷ []
    → new.values.items ≡ with_true u.values.items l → new.places.items ≡ set u.places.items (l / 2) u.count → new.reasons.items ≡ set u.reasons.items (l / 2) reason
    → new.literals.items ≡ set u.literals.items u.count l → new.count ≡ u.count + 1 → new.limits.items ≡ take d t.limits.items → IsState store' new
jumped_state store store' t u new base k r d l reason lower s o e a x b n f el er es av aw ar al ac am =
    let j = jumped store t u base k r d lower s o e a x b n f in
    let ul : u.literals.items ≡ t.literals.items = ap (λ y. y.items) n.literals in
    let below : flip (get_or t.literals.items k 0) < 2 * length u.literals.items = rw ul (flip-below (get_or t.literals.items k 0) (length t.literals.items) (literal_within t.values.items t.places.items t.literals.items t.count k s.search.trail a.within)) in
    let last : get_or (store ++ taught t k lower ∷ []) (length store) [] ≡ taught t k lower = get_or-append_seam store (taught t k lower) [] [] in
    let len : length (store ++ taught t k lower ∷ []) ≡ length store + 1 = length-append store (taught t k lower ∷ []) in
    let force : Forces u.values.items u.places.items (get_or (store ++ taught t k lower ∷ []) (length store) []) (flip (get_or t.literals.items k 0)) u.count = rw last j.2 in
    let all = forced 4294967295 (store ++ taught t k lower ∷ []) u.values.items u.places.items u.reasons.items u.literals.items u.count (take d t.limits.items) (flip (get_or t.literals.items k 0)) (length store) j.0 below j.1 (λ q. omega (arith, q, f)) (omega (arith, len)) force in
    record {
      search = rw (av, aw, ar, al, ac, am, es, el, er) all;
      within = rw (al, length-set, ul, es) (within_push store (taught t k lower) (length t.literals.items) s.within (λ q h. taught_below t base k lower q s.search.trail a h));
      few = rw (al, length-set, ul) s.few;
      store_few = rw (es, len) f;
    }

-- the empty clause is added where there is no decision
pub refuted_state : (store store' : List (List ℕ)) (t : Trail) → IsState store t → length t.limits.items ≡ 0 → length store + 1 < 4294967295 → store' ≡ store ++ [] ∷ [] → IsState store' t
refuted_state store store' t s z f e = record {
  search = rw e (learned 4294967295 store t.values.items t.places.items t.reasons.items t.literals.items t.count t.limits.items [] s.search (λ j h. absurd (omega arith)));
  within = rw e (within_push store [] (length t.literals.items) s.within (λ l h. absurd h));
  few = s.few;
  store_few = rw (e, length-append store ([] ∷ [])) f;
}
