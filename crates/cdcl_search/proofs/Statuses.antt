-- What one clause says under an assignment.
use Rattle.std.proofs.Common.{ℕ, ◌≡◌, ◌+◌, ◌<◌, ◌≢◌, ◌⊎◌, List, length, get_or, inl, inr, arith, refl, sym, ◌∙◌, Option, Some, None}
use Rattle.std.proofs.lemmas.Bool.{cases_eq}
use Rattle.cdcl_search.specs.Literals.{Has}
use Rattle.cdcl_search.specs.Trails.{IsTrail, FalseBelow}
use Rattle.cdcl_search.specs.Searches.{FalseBut, Quiet}
use Rattle.cdcl_search.proofs.Members.{Has-at, Has-index}
use Rattle.cdcl_search.proofs.Trail_steps.{false_placed}

-- what the literals before an index say, where `only` is the open one among them
abbrev pub Seen : List ℕ → List ℕ → List ℕ → ℕ → ℕ → Option ℕ → Type 0
Seen v w c count i None = (j : ℕ) → j < i → FalseBelow v w (get_or c j 0) count
Seen v w c count i (Some u) = (get_or v u 0 ≡ 0) × Has c u × ((j : ℕ) → j < i → (get_or c j 0 ≡ u) ⊎ FalseBelow v w (get_or c j 0) count)

not_false : (v w c : List ℕ) (count u k : ℕ) → k < length c → FalseBut v w c u count → get_or v (get_or c k 0) 0 ≢ 2 → get_or c k 0 ≡ u
not_false v w c count u k h f n = elim (f k h) [ inl e ↦ e | inr b ↦ absurd (n b.value) ]

pub quiet_true : (v w ls c : List ℕ) (count k : ℕ) → IsTrail v w ls count → k < length c → get_or v (get_or c k 0) 0 ≡ 1 → Quiet v w c count
quiet_true v w ls c count k t h o u f =
    let e : get_or c k 0 ≡ u = not_false v w c count u k h f (λ q. omega (arith, q, o)) in
    rw (← e) (Has-at c k h, record { value = o; place = t.place_below (get_or c k 0) o })

pub quiet_two : (v w c : List ℕ) (count x k : ℕ) → Has c x → k < length c → get_or v x 0 ≡ 0 → get_or v (get_or c k 0) 0 ≡ 0 → x ≢ get_or c k 0 → Quiet v w c count
quiet_two v w c count x k h i o p n u f =
    let r = Has-index c x h in
    let a : get_or v (get_or c r.0 0) 0 ≢ 2 = rw r.2 (omega arith) in
    let e : get_or c r.0 0 ≡ u = not_false v w c count u r.0 r.1 f a in
    let g : get_or c k 0 ≡ u = not_false v w c count u k i f (omega arith) in
    absurd (n (sym r.2 ∙ e ∙ sym g))

pub seen_false : (v w ls c : List ℕ) (count i : ℕ) (o : Option ℕ) → IsTrail v w ls count → Seen v w c count i o → get_or v (get_or c i 0) 0 ≡ 2 → Seen v w c count (i + 1) o
seen_false v w ls c count i None t s h = λ j k. elim (cases_eq j i) [
  | inl e ↦ rw e (false_placed v w ls count (get_or c i 0) t h)
  | inr e ↦ s j (omega arith)
]
seen_false v w ls c count i (Some u) t s h = (
  s.0,
  s.1,
  λ j k. elim (cases_eq j i) [
    | inl e ↦ inr (rw e (false_placed v w ls count (get_or c i 0) t h))
    | inr e ↦ s.2 j (omega arith)
  ],
)

pub seen_open : (v w c : List ℕ) (count i : ℕ) → Seen v w c count i None → i < length c → get_or v (get_or c i 0) 0 ≡ 0 → Seen v w c count (i + 1) (Some (get_or c i 0))
seen_open v w c count i s b h = (
  h,
  Has-at c i b,
  λ j k. elim (cases_eq j i) [
    | inl e ↦ inl (rw e refl)
    | inr e ↦ inr (s j (omega arith))
  ],
)

pub seen_again : (v w c : List ℕ) (count i u : ℕ) → Seen v w c count i (Some u) → get_or c i 0 ≡ u → Seen v w c count (i + 1) (Some u)
seen_again v w c count i u s h = (
  s.0,
  s.1,
  λ j k. elim (cases_eq j i) [
    | inl e ↦ inl (rw e h)
    | inr e ↦ s.2 j (omega arith)
  ],
)
