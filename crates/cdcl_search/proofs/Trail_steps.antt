-- What an assignment and its undoing keep of a trail.
use Rattle.std.proofs.Common.{ℕ, zero, suc, [], ◌∷◌, ◌≡◌, ◌+◌, ◌*◌, ◌/◌, ◌<◌, ◌≤◌, ◌≢◌, ◌⊎◌, List, length, get_or, set, inl, inr, arith, refl, ap, sym, ◌∙◌}
use Rattle.std.proofs.lemmas.Grind.{common_steps}
use Rattle.std.proofs.lemmas.List.{get_or-set_same, get_or-set_other, get_or_past}
use Rattle.std.proofs.Math.ListN.{length-set}
use Rattle.std.proofs.lemmas.Bool.{cases_eq, cases_lt}
use Rattle.cdcl_search.specs.Literals.{flip}
use Rattle.cdcl_search.specs.Trails.{zeros, with_true, IsTrail, FalseBelow, Agree}
use Rattle.cdcl_search.proofs.Flips.{flip-flip, flip-variable, flip-other, flip-below, same_variable}

pub with_true-self : (v : List ℕ) (l n : ℕ) → length v ≡ 2 * n → l < 2 * n → get_or (with_true v l) l 0 ≡ 1
with_true-self v l n e h = let o : flip l ≢ l = flip-other l in grind (arith, common_steps)

pub with_true-flip : (v : List ℕ) (l n : ℕ) → length v ≡ 2 * n → l < 2 * n → get_or (with_true v l) (flip l) 0 ≡ 2
with_true-flip v l n e h = let o : flip l < 2 * n = flip-below l n h in grind (arith, common_steps)

pub with_true-other : (v : List ℕ) (l m : ℕ) → m ≢ l → m ≢ flip l → get_or (with_true v l) m 0 ≡ get_or v m 0
with_true-other v l m h k = grind (arith, common_steps)

-- one open literal is given a value
pub zeros-set : (v : List ℕ) (i y : ℕ) → i < length v → get_or v i 0 ≡ 0 → zeros (set v i (suc y)) + 1 ≡ zeros v
zeros-set [] i y h e = absurd (omega arith)
zeros-set (zero ∷ xs) zero y h e = omega arith
zeros-set (suc x ∷ xs) zero y h e = absurd (omega arith)
zeros-set (zero ∷ xs) (suc i) y h e = omega (arith, zeros-set xs i y (omega arith) e)
zeros-set (suc x ∷ xs) (suc i) y h e = zeros-set xs i y (omega arith) e

-- one literal is opened
pub zeros-open : (v : List ℕ) (i : ℕ) → i < length v → get_or v i 0 ≢ 0 → zeros (set v i 0) ≡ zeros v + 1
zeros-open [] i h e = absurd (omega arith)
zeros-open (zero ∷ xs) zero h e = absurd (e refl)
zeros-open (suc x ∷ xs) zero h e = omega arith
zeros-open (zero ∷ xs) (suc i) h e = omega (arith, zeros-open xs i (omega arith) e)
zeros-open (suc x ∷ xs) (suc i) h e = zeros-open xs i (omega arith) e

pub zeros-with_true : (v : List ℕ) (l n : ℕ) → length v ≡ 2 * n → l < 2 * n → get_or v l 0 ≡ 0 → get_or v (flip l) 0 ≡ 0
    → zeros (with_true v l) + 2 ≡ zeros v
zeros-with_true v l n e h a b =
    let k : flip l < 2 * n = flip-below l n h in
    let o : flip l ≢ l = flip-other l in
    let f : get_or (set v l 1) (flip l) 0 ≡ 0 = rw get_or-set_other b in
    let p = zeros-set v l 0 (omega arith) a in
    let q = zeros-set (set v l 1) (flip l) 1 (rw length-set (omega arith)) f in
    omega arith

pub opposite_open : (v w ls : List ℕ) (count l : ℕ) → IsTrail v w ls count → get_or v l 0 ≡ 0 → get_or v (flip l) 0 ≡ 0
opposite_open v w ls count l t h =
    let two : get_or v (flip l) 0 ≤ 2 = t.at_most_two (flip l) in
    elim (cases_eq (get_or v (flip l) 0) 1) [
      | inl e ↦ absurd (let o : get_or v l 0 ≡ 2 = rw flip-flip at (t.true_opposite (flip l) e) in omega arith)
      | inr e ↦ elim (cases_eq (get_or v (flip l) 0) 2) [
        | inl f ↦ absurd (let o : get_or v l 0 ≡ 1 = rw flip-flip at (t.false_opposite (flip l) f) in omega arith)
        | inr f ↦ omega arith
      ]
    ]

-- what a literal's value is after `l` was made true
pub with_true-cases : (v : List ℕ) (l m n : ℕ) → length v ≡ 2 * n → l < 2 * n
    → ((m ≡ l) × (get_or (with_true v l) m 0 ≡ 1)) ⊎ (((m ≡ flip l) × (get_or (with_true v l) m 0 ≡ 2)) ⊎ ((m / 2 ≢ l / 2) × (get_or (with_true v l) m 0 ≡ get_or v m 0)))
with_true-cases v l m n e h = elim (cases_eq m l) [
  | inl a ↦ inl (a, rw a (with_true-self v l n e h))
  | inr a ↦ elim (cases_eq m (flip l)) [
    | inl b ↦ inr (inl (b, rw b (with_true-flip v l n e h)))
    | inr b ↦ inr (inr ((λ q. b (same_variable m l q a)), with_true-other v l m a b))
  ]
]

pub room : (v w ls : List ℕ) (count l : ℕ) → IsTrail v w ls count → l < 2 * length ls → get_or v l 0 ≡ 0 → count < length ls
room v w ls count l t h o =
    let z = zeros-with_true v l (length ls) t.values_len h o (opposite_open v w ls count l t o) in
    omega (arith, z, t.open_count)

pub kept : (v w ls : List ℕ) (count l m : ℕ) → IsTrail v w ls count → get_or v l 0 ≡ 0 → get_or v m 0 ≢ 0
    → (m / 2 ≢ l / 2) × (get_or (with_true v l) m 0 ≡ get_or v m 0)
kept v w ls count l m t o k =
    let x : m ≢ l = λ e. k (rw e o) in
    let y : m ≢ flip l = λ e. k (rw e (opposite_open v w ls count l t o)) in
    ((λ q. y (same_variable m l q x)), with_true-other v l m x y)

-- a literal that has a value after `l` was made true
abbrev pub Changed : List ℕ → ℕ → ℕ → Type 0
Changed v l m = ((m ≡ l) × (get_or (with_true v l) m 0 ≡ 1)) ⊎ (((m ≡ flip l) × (get_or (with_true v l) m 0 ≡ 2)) ⊎ ((m / 2 ≢ l / 2) × (get_or (with_true v l) m 0 ≡ get_or v m 0)))

assigned-two : (v : List ℕ) (l m : ℕ) → Changed v l m → get_or v m 0 ≤ 2 → get_or (with_true v l) m 0 ≤ 2
assigned-two v l m (inl a) h = omega (arith, a.1)
assigned-two v l m (inr (inl a)) h = omega (arith, a.1)
assigned-two v l m (inr (inr a)) h = omega (arith, a.1)

assigned-is_true : (v w ls : List ℕ) (count l k : ℕ) → IsTrail v w ls count → l < 2 * length ls → get_or v l 0 ≡ 0 → count < length ls
    → k < count + 1 → get_or (with_true v l) (get_or (set ls count l) k 0) 0 ≡ 1
assigned-is_true v w ls count l k t h o r j = elim (cases_eq k count) [
  | inl e ↦ rw (e, get_or-set_same) (with_true-self v l (length ls) t.values_len h)
  | inr e ↦
      let b : k < count = omega arith in
      let m : ℕ = get_or ls k 0 in
      let a : get_or v (get_or ls k 0) 0 ≡ 1 = t.is_true k b in
      rw (get_or-set_other {A = ℕ} ls count k l 0) ((kept v w ls count l (get_or ls k 0) t o (omega arith)).1 ∙ a)
]

assigned-placed : (v w ls : List ℕ) (count l k : ℕ) → IsTrail v w ls count → l < 2 * length ls → get_or v l 0 ≡ 0 → count < length ls
    → k < count + 1 → get_or (set w (l / 2) count) (get_or (set ls count l) k 0 / 2) 0 ≡ k
assigned-placed v w ls count l k t h o r j = elim (cases_eq k count) [
  | inl e ↦ let b : l / 2 < length w = omega (arith, t.places_len) in rw (e, get_or-set_same, get_or-set_same) refl
  | inr e ↦
      let b : k < count = omega arith in
      let a : get_or v (get_or ls k 0) 0 ≡ 1 = t.is_true k b in
      let d : get_or ls k 0 / 2 ≢ l / 2 = (kept v w ls count l (get_or ls k 0) t o (omega arith)).0 in
      rw (get_or-set_other {A = ℕ} ls count k l 0, get_or-set_other) (t.placed k b)
]

assigned-place_below : (v w ls : List ℕ) (count l m : ℕ) → IsTrail v w ls count → l < 2 * length ls → get_or v l 0 ≡ 0 → count < length ls
    → Changed v l m → get_or (with_true v l) m 0 ≡ 1 → get_or (set w (l / 2) count) (m / 2) 0 < count + 1
assigned-place_below v w ls count l m t h o r (inl a) j = let b : l / 2 < length w = omega (arith, t.places_len) in rw (a.0, get_or-set_same) (omega arith)
assigned-place_below v w ls count l m t h o r (inr (inl a)) j = absurd (omega (arith, a.1, j))
assigned-place_below v w ls count l m t h o r (inr (inr a)) j =
    let d : m / 2 ≢ l / 2 = a.0 in
    rw get_or-set_other (omega (arith, t.place_below m (sym a.1 ∙ j)))

assigned-stands : (v w ls : List ℕ) (count l m : ℕ) → IsTrail v w ls count → l < 2 * length ls → get_or v l 0 ≡ 0 → count < length ls
    → Changed v l m → get_or (with_true v l) m 0 ≡ 1 → get_or (set ls count l) (get_or (set w (l / 2) count) (m / 2) 0) 0 ≡ m
assigned-stands v w ls count l m t h o r (inl a) j = let b : l / 2 < length w = omega (arith, t.places_len) in rw (a.0, get_or-set_same, get_or-set_same) refl
assigned-stands v w ls count l m t h o r (inr (inl a)) j = absurd (omega (arith, a.1, j))
assigned-stands v w ls count l m t h o r (inr (inr a)) j =
    let d : m / 2 ≢ l / 2 = a.0 in
    let e : get_or v m 0 ≡ 1 = sym a.1 ∙ j in
    let p : get_or w (m / 2) 0 ≢ count = λ q. omega (arith, q, t.place_below m e) in
    rw (get_or-set_other {A = ℕ} w (l / 2) (m / 2) count 0, get_or-set_other {A = ℕ} ls count (get_or w (m / 2) 0) l 0) (t.stands m e)

assigned-true_opposite : (v w ls : List ℕ) (count l m : ℕ) → IsTrail v w ls count → l < 2 * length ls → get_or v l 0 ≡ 0
    → Changed v l m → get_or (with_true v l) m 0 ≡ 1 → get_or (with_true v l) (flip m) 0 ≡ 2
assigned-true_opposite v w ls count l m t h o (inl a) j = rw a.0 (with_true-flip v l (length ls) t.values_len h)
assigned-true_opposite v w ls count l m t h o (inr (inl a)) j = absurd (omega (arith, a.1, j))
assigned-true_opposite v w ls count l m t h o (inr (inr a)) j =
    let e : get_or v (flip m) 0 ≡ 2 = t.true_opposite m (sym a.1 ∙ j) in
    (kept v w ls count l (flip m) t o (omega arith)).1 ∙ e

assigned-false_opposite : (v w ls : List ℕ) (count l m : ℕ) → IsTrail v w ls count → l < 2 * length ls → get_or v l 0 ≡ 0
    → Changed v l m → get_or (with_true v l) m 0 ≡ 2 → get_or (with_true v l) (flip m) 0 ≡ 1
assigned-false_opposite v w ls count l m t h o (inl a) j = absurd (omega (arith, a.1, j))
assigned-false_opposite v w ls count l m t h o (inr (inl a)) j = rw (a.0, flip-flip) (with_true-self v l (length ls) t.values_len h)
assigned-false_opposite v w ls count l m t h o (inr (inr a)) j =
    let e : get_or v (flip m) 0 ≡ 1 = t.false_opposite m (sym a.1 ∙ j) in
    (kept v w ls count l (flip m) t o (omega arith)).1 ∙ e

pub assigned : (v w ls : List ℕ) (count l : ℕ) → IsTrail v w ls count → l < 2 * length ls → get_or v l 0 ≡ 0
    → IsTrail (with_true v l) (set w (l / 2) count) (set ls count l) (count + 1)
assigned v w ls count l t h o =
    let r : count < length ls = room v w ls count l t h o in
    let z = zeros-with_true v l (length ls) t.values_len h o (opposite_open v w ls count l t o) in
    let c : (m : ℕ) → Changed v l m = λ m. with_true-cases v l m (length ls) t.values_len h in
    record {
      values_len = simp length-set t.values_len;
      places_len = simp length-set t.places_len;
      at_most_two = λ m. assigned-two v l m (c m) (t.at_most_two m);
      is_true = λ k j. assigned-is_true v w ls count l k t h o r j;
      placed = λ k j. assigned-placed v w ls count l k t h o r j;
      place_below = λ m j. assigned-place_below v w ls count l m t h o r (c m) j;
      stands = λ m j. assigned-stands v w ls count l m t h o r (c m) j;
      true_opposite = λ m j. assigned-true_opposite v w ls count l m t h o (c m) j;
      false_opposite = λ m j. assigned-false_opposite v w ls count l m t h o (c m) j;
      open_count = simp length-set (omega (arith, z, t.open_count));
    }

assigned-from : (v w ls : List ℕ) (count l m q : ℕ) → IsTrail v w ls count → l < 2 * length ls → Changed v l m → q ≤ count
    → FalseBelow (with_true v l) (set w (l / 2) count) m q → FalseBelow v w m q
assigned-from v w ls count l m q t h (inl a) i f = absurd (omega (arith, a.1, f.value))
assigned-from v w ls count l m q t h (inr (inl a)) i f =
    let b : l / 2 < length w = omega (arith, t.places_len) in
    absurd (let g : count < q = rw (a.0, flip-variable, get_or-set_same) at f.place in omega arith)
assigned-from v w ls count l m q t h (inr (inr a)) i f =
    let d : m / 2 ≢ l / 2 = a.0 in
    record { value = sym a.1 ∙ f.value; place = rw get_or-set_other at f.place }

-- before the place `count` an assignment changes nothing
pub assigned-agree : (v w ls : List ℕ) (count l : ℕ) → IsTrail v w ls count → l < 2 * length ls → get_or v l 0 ≡ 0
    → Agree v w (with_true v l) (set w (l / 2) count) count
assigned-agree v w ls count l t h o =
    let c : (m : ℕ) → Changed v l m = λ m. with_true-cases v l m (length ls) t.values_len h in
    record {
      false_to = λ m q i f. let k = kept v w ls count l m t o (omega (arith, f.value)) in record { value = k.1 ∙ f.value; place = let d : m / 2 ≢ l / 2 = k.0 in rw get_or-set_other f.place };
      true_to = λ m q i f. let k = kept v w ls count l m t o (omega (arith, f.value)) in record { value = k.1 ∙ f.value; place = let d : m / 2 ≢ l / 2 = k.0 in rw get_or-set_other f.place };
      false_from = λ m q i f. assigned-from v w ls count l m q t h (c m) i f;
    }

-- the values after `literal` was opened
abbrev pub with_open : List ℕ → ℕ → List ℕ
with_open v l = set (set v l 0) (flip l) 0

abbrev pub Opened : List ℕ → ℕ → ℕ → Type 0
Opened v l m = ((m / 2 ≡ l / 2) × (get_or (with_open v l) m 0 ≡ 0)) ⊎ ((m / 2 ≢ l / 2) × (get_or (with_open v l) m 0 ≡ get_or v m 0))

pub opened-cases : (v : List ℕ) (l m n : ℕ) → length v ≡ 2 * n → l < 2 * n → Opened v l m
opened-cases v l m n e h =
    let o : flip l < 2 * n = flip-below l n h in
    let d : flip l ≢ l = flip-other l in
    elim (cases_eq m l) [
      | inl a ↦ inl (ap (λ x. x / 2) a, rw a (grind (arith, common_steps)))
      | inr a ↦ elim (cases_eq m (flip l)) [
        | inl b ↦ inl (ap (λ x. x / 2) b ∙ flip-variable l, rw b (grind (arith, common_steps)))
        | inr b ↦ inr ((λ q. b (same_variable m l q a)), grind (arith, common_steps))
      ]
    ]

undone-two : (v : List ℕ) (l m : ℕ) → Opened v l m → get_or v m 0 ≤ 2 → get_or (with_open v l) m 0 ≤ 2
undone-two v l m (inl a) h = omega (arith, a.1)
undone-two v l m (inr a) h = omega (arith, a.1)

-- a literal that stands before the last one
pub earlier : (v w ls : List ℕ) (count m : ℕ) → IsTrail v w ls (count + 1) → get_or w (m / 2) 0 < count → m / 2 ≢ get_or ls count 0 / 2
earlier v w ls count m t h e = let p : get_or w (get_or ls count 0 / 2) 0 ≡ count = t.placed count (omega arith) in omega (arith, ap (λ x. get_or w x 0) e, p)

undone-true : (v w ls : List ℕ) (count m : ℕ) → IsTrail v w ls (count + 1) → Opened v (get_or ls count 0) m
    → get_or (with_open v (get_or ls count 0)) m 0 ≡ 1 → (get_or v m 0 ≡ 1) × (get_or w (m / 2) 0 < count)
undone-true v w ls count m t (inl a) j = absurd (omega (arith, a.1, j))
undone-true v w ls count m t (inr a) j =
    let e : get_or v m 0 ≡ 1 = sym a.1 ∙ j in
    let b : get_or w (m / 2) 0 < count + 1 = t.place_below m e in
    let n : get_or w (m / 2) 0 ≢ count = λ q. a.0 (ap (λ x. x / 2) (sym (t.stands m e) ∙ ap (λ x. get_or ls x 0) q)) in
    (e, omega arith)

undone-keeps : (v w ls : List ℕ) (count m : ℕ) → IsTrail v w ls (count + 1) → Opened v (get_or ls count 0) m → get_or w (m / 2) 0 < count
    → get_or (with_open v (get_or ls count 0)) m 0 ≡ get_or v m 0
undone-keeps v w ls count m t (inl a) h = absurd (earlier v w ls count m t h a.0)
undone-keeps v w ls count m t (inr a) h = a.1

undone-opposite : (v : List ℕ) (l m x y : ℕ) → Opened v l m → Opened v l (flip m) → get_or (with_open v l) m 0 ≡ suc x → (get_or v m 0 ≡ suc x → get_or v (flip m) 0 ≡ y)
    → get_or (with_open v l) (flip m) 0 ≡ y
undone-opposite v l m x y (inl a) c j k = absurd (omega (arith, a.1, j))
undone-opposite v l m x y (inr a) (inl c) j k = absurd (a.0 (sym (flip-variable m) ∙ c.0))
undone-opposite v l m x y (inr a) (inr c) j k = c.1 ∙ k (sym a.1 ∙ j)

pub undone : (v w ls : List ℕ) (count : ℕ) → IsTrail v w ls (count + 1) → get_or ls count 0 < 2 * length ls → IsTrail (with_open v (get_or ls count 0)) w ls count
undone v w ls count t h =
    let l : ℕ = get_or ls count 0 in
    let c : (m : ℕ) → Opened v (get_or ls count 0) m = λ m. opened-cases v (get_or ls count 0) m (length ls) t.values_len h in
    let on : get_or v (get_or ls count 0) 0 ≡ 1 = t.is_true count (omega arith) in
    let off : get_or v (flip (get_or ls count 0)) 0 ≡ 2 = t.true_opposite (get_or ls count 0) on in
    let z = zeros-open v (get_or ls count 0) (omega (arith, t.values_len)) (λ q. omega (arith, q, on)) in
    let d : flip (get_or ls count 0) ≢ get_or ls count 0 = flip-other (get_or ls count 0) in
    let s : get_or (set v (get_or ls count 0) 0) (flip (get_or ls count 0)) 0 ≡ 2 = rw get_or-set_other off in
    let y = zeros-open (set v (get_or ls count 0) 0) (flip (get_or ls count 0)) (rw length-set (omega (arith, t.values_len, flip-below (get_or ls count 0) (length ls) h))) (λ q. omega (arith, q, s)) in
    record {
      values_len = simp length-set t.values_len;
      places_len = t.places_len;
      at_most_two = λ m. undone-two v (get_or ls count 0) m (c m) (t.at_most_two m);
      is_true = λ k j. undone-keeps v w ls count (get_or ls k 0) t (c (get_or ls k 0)) (omega (arith, t.placed k (omega arith), j)) ∙ t.is_true k (omega arith);
      placed = λ k j. t.placed k (omega arith);
      place_below = λ m j. (undone-true v w ls count m t (c m) j).1;
      stands = λ m j. t.stands m (undone-true v w ls count m t (c m) j).0;
      true_opposite = λ m j. undone-opposite v (get_or ls count 0) m 0 2 (c m) (c (flip m)) j (t.true_opposite m);
      false_opposite = λ m j. undone-opposite v (get_or ls count 0) m 1 1 (c m) (c (flip m)) j (t.false_opposite m);
      open_count = omega (arith, z, y, t.open_count);
    }

undone-from : (v w ls : List ℕ) (count m x : ℕ) → Opened v (get_or ls count 0) m
    → get_or (with_open v (get_or ls count 0)) m 0 ≡ suc x → get_or v m 0 ≡ suc x
undone-from v w ls count m x (inl a) j = absurd (omega (arith, a.1, j))
undone-from v w ls count m x (inr a) j = sym a.1 ∙ j

pub undone-agree : (v w ls : List ℕ) (count : ℕ) → IsTrail v w ls (count + 1) → get_or ls count 0 < 2 * length ls → Agree v w (with_open v (get_or ls count 0)) w count
undone-agree v w ls count t h =
    let c : (m : ℕ) → Opened v (get_or ls count 0) m = λ m. opened-cases v (get_or ls count 0) m (length ls) t.values_len h in
    record {
      false_to = λ m q i f. record { value = undone-keeps v w ls count m t (c m) (omega (arith, f.place)) ∙ f.value; place = f.place };
      true_to = λ m q i f. record { value = undone-keeps v w ls count m t (c m) (omega (arith, f.place)) ∙ f.value; place = f.place };
      false_from = λ m q i f. record { value = undone-from v w ls count m 1 (c m) f.value; place = f.place };
    }

-- a false literal has a place
pub false_placed : (v w ls : List ℕ) (count l : ℕ) → IsTrail v w ls count → get_or v l 0 ≡ 2 → FalseBelow v w l count
false_placed v w ls count l t h = record { value = h; place = rw flip-variable at (t.place_below (flip l) (t.false_opposite l h)) }

pub literal_within : (v w ls : List ℕ) (count k : ℕ) → IsTrail v w ls count → k < count → get_or ls k 0 < 2 * length ls
literal_within v w ls count k t h = elim (cases_lt (get_or ls k 0) (length v)) [
  | inl e ↦ omega (arith, t.values_len)
  | inr e ↦ absurd (omega (arith, get_or_past v (get_or ls k 0) 0 e, t.is_true k h))
]

pub agree_chain : (v w v' w' v'' w'' : List ℕ) (p q : ℕ) → Agree v w v' w' p → Agree v' w' v'' w'' q → p ≤ q → Agree v w v'' w'' p
agree_chain v w v' w' v'' w'' p q a b h = record {
  false_to = λ l r i f. b.false_to l r (omega arith) (a.false_to l r i f);
  false_from = λ l r i f. a.false_from l r i (b.false_from l r (omega arith) f);
  true_to = λ l r i f. b.true_to l r (omega arith) (a.true_to l r i f);
}

pub undone_one : (v w ls : List ℕ) (count n l : ℕ) → IsTrail v w ls count → count ≡ n + 1 → l ≡ get_or ls n 0 → IsTrail (with_open v l) w ls n × Agree v w (with_open v l) w n
undone_one v w ls count n l t e h =
    let s : IsTrail v w ls (n + 1) = rw (← e) t in
    let b : get_or ls n 0 < 2 * length ls = literal_within v w ls (n + 1) n s (omega arith) in
    rw h (undone v w ls n s b, undone-agree v w ls n s b)

pub agree_same : (v w : List ℕ) (p : ℕ) → Agree v w v w p
agree_same v w p = record { false_to = λ l r i f. f; false_from = λ l r i f. f; true_to = λ l r i f. f }
