-- What marking and resolving do to the marks.
use Rattle.std.proofs.Common.{ℕ, zero, suc, [], ◌∷◌, ◌++◌, ◌≡◌, ◌+◌, ◌/◌, ◌<◌, ◌≤◌, ◌≢◌, ◌↔◌, List, length, get_or, set, inl, inr, arith, refl, ap, sym, ◌∙◌, subst, IsTrue, Bool, true, false, not, nat_eq}
use Rattle.std.proofs.Math.ListN.{length-set}
use Rattle.std.proofs.lemmas.Bool.{cases_eq, cases_lt, false≢true, true≢false, true_from_ne_false, eqb-true}
use Rattle.std.proofs.lemmas.List.{get_or-set_same, get_or-set_other, get_or_past}
use Rattle.cdcl_search.specs.Literals.{flip, Has}
use Rattle.cdcl_search.specs.Trails.{IsTrail, FalseBelow}
use Rattle.cdcl_search.specs.Searches.{Forces}
use Rattle.cdcl_search.specs.Marks.{ones, Covers, IsMarked, Grown, GrownTo, IsOneMore, AreKept, AreKeptTo}
use Rattle.cdcl_search.specs.Derivations.{resolvent, Clash}
use Rattle.cdcl_search.proofs.Flips.{flip-flip, flip-variable, flip-other}
use Rattle.cdcl_search.proofs.Members.{Has-at, Has-index, Has-left, Has-right, Has-append, Has-resolvent, resolvent-left, resolvent-right}

pub ones-none : (b : ℕ) (m : List ℕ) (p : ℕ) → ones b m ≡ 0 → b ≤ p → get_or m p 0 ≡ 0
ones-none b [] p h k = refl
ones-none (suc b) (x ∷ m) zero h k = absurd (omega arith)
ones-none (suc b) (x ∷ m) (suc p) h k = ones-none b m p h (omega arith)
ones-none zero (zero ∷ m) zero h k = refl
ones-none zero (zero ∷ m) (suc p) h k = ones-none zero m p h (omega arith)
ones-none zero (suc x ∷ m) p h k = absurd (omega arith)

pub none-ones : (b : ℕ) (m : List ℕ) → ((p : ℕ) → b ≤ p → get_or m p 0 ≡ 0) → ones b m ≡ 0
none-ones b [] h = refl
none-ones (suc b) (x ∷ m) h = none-ones b m (λ p k. h (suc p) (omega arith))
none-ones zero (zero ∷ m) h = none-ones zero m (λ p k. h (suc p) (omega arith))
none-ones zero (suc x ∷ m) h = absurd (let e : suc x ≡ 0 = h 0 (omega arith) in omega arith)

pub ones-set : (b : ℕ) (m : List ℕ) (p y : ℕ) → b ≤ p → p < length m → get_or m p 0 ≡ 0 → ones b (set m p (suc y)) ≡ ones b m + 1
ones-set b [] p y h k e = absurd (omega arith)
ones-set (suc b) (x ∷ m) zero y h k e = absurd (omega arith)
ones-set (suc b) (x ∷ m) (suc p) y h k e = ones-set b m p y (omega arith) (omega arith) e
ones-set zero (zero ∷ m) zero y h k e = omega arith
ones-set zero (suc x ∷ m) zero y h k e = absurd (omega arith)
ones-set zero (zero ∷ m) (suc p) y h k e = ones-set zero m p y (omega arith) (omega arith) e
ones-set zero (suc x ∷ m) (suc p) y h k e = omega (arith, ones-set zero m p y (omega arith) (omega arith) e)

pub ones-clear : (b : ℕ) (m : List ℕ) (p : ℕ) → b ≤ p → get_or m p 0 ≢ 0 → ones b (set m p 0) + 1 ≡ ones b m
ones-clear b [] p h e = absurd (e refl)
ones-clear (suc b) (x ∷ m) zero h e = absurd (omega arith)
ones-clear (suc b) (x ∷ m) (suc p) h e = ones-clear b m p (omega arith) e
ones-clear zero (zero ∷ m) zero h e = absurd (e refl)
ones-clear zero (suc x ∷ m) zero h e = omega arith
ones-clear zero (zero ∷ m) (suc p) h e = ones-clear zero m p (omega arith) e
ones-clear zero (suc x ∷ m) (suc p) h e = omega (arith, ones-clear zero m p (omega arith) e)

pub ones-before : (b : ℕ) (m : List ℕ) (p y : ℕ) → p < b → ones b (set m p y) ≡ ones b m
ones-before b [] p y h = refl
ones-before zero (x ∷ m) p y h = absurd (omega arith)
ones-before (suc b) (x ∷ m) zero y h = refl
ones-before (suc b) (x ∷ m) (suc p) y h = ones-before b m p y (omega arith)

pub taken : (m : List ℕ) (k : ℕ) → get_or (set m k 0) k 0 ≡ 0
taken [] k = refl
taken (x ∷ m) zero = refl
taken (x ∷ m) (suc k) = taken m k

pub still : (m : List ℕ) (k p : ℕ) → get_or m p 0 ≡ 0 → get_or (set m k 0) p 0 ≡ 0
still m k p h = elim (cases_eq p k) [
  | inl e ↦ rw e (taken m k)
  | inr d ↦ get_or-set_other m k p 0 0 d ∙ h
]

-- two false literals do not share a place
pub same_place : (v w ls : List ℕ) (count a b : ℕ) → IsTrail v w ls count → get_or v a 0 ≡ 2 → get_or v b 0 ≡ 2 → get_or w (a / 2) 0 ≡ get_or w (b / 2) 0 → a ≡ b
same_place v w ls count a b t h k e =
    let x : get_or ls (get_or w (a / 2) 0) 0 ≡ flip a = rw flip-variable at (t.stands (flip a) (t.false_opposite a h)) in
    let y : get_or ls (get_or w (b / 2) 0) 0 ≡ flip b = rw flip-variable at (t.stands (flip b) (t.false_opposite b k)) in
    let z : flip a ≡ flip b = sym x ∙ ap (λ q. get_or ls q 0) e ∙ y in
    sym (flip-flip a) ∙ ap flip z ∙ flip-flip b

-- a false literal whose place is k
pub false_at : (v w ls : List ℕ) (count l k : ℕ) → IsTrail v w ls count → get_or v l 0 ≡ 2 → get_or w (l / 2) 0 ≡ k → get_or ls k 0 ≡ flip l
false_at v w ls count l k t h e = rw (← e) (rw flip-variable at (t.stands (flip l) (t.false_opposite l h)))

-- a mark in the last level
pub mark_last : (v w ls : List ℕ) (count base n : ℕ) (m lower : List ℕ) (counter l : ℕ) → IsMarked v w base n m lower counter → get_or w (l / 2) 0 < n → base ≤ get_or w (l / 2) 0
    → get_or m (get_or w (l / 2) 0) 0 ≡ 0 → IsMarked v w base n (set m (get_or w (l / 2) 0) 1) lower (counter + 1)
mark_last v w ls count base n m lower counter l k b h z =
    let p : ℕ = get_or w (l / 2) 0 in
    record {
      len = simp length-set k.len;
      below = k.below;
      marked_lower = λ q f x. let d : get_or w (q / 2) 0 ≢ get_or w (l / 2) 0 = λ e. omega (arith, e, f.place) in k.marked_lower q f (rw get_or-set_other at x);
      counts = omega (arith, k.counts, ones-set base m (get_or w (l / 2) 0) 0 h (omega (arith, k.len)) z);
    }

-- a mark in a level before
pub mark_lower : (v w ls : List ℕ) (count base n : ℕ) (m lower : List ℕ) (counter l : ℕ) → IsTrail v w ls count → IsMarked v w base n m lower counter → get_or v l 0 ≡ 2 → get_or w (l / 2) 0 < n → get_or w (l / 2) 0 < base
    → get_or m (get_or w (l / 2) 0) 0 ≡ 0 → IsMarked v w base n (set m (get_or w (l / 2) 0) 1) (lower ++ l ∷ []) counter
mark_lower v w ls count base n m lower counter l t k f b h z =
    let p : get_or w (l / 2) 0 < length m = omega (arith, k.len) in
    let s : get_or (set m (get_or w (l / 2) 0) 1) (get_or w (l / 2) 0) 0 ≡ 1 = get_or-set_same m (get_or w (l / 2) 0) 1 0 p in
    record {
      len = simp length-set k.len;
      below = λ q x. elim (Has-append lower (l ∷ []) q x) [ inl y ↦ k.below q y | inr y ↦ elim y [ inl e ↦ rw (← e) (record { value = f; place = h }) | inr e ↦ absurd e ] ];
      marked_lower = λ q g x. elim (cases_eq (get_or w (q / 2) 0) (get_or w (l / 2) 0)) [
        | inl e ↦ Has-right lower (l ∷ []) q (inl (same_place v w ls count l q t f g.value (sym e)))
        | inr d ↦ Has-left lower (l ∷ []) q (k.marked_lower q g (rw (get_or-set_other m (get_or w (l / 2) 0) (get_or w (q / 2) 0) 1 0 d) at x))
      ];
      counts = k.counts ∙ sym (ones-before base m (get_or w (l / 2) 0) 1 h);
    }

-- a mark in the last level is taken away
pub unmarked : (v w : List ℕ) (base n : ℕ) (m lower : List ℕ) (counter p : ℕ) → IsMarked v w base n m lower (counter + 1) → base ≤ p → get_or m p 0 ≢ 0 → IsMarked v w base n (set m p 0) lower counter
unmarked v w base n m lower counter p k h z = record {
  len = simp length-set k.len;
  below = k.below;
  marked_lower = λ q f x. let d : get_or w (q / 2) 0 ≢ p = λ e. omega (arith, e, f.place) in k.marked_lower q f (rw get_or-set_other at x);
  counts = omega (arith, k.counts, ones-clear base m p h z);
}

-- a mark in a level before is taken away
pub thinned : (v w : List ℕ) (base n : ℕ) (m lower : List ℕ) (counter p : ℕ) → IsMarked v w base n m lower counter → p < base → IsMarked v w base n (set m p 0) lower counter
thinned v w base n m lower counter p k h = record {
  len = simp length-set k.len;
  below = k.below;
  marked_lower = λ q f x. k.marked_lower q f (λ e. x (still m p (get_or w (q / 2) 0) e));
  counts = k.counts ∙ sym (ones-before base m p 0 h);
}

-- each literal that a clause does not force true is false
pub others_false : (v w d : List ℕ) (p k l : ℕ) → Forces v w d p k → Has d l → l ≢ p → FalseBelow v w l k
others_false v w d p k l f h n =
    let r = Has-index d l h in
    elim (f.rest r.0 r.1) [ inl e ↦ absurd (n (sym r.2 ∙ e)) | inr b ↦ subst (λ x. FalseBelow v w x k) r.2 b ]

pub clash : (v w ls : List ℕ) (count : ℕ) (m cur d : List ℕ) (k p : ℕ) → IsTrail v w ls count → p ≡ get_or ls k 0 → k < count → get_or m k 0 ≢ 0 → Forces v w d p k → Covers v w m cur
    → Clash (p / 2) cur d p
clash v w ls count m cur d k p t e h z f c =
    let on : get_or v p 0 ≡ 1 = rw e (t.is_true k h) in
    let place : get_or w (p / 2) 0 ≡ k = rw e (t.placed k h) in
    record {
      variable = refl;
      here = c.covered (flip p) (record { value = t.true_opposite p on; mark = rw (flip-variable p, place) z });
      not_here = λ x. omega (arith, on, (c.marked p x).value);
      there = f.has;
      not_there = λ x. let b : FalseBelow v w (flip p) k = others_false v w d p k (flip p) f x (flip-other p) in omega (arith, place, rw flip-variable at b.place);
    }

-- a false literal at the place of another variable
other_place : (v w ls : List ℕ) (count k p l : ℕ) → IsTrail v w ls count → p ≡ get_or ls k 0 → get_or v l 0 ≡ 2 → l / 2 ≢ p / 2 → get_or w (l / 2) 0 ≢ k
other_place v w ls count k p l t e h n q = n (sym (flip-variable l) ∙ ap (λ x. x / 2) (sym (false_at v w ls count l k t h q) ∙ sym e))

pub resolved_covers : (v w ls : List ℕ) (count : ℕ) (m m1 cur d : List ℕ) (k p : ℕ) → IsTrail v w ls count → p ≡ get_or ls k 0 → k < count → Forces v w d p k → Covers v w m cur
    → Grown w m m1 d p → k < length m1 → Covers v w (set m1 k 0) (resolvent (p / 2) cur d)
resolved_covers v w ls count m m1 cur d k p t e h f c g b =
    let place : get_or w (p / 2) 0 ≡ k = rw e (t.placed k h) in
    record {
      marked = λ l x.
          let r = Has-resolvent (p / 2) cur d l x in
          elim r.0 [
            | inl y ↦ let i = c.marked l y in record { value = i.value; mark = rw (get_or-set_other m1 k (get_or w (l / 2) 0) 0 0 (other_place v w ls count k p l t e i.value r.1)) (g.keeps (get_or w (l / 2) 0) i.mark) }
            | inr y ↦
                let n : l ≢ p = λ q. r.1 (ap (λ x. x / 2) q) in
                let i = others_false v w d p k l f y n in
                record { value = i.value; mark = rw (get_or-set_other m1 k (get_or w (l / 2) 0) 0 0 (other_place v w ls count k p l t e i.value r.1)) (g.adds l y n) }
          ];
      covered = λ l x.
          let q : get_or w (l / 2) 0 ≢ k = λ i. x.mark (rw (i, get_or-set_same) refl) in
          let n : l / 2 ≢ p / 2 = λ i. q (ap (λ j. get_or w j 0) i ∙ place) in
          let o : get_or m1 (get_or w (l / 2) 0) 0 ≢ 0 = rw (get_or-set_other m1 k (get_or w (l / 2) 0) 0 0 q) at x.mark in
          elim (g.only (get_or w (l / 2) 0) o) [
            | inl y ↦ resolvent-left (p / 2) cur d l (c.covered l (record { value = x.value; mark = y })) n
            | inr y ↦
                let i = others_false v w d p k y.0 f y.1 y.2 in
                resolvent-right (p / 2) cur d l (subst (Has d) (same_place v w ls count y.0 l t i.value x.value y.3) y.1) n
          ];
    }

pub ones-at-most : (b : ℕ) (m : List ℕ) → ones b m ≤ length m
ones-at-most b [] = omega arith
ones-at-most (suc b) (x ∷ m) = omega (arith, ones-at-most b m)
ones-at-most zero (zero ∷ m) = omega (arith, ones-at-most zero m)
ones-at-most zero (suc x ∷ m) = omega (arith, ones-at-most zero m)

pub one_more : (m : List ℕ) (p : ℕ) → p < length m → IsOneMore m (set m p 1) p
one_more m p h = let s : get_or (set m p 1) p 0 ≡ 1 = get_or-set_same m p 1 0 h in record {
  keeps = λ q x. elim (cases_eq q p) [ inl e ↦ rw e (λ y. omega (arith, y, s)) | inr d ↦ rw (get_or-set_other m p q 1 0 d) x ];
  here = λ y. omega (arith, y, s);
  only = λ q x. elim (cases_eq q p) [ inl e ↦ inr e | inr d ↦ inl (rw (get_or-set_other m p q 1 0 d) at x) ];
}

pub no_more : (m : List ℕ) (p : ℕ) → get_or m p 0 ≢ 0 → IsOneMore m m p
no_more m p h = record { keeps = λ q x. x; here = h; only = λ q x. inl x }

pub place_within : (v w ls : List ℕ) (count l : ℕ) → IsTrail v w ls count → get_or v l 0 ≡ 2 → (get_or w (l / 2) 0 < count) × (count ≤ length ls) × (l / 2 < length ls)
place_within v w ls count l t h =
    let a : get_or w (l / 2) 0 < count = rw flip-variable at (t.place_below (flip l) (t.false_opposite l h)) in
    let b : l < length v = elim (cases_lt l (length v)) [ inl e ↦ e | inr e ↦ absurd (omega (arith, get_or_past v l 0 e, h)) ] in
    (a, omega (arith, t.open_count), omega (arith, t.values_len))

pub grown_none : (w m c : List ℕ) (skip : ℕ) → GrownTo w m m c skip 0
grown_none w m c skip = record { keeps = λ p x. x; adds = λ j h. absurd (omega arith); only = λ p x. inl x }

pub grown_skip : (w m m' c : List ℕ) (skip i : ℕ) → GrownTo w m m' c skip i → get_or c i 0 ≡ skip → GrownTo w m m' c skip (i + 1)
grown_skip w m m' c skip i g e = record {
  keeps = g.keeps;
  adds = λ j h n. elim (cases_eq j i) [ inl q ↦ absurd (n (ap (λ x. get_or c x 0) q ∙ e)) | inr q ↦ g.adds j (omega arith) n ];
  only = g.only;
}

pub grown_more : (w m m' m'' c : List ℕ) (skip i : ℕ) → GrownTo w m m' c skip i → i < length c → get_or c i 0 ≢ skip → IsOneMore m' m'' (get_or w (get_or c i 0 / 2) 0) → GrownTo w m m'' c skip (i + 1)
grown_more w m m' m'' c skip i g h n o = record {
  keeps = λ p x. o.keeps p (g.keeps p x);
  adds = λ j k q. elim (cases_eq j i) [ inl e ↦ rw e o.here | inr e ↦ o.keeps (get_or w (get_or c j 0 / 2) 0) (g.adds j (omega arith) q) ];
  only = λ p x. elim (o.only p x) [ inl y ↦ g.only p y | inr e ↦ inr (get_or c i 0, Has-at c i h, n, sym e) ];
}

pub grown_all : (w m m' c : List ℕ) (skip : ℕ) → GrownTo w m m' c skip (length c) → Grown w m m' c skip
grown_all w m m' c skip g = record {
  keeps = g.keeps;
  adds = λ l h n. let r = Has-index c l h in rw (← r.2) (g.adds r.0 r.1 (λ q. n (sym r.2 ∙ q)));
  only = g.only;
}

not_false : (b : Bool) → not b ≡ false → b ≡ true
not_false true e = refl
not_false false e = absurd (true≢false e)

-- the test whether a mark is there
pub mark_test : (x : ℕ) → IsTrue (not (nat_eq x 0)) ↔ (x ≢ 0)
mark_test x = (
  (λ e z. absurd (false≢true (rw z at e))),
  (λ n. true_from_ne_false (not (nat_eq x 0)) (λ e. n (eqb-true x 0 (not_false (nat_eq x 0) e)))),
)

pub kept_none : (w m lower : List ℕ) → AreKeptTo w m lower [] 0
kept_none w m lower = record { from_lower = λ l h. absurd h; marked = λ l h. absurd h; all = λ j h. absurd (omega arith) }

pub kept_more : (w m lower kept : List ℕ) (i : ℕ) → AreKeptTo w m lower kept i → i < length lower → get_or m (get_or w (get_or lower i 0 / 2) 0) 0 ≢ 0 → AreKeptTo w m lower (kept ++ get_or lower i 0 ∷ []) (i + 1)
kept_more w m lower kept i k h z = record {
  from_lower = λ l x. elim (Has-append kept (get_or lower i 0 ∷ []) l x) [
    | inl y ↦ k.from_lower l y
    | inr y ↦ elim y [ inl e ↦ subst (Has lower) e (Has-at lower i h) | inr e ↦ absurd e ]
  ];
  marked = λ l x. elim (Has-append kept (get_or lower i 0 ∷ []) l x) [
    | inl y ↦ k.marked l y
    | inr y ↦ elim y [ inl e ↦ subst (λ q. get_or m (get_or w (q / 2) 0) 0 ≢ 0) e z | inr e ↦ absurd e ]
  ];
  all = λ j b x. elim (cases_eq j i) [
    | inl e ↦ rw e (Has-right kept (get_or lower i 0 ∷ []) (get_or lower i 0) (inl refl))
    | inr d ↦ Has-left kept (get_or lower i 0 ∷ []) (get_or lower j 0) (k.all j (omega arith) x)
  ];
}

pub kept_same : (w m lower kept : List ℕ) (i : ℕ) → AreKeptTo w m lower kept i → get_or m (get_or w (get_or lower i 0 / 2) 0) 0 ≡ 0 → AreKeptTo w m lower kept (i + 1)
kept_same w m lower kept i k z = record {
  from_lower = k.from_lower;
  marked = k.marked;
  all = λ j b x. elim (cases_eq j i) [
    | inl e ↦ absurd (x (rw e z))
    | inr d ↦ k.all j (omega arith) x
  ];
}

pub kept_all : (w m lower kept : List ℕ) → AreKeptTo w m lower kept (length lower) → AreKept w m lower kept
kept_all w m lower kept k = record {
  from_lower = k.from_lower;
  marked = k.marked;
  all = λ l h z. let r = Has-index lower l h in subst (Has kept) r.2 (k.all r.0 r.1 (subst (λ q. get_or m (get_or w (q / 2) 0) 0 ≢ 0) (sym r.2) z));
}
