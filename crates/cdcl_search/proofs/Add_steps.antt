-- The watches of a clause that is added.
use Rattle.std.proofs.Common.{ℕ, [], ◌∷◌, ◌++◌, ◌≡◌, ◌+◌, ◌-◌, ◌*◌, ◌/◌, ◌<◌, ◌≤◌, ◌≢◌, ◌⊎◌, List, length, get_or, set, take, inl, inr, arith, refl, ap, sym, ◌∙◌, length-append, Some, None}
use Rattle.std.proofs.Math.ListN.{length-set, get_or-append}
use Rattle.std.proofs.Math.Seq.{get_or-append_seam}
use Rattle.std.proofs.lemmas.List.{length-take-le, get_or-take}
use Rattle.std.proofs.lemmas.Bool.{cases_eq}
use Rattle.cdcl_search.specs.Literals.{flip, Has}
use Rattle.cdcl_search.specs.Trails.{with_true, IsTrail, FalseBelow, Agree}
use Rattle.cdcl_search.specs.States.{IsAssigned, IsState, AreLiterals}
use Rattle.cdcl_search.specs.Learnings.{IsAsserting, IsReach, IsTarget, IsUndone}
use Rattle.cdcl_search.specs.Watchings.{IsShort, Guarded, Guards, IsShortAt, IsPairAt, GuardsAt, IsWatching, IsCovered}
use Rattle.cdcl_search.specs.Changes.{IsFront, AreMore, Keeps, IsAdded, IsAddedShort, IsOther}
use Rattle.cdcl_search.specs.declared.trail.Trail.{Trail}
use Rattle.cdcl_search.specs.declared.watches.Watches.{Watches}
use Rattle.cdcl_search.proofs.Flips.{flip-flip, flip-variable, flip-below}
use Rattle.cdcl_search.proofs.Members.{Has-at, Has-index, Has-left, Has-right}
use Rattle.cdcl_search.proofs.Trail_steps.{assigned-agree, literal_within}
use Rattle.cdcl_search.proofs.Search_steps.{taken_back}
use Rattle.cdcl_search.proofs.Learn_steps.{taught}
use Rattle.cdcl_search.proofs.Row_steps.{pushed_stands}
use Rattle.cdcl_search.proofs.Watch_steps.{guarded-agree, watching_assigned, now_true, agree_of}

pub front_self : (xs : List ℕ) (n : ℕ) → n ≤ length xs → IsFront xs xs n
front_self xs n h = record { len = h; same = λ j k. refl }

pub front_take : (xs : List ℕ) (n : ℕ) → n ≤ length xs → IsFront xs (take n xs) n
front_take xs n h = record { len = omega (arith, length-take-le n xs h); same = λ j k. get_or-take n xs j 0 k }

pub front_push : (xs : List ℕ) (n y : ℕ) → n ≤ length xs → IsFront xs (take n xs ++ y ∷ []) n
front_push xs n y h =
    let l = length-take-le n xs h in
    record { len = omega (arith, l, length-append (take n xs) (y ∷ [])); same = λ j k. get_or-append (take n xs) (y ∷ []) 0 j (omega (arith, l)) ∙ get_or-take n xs j 0 k }

pub more_self : (rows : List (List ℕ)) → AreMore rows rows
more_self rows = record { len = refl; keeps = λ x i s. s }

pub more_push : (rows rows' : List (List ℕ)) (x i : ℕ) → x < length rows → rows' ≡ set rows x (get_or rows x [] ++ i ∷ []) → AreMore rows rows'
more_push rows rows' x i h e = rw e (record { len = length-set rows x (get_or rows x [] ++ i ∷ []); keeps = λ y j s. pushed_stands rows x i y 0 j h s })

pub more_chain : (a b c : List (List ℕ)) → AreMore a b → AreMore b c → AreMore a c
more_chain a b c p q = record { len = q.len ∙ p.len; keeps = λ x i s. q.keeps x i (p.keeps x i s) }

-- the watches may grow beyond the clauses
pub watching_kept : (store : List (List ℕ)) (t : Trail) (w u : Watches) → IsWatching store t w → Keeps w u (length store) → IsWatching store t u
watching_kept store t w u h k = record {
  room = record {
    firsts = k.firsts.len;
    seconds = k.seconds.len;
    lists = k.lists.len ∙ h.room.lists;
    done = rw k.done h.room.done;
    limits = rw k.done h.room.limits;
  };
  covered = λ i b. elim (h.covered i b) [
    | inl q ↦ inl (record { short = q.short; stands = k.short i q.stands; first = k.firsts.same i b ∙ q.first; second = k.seconds.same i b ∙ q.second })
    | inr q ↦ inr (rw (k.firsts.same i b, k.seconds.same i b, k.done)
        (record { first = q.0.first; second = q.0.second; differ = q.0.differ; in_first = k.lists.keeps (get_or w.firsts.items i 0) i q.0.in_first; in_second = k.lists.keeps (get_or w.seconds.items i 0) i q.0.in_second }, q.1))
  ];
}

pub watching_learned : (store : List (List ℕ)) (t : Trail) (w : Watches) (c : List ℕ) → IsWatching store t w → length store < length w.firsts.items → length store < length w.seconds.items
    → IsShortAt (store ++ c ∷ []) w (length store) ⊎ (IsPairAt (store ++ c ∷ []) w (length store) × GuardsAt t w (length store)) → IsWatching (store ++ c ∷ []) t w
watching_learned store t w c h a b n =
    let l : length (store ++ c ∷ []) ≡ length store + 1 = length-append store (c ∷ []) in
    record {
      room = record {
        firsts = omega (arith, l);
        seconds = omega (arith, l);
        lists = h.room.lists;
        done = h.room.done;
        limits = h.room.limits;
      };
      covered = λ i k. elim (cases_eq i (length store)) [
        | inl e ↦ rw e n
        | inr e ↦
            let z : i < length store = omega (arith, k, l) in
            let x : get_or (store ++ c ∷ []) i [] ≡ get_or store i [] = get_or-append store (c ∷ []) [] i z in
            elim (h.covered i z) [
              | inl q ↦ inl (record { short = rw x q.short; stands = q.stands; first = q.first; second = q.second })
              | inr q ↦ inr (rw x q.0, q.1)
            ]
      ];
    }

pub short_empty : IsShort []
short_empty l m h k = absurd h

pub short_one : (x : ℕ) → IsShort (x ∷ [])
short_one x l m (inl e) (inl f) = sym e ∙ f
short_one x l m (inl e) (inr k) = absurd k
short_one x l m (inr h) k = absurd h

pub added_short : (store : List (List ℕ)) (w : Watches) (c : List ℕ) → IsShort c → IsAddedShort w (length store) → IsShortAt (store ++ c ∷ []) w (length store)
added_short store w c s a = record { short = rw (get_or-append_seam store c [] []) s; stands = a.short; first = a.first; second = a.second }

pub refuted_watching : (store store' : List (List ℕ)) (t : Trail) (w u : Watches) → IsWatching store t w → Keeps w u (length store) → IsAddedShort u (length store) → store' ≡ store ++ [] ∷ [] → IsWatching store' t u
refuted_watching store store' t w u h k a e = rw e (watching_learned store t u [] (watching_kept store t w u h k) a.firsts_len a.seconds_len (inl (added_short store u [] short_empty a)))

-- a decision
pub watching_chosen : (store : List (List ℕ)) (old new : Trail) (w : Watches) (l : ℕ) → IsState store old → IsWatching store old w → w.done ≡ old.count → get_or old.values.items l 0 ≡ 0 → l < 2 * length old.literals.items
    → new.values.items ≡ with_true old.values.items l → new.places.items ≡ set old.places.items (l / 2) old.count
    → new.literals.items ≡ set old.literals.items old.count l → new.count ≡ old.count + 1 → new.limits.items ≡ old.limits.items ++ old.count ∷ [] → IsWatching store new w
watching_chosen store old new w l s h d o b av aw al ac am =
    let g : Agree old.values.items old.places.items new.values.items new.places.items old.count = rw (av, aw) (assigned-agree old.values.items old.places.items old.literals.items old.count l s.search.trail b o) in
    let n : length (old.limits.items ++ old.count ∷ []) ≡ length old.limits.items + 1 = length-append old.limits.items (old.count ∷ []) in
    let last : get_or (old.limits.items ++ old.count ∷ []) (length old.limits.items) 0 ≡ old.count = get_or-append_seam old.limits.items old.count [] 0 in
    let first : (j : ℕ) → j < length old.limits.items → get_or (old.limits.items ++ old.count ∷ []) j 0 ≡ get_or old.limits.items j 0 = λ j i. get_or-append old.limits.items (old.count ∷ []) 0 j i in
    record {
      room = record {
        firsts = h.room.firsts;
        seconds = h.room.seconds;
        lists = h.room.lists ∙ ap (λ x. 2 * x) (sym (ap length al ∙ length-set old.literals.items old.count l));
        done = omega (arith, d, ac);
        limits = rw am (λ j i. elim (cases_eq j (length old.limits.items)) [
          | inl e ↦ rw (e, last) (omega (arith, d))
          | inr e ↦ let z : j < length old.limits.items = omega (arith, i, n) in rw (first j z) (h.room.limits j z)
        ]);
      };
      covered = λ i k. elim (h.covered i k) [
        | inl q ↦ inl q
        | inr q ↦
            let here : Guarded old.values.items old.places.items (get_or w.firsts.items i 0) (get_or w.seconds.items i 0) old.count old.count = rw d at q.1.here in
            inr (
              q.0,
              record {
                here = rw d (guarded-agree old.values.items old.places.items new.values.items new.places.items (get_or w.firsts.items i 0) (get_or w.seconds.items i 0) old.count old.count old.count new.count g (omega arith) (omega arith) (omega (arith, ac)) here);
                earlier = rw am (λ j x. elim (cases_eq j (length old.limits.items)) [
                  | inl e ↦ rw (e, last) (guarded-agree old.values.items old.places.items new.values.items new.places.items (get_or w.firsts.items i 0) (get_or w.seconds.items i 0) old.count old.count old.count old.count g (omega arith) (omega arith) (omega arith) here)
                  | inr e ↦ let z : j < length old.limits.items = omega (arith, x, n) in let y = s.search.limit_below j z in
                      rw (first j z) (guarded-agree old.values.items old.places.items new.values.items new.places.items (get_or w.firsts.items i 0) (get_or w.seconds.items i 0) (get_or old.limits.items j 0) (get_or old.limits.items j 0) old.count (get_or old.limits.items j 0) g (omega (arith, y)) (omega (arith, y)) (omega arith) (q.1.earlier j z))
                ]);
              },
            )
      ];
    }

-- one clause more is covered
pub covered_more : (store : List (List ℕ)) (w u : Watches) (n : ℕ) → IsCovered store w n → Keeps w u n → n < length u.firsts.items → n < length u.seconds.items → IsShortAt store u n ⊎ IsPairAt store u n → IsCovered store u (n + 1)
covered_more store w u n h k a b c = record {
  firsts = omega (arith, a);
  seconds = omega (arith, b);
  covered = λ i x. elim (cases_eq i n) [
    | inl e ↦ rw e c
    | inr e ↦
        let z : i < n = omega arith in
        elim (h.covered i z) [
          | inl q ↦ inl (record { short = q.short; stands = k.short i q.stands; first = k.firsts.same i z ∙ q.first; second = k.seconds.same i z ∙ q.second })
          | inr q ↦ inr (rw (k.firsts.same i z, k.seconds.same i z)
              (record { first = q.first; second = q.second; differ = q.differ; in_first = k.lists.keeps (get_or w.firsts.items i 0) i q.in_first; in_second = k.lists.keeps (get_or w.seconds.items i 0) i q.in_second }))
        ]
  ];
}

pub enrolled_short : (store : List (List ℕ)) (w u : Watches) (n : ℕ) → IsCovered store w n → Keeps w u n → IsAddedShort u n → IsOther (get_or store n []) None → IsCovered store u (n + 1)
enrolled_short store w u n h k a o =
    let s : IsShort (get_or store n []) = λ l m x y. let p = Has-index (get_or store n []) l x in let q = Has-index (get_or store n []) m y in sym p.2 ∙ o p.0 p.1 ∙ sym (o q.0 q.1) ∙ q.2 in
    covered_more store w u n h k a.firsts_len a.seconds_len (inl (record { short = s; stands = a.short; first = a.first; second = a.second }))

pub enrolled_pair : (store : List (List ℕ)) (w u : Watches) (n x : ℕ) → IsCovered store w n → Keeps w u n → IsAdded u n (get_or (get_or store n []) 0 0) x → IsOther (get_or store n []) (Some x) → IsCovered store u (n + 1)
enrolled_pair store w u n x h k a o =
    covered_more store w u n h k a.firsts_len a.seconds_len (inr (rw (a.first, a.second) (record { first = Has-at (get_or store n []) 0 o.2; second = o.0; differ = λ e. o.1 (sym e); in_first = a.in_first; in_second = a.in_second })))

short_taught : (lower : List ℕ) (z : ℕ) → ((j : ℕ) → j < length lower → ⊥) → IsShort (lower ++ z ∷ [])
short_taught [] z h = short_one z
short_taught (q ∷ lower) z h = absurd (h 0 (omega arith))

-- the state after the jump back
pub back_state : (store : List (List ℕ)) (t u v : Trail) (d : ℕ) → IsState store t → d < length t.limits.items → IsUndone t u (get_or t.limits.items d 0)
    → v.values ≡ u.values → v.places ≡ u.places → v.reasons ≡ u.reasons → v.literals ≡ u.literals → v.count ≡ u.count → v.limits.items ≡ take d t.limits.items → IsState store v
back_state store t u v d s b n ev ew er el ec em =
    let vv : v.values.items ≡ u.values.items = ap (λ z. z.items) ev in
    let vw : v.places.items ≡ t.places.items = ap (λ z. z.items) (ew ∙ n.places) in
    let vr : v.reasons.items ≡ t.reasons.items = ap (λ z. z.items) (er ∙ n.reasons) in
    let vl : v.literals.items ≡ t.literals.items = ap (λ z. z.items) (el ∙ n.literals) in
    let up : u.places.items ≡ t.places.items = ap (λ z. z.items) n.places in
    let ul : u.literals.items ≡ t.literals.items = ap (λ z. z.items) n.literals in
    let g : Agree t.values.items t.places.items u.values.items t.places.items (get_or t.limits.items d 0) = rw up at n.agree in
    let k : IsTrail u.values.items t.places.items t.literals.items (get_or t.limits.items d 0) = rw (up, ul) at n.trail in
    let back = taken_back 4294967295 store t.values.items t.places.items t.reasons.items t.literals.items t.count t.limits.items u.values.items (get_or t.limits.items d 0) d s.search b refl k g in
    record {
      search = rw (vv, vw, vr, vl, ec ∙ n.count, em) back;
      within = rw vl s.within;
      few = rw vl s.few;
      store_few = s.store_few;
    }

pub back_watching : (store : List (List ℕ)) (t u v : Trail) (x y : Watches) (d : ℕ) → IsState store t → IsWatching store t x → d < length t.limits.items → IsUndone t u (get_or t.limits.items d 0)
    → v.values ≡ u.values → v.places ≡ u.places → v.literals ≡ u.literals → v.count ≡ u.count → v.limits.items ≡ take d t.limits.items
    → y.firsts ≡ x.firsts → y.seconds ≡ x.seconds → y.lists ≡ x.lists → y.short ≡ x.short → y.done ≡ get_or t.limits.items d 0 → IsWatching store v y
back_watching store t u v x y d s h b n ev ew el ec em yf ys yl yh yd =
    let vv : v.values.items ≡ u.values.items = ap (λ z. z.items) ev in
    let vw : v.places.items ≡ u.places.items = ap (λ z. z.items) ew in
    let vl : v.literals.items ≡ t.literals.items = ap (λ z. z.items) (el ∙ n.literals) in
    let c : v.count ≡ get_or t.limits.items d 0 = ec ∙ n.count in
    let len : length (take d t.limits.items) ≡ d = length-take-le d t.limits.items (omega arith) in
    let m : ℕ = get_or t.limits.items d 0 in
    record {
      room = record {
        firsts = rw yf h.room.firsts;
        seconds = rw ys h.room.seconds;
        lists = rw (yl, vl) h.room.lists;
        done = omega (arith, yd, c);
        limits = rw em (λ j k. let z : j < d = omega (arith, len) in rw (get_or-take d t.limits.items j 0 z) (omega (arith, yd, s.search.limits_rise j d z b)));
      };
      covered = λ i k. elim (h.covered i k) [
        | inl q ↦ inl (record { short = q.short; stands = rw yh q.stands; first = rw yf q.first; second = rw ys q.second })
        | inr q ↦
            inr (
              rw (yf, ys, yl) q.0,
              rw (yf, ys, yd, c, vv, vw, em) (record {
                here = guarded-agree t.values.items t.places.items u.values.items u.places.items (get_or x.firsts.items i 0) (get_or x.seconds.items i 0) (get_or t.limits.items d 0) (get_or t.limits.items d 0) (get_or t.limits.items d 0) (get_or t.limits.items d 0) n.agree (omega arith) (omega arith) (omega arith) (q.1.earlier d b);
                earlier = λ j a. let z : j < d = omega (arith, len) in let r = s.search.limits_rise j d z b in
                    rw (get_or-take d t.limits.items j 0 z) (guarded-agree t.values.items t.places.items u.values.items u.places.items (get_or x.firsts.items i 0) (get_or x.seconds.items i 0) (get_or t.limits.items j 0) (get_or t.limits.items j 0) (get_or t.limits.items d 0) (get_or t.limits.items j 0) n.agree (omega (arith, r)) (omega (arith, r)) (omega arith) (q.1.earlier j (omega (arith, z, b))));
              }),
            )
      ];
    }

-- the literal that stands at a place, from its opposite
opposite_at : (v w ls : List ℕ) (count q r : ℕ) → IsTrail v w ls count → get_or v q 0 ≡ 2 → get_or w (q / 2) 0 + 1 ≡ r → flip (get_or ls (r - 1) 0) ≡ q
opposite_at v w ls count q r t z e =
    let p : get_or w (flip q / 2) 0 ≡ r - 1 = rw flip-variable (omega (arith, e)) in
    let a : get_or ls (get_or w (flip q / 2) 0) 0 ≡ flip q = t.stands (flip q) (t.false_opposite q z) in
    ap (λ i. flip (get_or ls i 0)) (sym p) ∙ ap flip a ∙ flip-flip q

-- the guards of the clause that is learned
taught_guards : (store : List (List ℕ)) (t u v new : Trail) (base k r d l reason q m : ℕ) (lower : List ℕ) → IsState store v → IsUndone t u (get_or t.limits.items d 0) → IsTarget t.limits.items r d
    → ((j : ℕ) → j < d → get_or t.limits.items j 0 < get_or t.limits.items d 0) → ((j : ℕ) → j + 1 < d → get_or t.limits.items j 0 < get_or t.limits.items (d - 1) 0)
    → v.values ≡ u.values → v.places ≡ u.places → v.count ≡ get_or t.limits.items d 0 → v.limits.items ≡ take d t.limits.items → d ≤ length t.limits.items
    → get_or v.values.items l 0 ≡ 0 → l < 2 * length v.literals.items → IsAssigned v new l reason → get_or t.places.items (q / 2) 0 + 1 ≡ r
    → Guards new.values.items new.places.items new.limits.items l q m new.count
taught_guards store t u v new base k r d l reason q m lower s n b rise rise' ev ew c em dl o lb a e =
    let vv : v.values.items ≡ u.values.items = ap (λ z. z.items) ev in
    let vw : v.places.items ≡ u.places.items = ap (λ z. z.items) ew in
    let one = now_true store v new l reason s a lb in
    let g = agree_of store v new l reason s a o lb in
    let len : length (take d t.limits.items) ≡ d = length-take-le d t.limits.items dl in
    record {
      here = record {
        first = λ f. absurd (omega (arith, f.value, one.value));
        second = λ f. one;
      };
      earlier = rw (a.limits, em) (λ j i.
          let z : j < d = omega (arith, len) in
          let y = rise j z in
          rw (get_or-take d t.limits.items j 0 z) (record {
            first = λ f. absurd (omega (arith, f.value, one.value));
            second = λ f.
                let f1 : FalseBelow u.values.items u.places.items q (get_or t.limits.items j 0) = rw (vv, vw) at (g.false_from q (get_or t.limits.items j 0) (omega (arith, y, c)) f) in
                let f2 = n.agree.false_from q (get_or t.limits.items j 0) (omega (arith, y)) f1 in
                let last : get_or t.limits.items (d - 1) 0 < r = b.first (omega arith) in
                let p : get_or t.limits.items j 0 ≤ get_or t.limits.items (d - 1) 0 = elim (cases_eq j (d - 1)) [ inl x ↦ rw x (omega arith) | inr x ↦ omega (arith, rise' j (omega arith)) ] in
                absurd (omega (arith, f2.place, last, p, e));
          }));
    }

pub watching_jumped : (store store' : List (List ℕ)) (t u v new : Trail) (w x y : Watches) (base k r d l reason : ℕ) (lower : List ℕ) → IsState store t → IsWatching store t w → Keeps w x (length store)
    → 0 < length t.limits.items → base ≡ get_or t.limits.items (length t.limits.items - 1) 0 → IsAsserting t base k lower → IsReach t.places.items lower (length lower) r → IsTarget t.limits.items r d → IsUndone t u (get_or t.limits.items d 0)
    → v.values ≡ u.values → v.places ≡ u.places → v.reasons ≡ u.reasons → v.literals ≡ u.literals → v.count ≡ u.count → v.limits.items ≡ take d t.limits.items
    → y.firsts ≡ x.firsts → y.seconds ≡ x.seconds → y.lists ≡ x.lists → y.short ≡ x.short → y.done ≡ get_or t.limits.items d 0
    → l ≡ flip (get_or t.literals.items k 0) → get_or u.values.items l 0 ≡ 0 → IsAssigned v new l reason
    → (r ≡ 0 → IsAddedShort x (length store)) → (0 < r → IsAdded x (length store) l (flip (get_or t.literals.items (r - 1) 0)))
    → store' ≡ store ++ taught t k lower ∷ [] → IsWatching store' new y
watching_jumped store store' t u v new w x y base k r d l reason lower s h kp some eb a re ta n ev ew er el ec em yf ys yl yh yd e o asg sh pr es =
    let vl : v.literals.items ≡ t.literals.items = ap (λ z. z.items) (el ∙ n.literals) in
    let sv = back_state store t u v d s ta.within n ev ew er el ec em in
    let hx = watching_kept store t w x h kp in
    let hv = back_watching store t u v x y d s hx ta.within n ev ew el ec em yf ys yl yh yd in
    let lb : l < 2 * length v.literals.items = rw (vl, e) (flip-below (get_or t.literals.items k 0) (length t.literals.items) (literal_within t.values.items t.places.items t.literals.items t.count k s.search.trail a.within)) in
    let ov : get_or v.values.items l 0 ≡ 0 = ap (λ z. get_or z.items l 0) ev ∙ o in
    let hn = watching_assigned store v new y l reason sv asg ov lb hv in
    rw es (elim (cases_eq r 0) [
      | inl z ↦
          let q = sh z in
          watching_learned store new y (taught t k lower) hn (rw yf q.firsts_len) (rw ys q.seconds_len)
          (inl (record {
            short = rw (get_or-append_seam store (taught t k lower) [] []) (short_taught lower (flip (get_or t.literals.items k 0)) (λ j i. omega (arith, z, re.before j i)));
            stands = rw yh q.short;
            first = rw yf q.first;
            second = rw ys q.second;
          }))
      | inr z ↦
          let q = pr (omega arith) in
          elim re.reached [
            | inl i ↦ absurd (z i)
            | inr i ↦
                let f = a.below i.0 i.1 in
                let same : flip (get_or t.literals.items (r - 1) 0) ≡ i.0 = opposite_at t.values.items t.places.items t.literals.items t.count i.0 r s.search.trail f.value i.2 in
                let pl : get_or t.places.items (l / 2) 0 ≡ k = rw (e, flip-variable) (s.search.trail.placed k a.within) in
                let differ : l ≢ i.0 = λ c. omega (arith, pl, ap (λ b. get_or t.places.items (b / 2) 0) c, f.place, a.after) in
                watching_learned store new y (taught t k lower) hn (rw yf q.firsts_len) (rw ys q.seconds_len)
                (inr (rw (yf, ys, yl, q.first, q.second, same, get_or-append_seam store (taught t k lower) [] []) (
                  record {
                    first = Has-right lower (flip (get_or t.literals.items k 0) ∷ []) l (inl (sym e));
                    second = Has-left lower (flip (get_or t.literals.items k 0) ∷ []) i.0 i.1;
                    differ = differ;
                    in_first = q.in_first;
                    in_second = rw same at q.in_second;
                  },
                  taught_guards store t u v new base k r d l reason i.0 y.done lower sv n ta (λ j c. s.search.limits_rise j d c ta.within) (λ j c. s.search.limits_rise j (d - 1) (omega arith) (omega (arith, ta.within)))
                      ev ew (ec ∙ n.count) em (omega (arith, ta.within)) ov lb asg i.2,
                )))
          ]
    ])

pub reach_within : (t : Trail) (base k r : ℕ) (lower : List ℕ) → IsAsserting t base k lower → IsReach t.places.items lower (length lower) r → r ≤ t.count
reach_within t base k r lower a re = elim re.reached [
  | inl e ↦ omega (arith, e)
  | inr q ↦ omega (arith, q.2, (a.below q.0 q.1).place, a.after, a.within)
]

pub literal_below : (store : List (List ℕ)) (n i l : ℕ) → AreLiterals store n → i < length store → Has (get_or store i []) l → l < n
literal_below store n i l h k x = let r = Has-index (get_or store i []) l x in rw (← r.2) (h i k r.0 r.1)
