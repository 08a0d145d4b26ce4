-- What the steps of a propagation keep of the watches.
use Rattle.std.proofs.Common.{ℕ, [], ◌∷◌, ◌++◌, ◌≡◌, ◌+◌, ◌*◌, ◌/◌, ◌<◌, ◌≤◌, ◌≢◌, ◌⊎◌, List, length, get_or, inl, inr, arith, refl, ap, sym, ◌∙◌, None}
use Rattle.std.proofs.Math.ListN.{length-set}
use Rattle.std.proofs.lemmas.List.{get_or-set_same, get_or-set_other, get_or_past}
use Rattle.std.proofs.lemmas.Bool.{cases_eq, cases_lt}
use Rattle.cdcl_search.specs.Literals.{flip, Has}
use Rattle.cdcl_search.specs.Trails.{IsTrail, FalseBelow, TrueBelow, Agree}
use Rattle.cdcl_search.specs.Searches.{Quiet, Forces}
use Rattle.cdcl_search.specs.States.{IsAssigned, IsState, IsFalse}
use Rattle.cdcl_search.specs.Rows.{Stands, IsLess}
use Rattle.cdcl_search.specs.Watchings.{IsShort, Guarded, IsPair, Guards, Todo, IsRoom, IsPairAt, GuardsAt, TodoAt, IsWatching, IsVisiting, AreSettled, KeepsTrue}
use Rattle.cdcl_search.specs.Changes.{IsRewatched, IsSpare}
use Rattle.cdcl_search.specs.declared.trail.Trail.{Trail}
use Rattle.cdcl_search.specs.declared.watches.Watches.{Watches}
use Rattle.cdcl_search.proofs.Flips.{flip-flip, flip-variable, same_variable}
use Rattle.cdcl_search.proofs.Members.{Has-at, Has-index}
use Rattle.cdcl_search.proofs.Trail_steps.{assigned-agree, with_true-self, false_placed}
use Rattle.cdcl_search.proofs.State_steps.{has_below}
use Rattle.cdcl_search.proofs.Statuses.{quiet_true}
use Rattle.cdcl_search.proofs.Row_steps.{pushed_stands, pushed_last}

-- two literals that guard one another at a place: nothing follows from their clause there
pub quiet_guarded : (v w c : List ℕ) (a b p : ℕ) → Has c a → Has c b → a ≢ b → Guarded v w a b p p → Quiet v w c p
quiet_guarded v w c a b p h k d g u f =
    let x : (a ≡ u) ⊎ FalseBelow v w a p = let r = Has-index c a h in rw r.2 at (f r.0 r.1) in
    let y : (b ≡ u) ⊎ FalseBelow v w b p = let r = Has-index c b k in rw r.2 at (f r.0 r.1) in
    elim x [
      | inl e ↦ elim y [
        | inl q ↦ absurd (d (e ∙ sym q))
        | inr q ↦ rw (← e) (h, g.second q)
      ]
      | inr e ↦ elim y [
        | inl q ↦ rw (← q) (k, g.first e)
        | inr q ↦ absurd (let t = g.first e in omega (arith, t.value, q.value))
      ]
    ]

pub true_later : (v w : List ℕ) (l p q : ℕ) → p ≤ q → TrueBelow v w l p → TrueBelow v w l q
true_later v w l p q h t = record { value = t.value; place = omega (arith, t.place) }

pub guarded-agree : (v w v' w' : List ℕ) (a b p q n m : ℕ) → Agree v w v' w' n → p ≤ n → q ≤ n → q ≤ m → Guarded v w a b p q → Guarded v' w' a b p m
guarded-agree v w v' w' a b p q n m g i j k h = record {
  first = λ f. true_later v' w' b q m k (g.true_to b q j (h.first (g.false_from a p i f)));
  second = λ f. true_later v' w' a q m k (g.true_to a q j (h.second (g.false_from b p i f)));
}

-- the trail after an assignment
pub agree_of : (store : List (List ℕ)) (old new : Trail) (l r : ℕ) → IsState store old → IsAssigned old new l r → get_or old.values.items l 0 ≡ 0 → l < 2 * length old.literals.items
    → Agree old.values.items old.places.items new.values.items new.places.items old.count
agree_of store old new l r s a o b = rw (a.values, a.places) (assigned-agree old.values.items old.places.items old.literals.items old.count l s.search.trail b o)

pub now_true : (store : List (List ℕ)) (old new : Trail) (l r : ℕ) → IsState store old → IsAssigned old new l r → l < 2 * length old.literals.items
    → TrueBelow new.values.items new.places.items l new.count
now_true store old new l r s a b =
    let p : l / 2 < length old.places.items = omega (arith, s.search.trail.places_len) in
    record {
      value = rw a.values (with_true-self old.values.items l (length old.literals.items) s.search.trail.values_len b);
      place = rw (a.places, a.count, get_or-set_same {A = ℕ} old.places.items (l / 2) old.count 0) (omega arith);
    }

pub room_assigned : (store : List (List ℕ)) (old new : Trail) (w : Watches) (l r : ℕ) → IsAssigned old new l r → IsRoom store old w → IsRoom store new w
room_assigned store old new w l r a m = record {
  firsts = m.firsts;
  seconds = m.seconds;
  lists = m.lists ∙ ap (λ x. 2 * x) (sym (ap length a.literals ∙ length-set old.literals.items old.count l));
  done = omega (arith, a.count, m.done);
  limits = rw a.limits m.limits;
}

pub guards_assigned : (store : List (List ℕ)) (old new : Trail) (l r x y done : ℕ) → IsState store old → IsAssigned old new l r → Agree old.values.items old.places.items new.values.items new.places.items old.count → done ≤ old.count
    → Guards old.values.items old.places.items old.limits.items x y done old.count → Guards new.values.items new.places.items new.limits.items x y done new.count
guards_assigned store old new l r x y done s a g d k = record {
  here = guarded-agree old.values.items old.places.items new.values.items new.places.items x y done old.count old.count new.count g d (omega arith) (omega (arith, a.count)) k.here;
  earlier = rw a.limits (λ j h. let b = s.search.limit_below j h in
      guarded-agree old.values.items old.places.items new.values.items new.places.items x y (get_or old.limits.items j 0) (get_or old.limits.items j 0) old.count (get_or old.limits.items j 0) g (omega (arith, b)) (omega (arith, b)) (omega arith) (k.earlier j h));
}

pub todo_assigned : (old new : Trail) (l r x y f i at : ℕ) (row : List ℕ) → IsAssigned old new l r → Agree old.values.items old.places.items new.values.items new.places.items old.count
    → Todo old.values.items old.places.items x y f old.count i row at → Todo new.values.items new.places.items x y f new.count i row at
todo_assigned old new l r x y f i at row a g k = record {
  first = λ e. elim (k.first e) [ inl q ↦ inl (true_later new.values.items new.places.items y old.count new.count (omega (arith, a.count)) (g.true_to y old.count (omega arith) q)) | inr q ↦ inr q ];
  second = λ e. elim (k.second e) [ inl q ↦ inl (true_later new.values.items new.places.items x old.count new.count (omega (arith, a.count)) (g.true_to x old.count (omega arith) q)) | inr q ↦ inr q ];
}

pub watching_assigned : (store : List (List ℕ)) (old new : Trail) (w : Watches) (l r : ℕ) → IsState store old → IsAssigned old new l r → get_or old.values.items l 0 ≡ 0 → l < 2 * length old.literals.items
    → IsWatching store old w → IsWatching store new w
watching_assigned store old new w l r s a o b h =
    let g = agree_of store old new l r s a o b in
    record {
      room = room_assigned store old new w l r a h.room;
      covered = λ i k. elim (h.covered i k) [
        | inl q ↦ inl q
        | inr q ↦ inr (q.0, guards_assigned store old new l r (get_or w.firsts.items i 0) (get_or w.seconds.items i 0) w.done s a g h.room.done q.1)
      ];
    }

pub visiting_assigned : (store : List (List ℕ)) (old new : Trail) (w : Watches) (l r f at : ℕ) → IsState store old → IsAssigned old new l r → get_or old.values.items l 0 ≡ 0 → l < 2 * length old.literals.items
    → IsVisiting store old w f at → IsVisiting store new w f at
visiting_assigned store old new w l r f at s a o b h =
    let g = agree_of store old new l r s a o b in
    let two : FalseBelow new.values.items new.places.items f old.count = g.false_to f old.count (omega arith) (false_placed old.values.items old.places.items old.literals.items old.count f s.search.trail h.value) in
    let n : length new.literals.items ≡ length old.literals.items = ap length a.literals ∙ length-set old.literals.items old.count l in
    let d : f / 2 ≢ l / 2 = λ e. elim (cases_eq f l) [ inl q ↦ omega (arith, o, h.value, ap (λ x. get_or old.values.items x 0) q) | inr q ↦ (let z : f ≡ flip l = same_variable f l e q in let y : get_or old.values.items l 0 ≡ 1 = rw (flip-flip) at (s.search.trail.false_opposite (flip l) (rw z at h.value)) in omega (arith, y, o)) ] in
    record {
      room = room_assigned store old new w l r a h.room;
      covered = λ i k. elim (h.covered i k) [
        | inl q ↦ inl q
        | inr q ↦ inr (
          q.0,
          guards_assigned store old new l r (get_or w.firsts.items i 0) (get_or w.seconds.items i 0) w.done s a g h.room.done q.1,
          todo_assigned old new l r (get_or w.firsts.items i 0) (get_or w.seconds.items i 0) f i at (get_or w.lists f []) a g q.2,
        )
      ];
      within = rw n h.within;
      place = rw a.places (get_or-set_other {A = ℕ} old.places.items (l / 2) (f / 2) old.count 0 d ∙ h.place);
      value = two.value;
      before = omega (arith, h.before, a.count);
    }

pub visiting_watching : (store : List (List ℕ)) (t : Trail) (w : Watches) (f at : ℕ) → IsVisiting store t w f at → IsWatching store t w
visiting_watching store t w f at h = record {
  room = h.room;
  covered = λ i k. elim (h.covered i k) [ inl q ↦ inl q | inr q ↦ inr (q.0, q.1) ];
}

-- one clause of the list is done: the other literal that it watches is true
todo_passed : (v w : List ℕ) (a b f count i : ℕ) (row : List ℕ) (at : ℕ) → Todo v w a b f count i row at → (i ≡ get_or row at 0 → (a ≡ f → TrueBelow v w b count) × (b ≡ f → TrueBelow v w a count)) → Todo v w a b f count i row (at + 1)
todo_passed v w a b f count i row at t d =
    let later : (s : Stands row at i) → (i ≡ get_or row at 0) ⊎ Stands row (at + 1) i = λ s. elim (cases_eq s.0 at) [ inl e ↦ inl (sym s.3 ∙ ap (λ x. get_or row x 0) e) | inr e ↦ inr (s.0, omega (arith, s.1, e), s.2, s.3) ] in
    record {
      first = λ e. elim (t.first e) [ inl q ↦ inl q | inr q ↦ elim (later q) [ inl z ↦ inl ((d z).0 e) | inr z ↦ inr z ] ];
      second = λ e. elim (t.second e) [ inl q ↦ inl q | inr q ↦ elim (later q) [ inl z ↦ inl ((d z).1 e) | inr z ↦ inr z ] ];
    }

-- the one watched literal is f, and the other one is `other`
abbrev pub Beside : Watches → ℕ → ℕ → ℕ → Type 0
Beside w i f other = ((get_or w.firsts.items i 0 ≡ f) × (other ≡ get_or w.seconds.items i 0)) ⊎ ((get_or w.seconds.items i 0 ≡ f) × (other ≡ get_or w.firsts.items i 0))

-- of two different literals the one that is not f
partner_true : (v w : List ℕ) (a b f other count : ℕ) → a ≢ b → (((a ≡ f) × (other ≡ b)) ⊎ ((b ≡ f) × (other ≡ a))) → TrueBelow v w other count → (a ≡ f → TrueBelow v w b count) × (b ≡ f → TrueBelow v w a count)
partner_true v w a b f other count d (inl p) t = ((λ e. rw (← p.1) t), (λ e. absurd (d (p.0 ∙ sym e))))
partner_true v w a b f other count d (inr p) t = ((λ e. absurd (d (e ∙ sym p.0))), (λ e. rw (← p.1) t))

pub visiting_passed : (store : List (List ℕ)) (t : Trail) (w : Watches) (f at n other : ℕ) → IsVisiting store t w f at → n ≡ get_or (get_or w.lists f []) at 0 → Beside w n f other → TrueBelow t.values.items t.places.items other t.count
    → IsVisiting store t w f (at + 1)
visiting_passed store t w f at n other h e b y = record {
  room = h.room;
  covered = λ i k. elim (h.covered i k) [
    | inl q ↦ inl q
    | inr q ↦ inr (
      q.0,
      q.1,
      todo_passed t.values.items t.places.items (get_or w.firsts.items i 0) (get_or w.seconds.items i 0) f t.count i (get_or w.lists f []) at q.2
          (λ z. partner_true t.values.items t.places.items (get_or w.firsts.items i 0) (get_or w.seconds.items i 0) f other t.count q.0.differ (rw (e ∙ sym z) at b) y),
    )
  ];
  within = h.within;
  place = h.place;
  value = h.value;
  before = h.before;
}

-- the number at an index leaves the list of f; its clause does not watch f
pub visiting_dropped : (store : List (List ℕ)) (t : Trail) (w u : Watches) (f at : ℕ) → IsVisiting store t w f at → IsLess w.lists u.lists f at → u.firsts ≡ w.firsts → u.seconds ≡ w.seconds → u.short ≡ w.short → u.done ≡ w.done
    → ((n : ℕ) → n < length store → n ≡ get_or (get_or w.lists f []) at 0 → (get_or w.firsts.items n 0 ≢ f) × (get_or w.seconds.items n 0 ≢ f))
    → IsVisiting store t u f at
visiting_dropped store t w u f at h l ef es eh ed d =
    let kept : (x i : ℕ) → (x ≡ f → i ≢ get_or (get_or w.lists f []) at 0) → (m : ℕ) → m ≤ at → Stands (get_or w.lists x []) m i → Stands (get_or u.lists x []) m i = λ x i z m b s. elim (cases_eq x f) [
      | inl e ↦ rw e (l.keeps m i b (z e) (rw e at s))
      | inr e ↦ rw (l.other x e) s
    ] in
    record {
      room = record {
        firsts = rw ef h.room.firsts;
        seconds = rw es h.room.seconds;
        lists = l.len ∙ h.room.lists;
        done = rw ed h.room.done;
        limits = rw ed h.room.limits;
      };
      covered = λ i k. elim (h.covered i k) [
        | inl q ↦ inl (record { short = q.short; stands = rw eh q.stands; first = rw ef q.first; second = rw es q.second })
        | inr q ↦ inr (
          rw (ef, es) (record {
            first = q.0.first;
            second = q.0.second;
            differ = q.0.differ;
            in_first = kept (get_or w.firsts.items i 0) i (λ e z. (d i k z).0 e) 0 (omega arith) q.0.in_first;
            in_second = kept (get_or w.seconds.items i 0) i (λ e z. (d i k z).1 e) 0 (omega arith) q.0.in_second;
          }),
          rw (ef, es, ed) q.1,
          rw (ef, es) (record {
            first = λ e. elim (q.2.first e) [ inl z ↦ inl z | inr z ↦ inr (l.keeps at i (omega arith) (λ y. (d i k y).0 e) z) ];
            second = λ e. elim (q.2.second e) [ inl z ↦ inl z | inr z ↦ inr (l.keeps at i (omega arith) (λ y. (d i k y).1 e) z) ];
          }),
        )
      ];
      within = h.within;
      place = rw ed h.place;
      value = h.value;
      before = rw ed h.before;
    }

-- the two literals of a clause of which one is false where the propagation stands
abbrev pub Held : Trail → ℕ → ℕ → ℕ → Type 0
Held t done f other = (FalseBelow t.values.items t.places.items other done → TrueBelow t.values.items t.places.items f t.count)
    × ((j : ℕ) → j < length t.limits.items → FalseBelow t.values.items t.places.items other (get_or t.limits.items j 0) → TrueBelow t.values.items t.places.items f (get_or t.limits.items j 0))

held : (t : Trail) (done a b f other : ℕ) → Guards t.values.items t.places.items t.limits.items a b done t.count → (((a ≡ f) × (other ≡ b)) ⊎ ((b ≡ f) × (other ≡ a))) → Held t done f other
held t done a b f other g (inl p) = (rw (p.1, ← p.0) g.here.second, rw (p.1, ← p.0) (λ j h. (g.earlier j h).second))
held t done a b f other g (inr p) = (rw (p.1, ← p.0) g.here.first, rw (p.1, ← p.0) (λ j h. (g.earlier j h).first))

-- a literal that is not false in place of the false one
fresh_guards : (t : Trail) (done f other x : ℕ) → Held t done f other → get_or t.values.items f 0 ≡ 2 → get_or t.values.items x 0 ≢ 2 → Guards t.values.items t.places.items t.limits.items other x done t.count
fresh_guards t done f other x h z n = record {
  here = record {
    first = λ q. absurd (let y = h.0 q in omega (arith, y.value, z));
    second = λ q. absurd (n q.value);
  };
  earlier = λ j k. record {
    first = λ q. absurd (let y = h.1 j k q in omega (arith, y.value, z));
    second = λ q. absurd (n q.value);
  };
}

other_has : (lists : List (List ℕ)) (c : List ℕ) (a b i f other : ℕ) → IsPair lists c a b i → (((a ≡ f) × (other ≡ b)) ⊎ ((b ≡ f) × (other ≡ a))) → Has c other × Stands (get_or lists other []) 0 i × (other ≢ f)
other_has lists c a b i f other p (inl q) = rw q.1 (p.second, p.in_second, (λ e. p.differ (q.0 ∙ sym e)))
other_has lists c a b i f other p (inr q) = rw q.1 (p.first, p.in_first, (λ e. p.differ (e ∙ sym q.0)))

beside_not_short : (f other n : ℕ) (w : Watches) → Beside w n f other → get_or w.firsts.items n 0 ≡ 4294967295 → get_or w.seconds.items n 0 ≡ 4294967295 → f ≢ 4294967295 → ⊥
beside_not_short f other n w (inl p) a b d = d (sym p.0 ∙ a)
beside_not_short f other n w (inr p) a b d = d (sym p.0 ∙ b)

pub not_big : (store : List (List ℕ)) (t : Trail) (w : Watches) (f at : ℕ) → IsState store t → IsVisiting store t w f at → f ≢ 4294967295
not_big store t w f at s h e = omega (arith, e, h.within, s.few)

-- a clause that watches f has two watched literals
pub paired : (store : List (List ℕ)) (t : Trail) (w : Watches) (f at n other : ℕ) → IsState store t → IsVisiting store t w f at → n < length store → Beside w n f other → IsPairAt store w n × GuardsAt t w n × TodoAt t w f at n
paired store t w f at n other s h b p = elim (h.covered n b) [
  | inl q ↦ absurd (beside_not_short f other n w p q.first q.second (not_big store t w f at s h))
  | inr q ↦ q
]

pub other_below : (store : List (List ℕ)) (t : Trail) (w : Watches) (f at n other : ℕ) → IsState store t → IsVisiting store t w f at → n < length store → Beside w n f other → other < 2 * length t.literals.items
other_below store t w f at n other s h b p =
    let q = paired store t w f at n other s h b p in
    let o = other_has w.lists (get_or store n []) (get_or w.firsts.items n 0) (get_or w.seconds.items n 0) n f other q.0 p in
    has_below store (length t.literals.items) n other s.within b o.0

pub fresh_below : (store : List (List ℕ)) (t : Trail) (n x : ℕ) → IsState store t → n < length store → Has (get_or store n []) x → x < 2 * length t.literals.items
fresh_below store t n x s b h = has_below store (length t.literals.items) n x s.within b h

-- no spare literal: the other one is forced, or all are false
pub spare_forces : (store : List (List ℕ)) (t : Trail) (w : Watches) (f at n other : ℕ) → IsState store t → IsVisiting store t w f at → n < length store → Beside w n f other → IsSpare t.values.items (get_or store n []) other None
    → Forces t.values.items t.places.items (get_or store n []) other t.count
spare_forces store t w f at n other s h b p z =
    let q = paired store t w f at n other s h b p in
    let o = other_has w.lists (get_or store n []) (get_or w.firsts.items n 0) (get_or w.seconds.items n 0) n f other q.0 p in
    record {
      has = o.0;
      rest = λ j k. elim (z j k) [ inl e ↦ inl e | inr e ↦ inr (false_placed t.values.items t.places.items t.literals.items t.count (get_or (get_or store n []) j 0) s.search.trail e) ];
    }

pub spare_false : (store : List (List ℕ)) (t : Trail) (n other : ℕ) → IsState store t → IsSpare t.values.items (get_or store n []) other None → get_or t.values.items other 0 ≡ 2 → IsFalse t (get_or store n [])
spare_false store t n other s z v j k = false_placed t.values.items t.places.items t.literals.items t.count (get_or (get_or store n []) j 0) s.search.trail (elim (z j k) [ inl e ↦ rw e v | inr e ↦ e ])

-- the clause n watches `other` and x
pub visiting_rewatched : (store : List (List ℕ)) (t : Trail) (w u : Watches) (f at n other x : ℕ) → IsVisiting store t w f at → IsRewatched w u n other x → n < length store → x < length w.lists → Beside w n f other
    → f ≢ 4294967295 → Has (get_or store n []) x → x ≢ other → get_or t.values.items x 0 ≢ 2
    → IsVisiting store t u f at
visiting_rewatched store t w u f at n other x h r b xl s big hx d v =
    let fresh : x ≢ f = λ e. v (rw e h.value) in
    let row : get_or u.lists f [] ≡ get_or w.lists f [] = rw (r.lists, get_or-set_other {A = List ℕ} w.lists x f (get_or w.lists x [] ++ n ∷ []) [] (λ e. fresh (sym e))) refl in
    let moved : (y m j : ℕ) → Stands (get_or w.lists y []) m j → Stands (get_or u.lists y []) m j = λ y m j z. rw r.lists (pushed_stands w.lists x n y m j xl z) in
    let bf : n < length w.firsts.items = omega (arith, h.room.firsts) in
    let bs : n < length w.seconds.items = omega (arith, h.room.seconds) in
    record {
      room = record {
        firsts = rw (r.firsts, length-set) h.room.firsts;
        seconds = rw (r.seconds, length-set) h.room.seconds;
        lists = rw (r.lists, length-set) h.room.lists;
        done = rw r.done h.room.done;
        limits = rw r.done h.room.limits;
      };
      covered = λ i k. elim (h.covered i k) [
        | inl q ↦
            let e : i ≢ n = λ z. beside_not_short f other n w s (rw z at q.first) (rw z at q.second) big in
            inl (record {
              short = q.short;
              stands = rw r.short q.stands;
              first = rw (r.firsts, get_or-set_other {A = ℕ} w.firsts.items n i other 0 e) q.first;
              second = rw (r.seconds, get_or-set_other {A = ℕ} w.seconds.items n i x 0 e) q.second;
            })
        | inr q ↦ elim (cases_eq i n) [
          | inl e ↦
              let p : IsPair w.lists (get_or store n []) (get_or w.firsts.items n 0) (get_or w.seconds.items n 0) n = rw e at q.0 in
              let g : Guards t.values.items t.places.items t.limits.items (get_or w.firsts.items n 0) (get_or w.seconds.items n 0) w.done t.count = rw e at q.1 in
              let o = other_has w.lists (get_or store n []) (get_or w.firsts.items n 0) (get_or w.seconds.items n 0) n f other p s in
              inr (rw (e, r.firsts, r.seconds, get_or-set_same {A = ℕ} w.firsts.items n other 0, get_or-set_same {A = ℕ} w.seconds.items n x 0) (
                record { first = o.0; second = hx; differ = λ z. d (sym z); in_first = moved other 0 n o.1; in_second = rw r.lists (pushed_last w.lists x n xl) },
                rw r.done (fresh_guards t w.done f other x (held t w.done (get_or w.firsts.items n 0) (get_or w.seconds.items n 0) f other g s) h.value v),
                record { first = λ z. absurd (o.2 z); second = λ z. absurd (fresh z) },
              ))
          | inr e ↦ inr (rw (r.firsts, r.seconds, get_or-set_other {A = ℕ} w.firsts.items n i other 0 e, get_or-set_other {A = ℕ} w.seconds.items n i x 0 e, r.done, row)
              (record { first = q.0.first; second = q.0.second; differ = q.0.differ; in_first = moved (get_or w.firsts.items i 0) 0 i q.0.in_first; in_second = moved (get_or w.seconds.items i 0) 0 i q.0.in_second }, q.1, q.2))
        ]
      ];
      within = h.within;
      place = rw r.done h.place;
      value = h.value;
      before = rw r.done h.before;
    }

-- the next literal
pub visiting_begun : (store : List (List ℕ)) (t : Trail) (w : Watches) (f : ℕ) → IsState store t → IsWatching store t w → w.done < t.count → f ≡ flip (get_or t.literals.items w.done 0) → IsVisiting store t w f 0
visiting_begun store t w f s h b e =
    let v : get_or t.values.items f 0 ≡ 2 = rw e (s.search.trail.true_opposite (get_or t.literals.items w.done 0) (s.search.trail.is_true w.done b)) in
    record {
      room = h.room;
      covered = λ i k. elim (h.covered i k) [
        | inl q ↦ inl q
        | inr q ↦ inr (q.0, q.1, record { first = λ z. inr (rw z at q.0.in_first); second = λ z. inr (rw z at q.0.in_second) })
      ];
      within = elim (cases_lt f (length t.values.items)) [ inl q ↦ omega (arith, s.search.trail.values_len) | inr q ↦ absurd (omega (arith, get_or_past t.values.items f 0 q, v)) ];
      place = rw (e, flip-variable) (s.search.trail.placed w.done b);
      value = v;
      before = b;
    }

-- what was false since before the place done + 1 was so before, or is f
below_next : (v w ls : List ℕ) (count done f x : ℕ) → IsTrail v w ls count → get_or w (f / 2) 0 ≡ done → get_or v f 0 ≡ 2 → FalseBelow v w x (done + 1) → (x ≡ f) ⊎ FalseBelow v w x done
below_next v w ls count done f x t p z h = elim (cases_lt (get_or w (x / 2) 0) done) [
  | inl e ↦ inr (record { value = h.value; place = e })
  | inr e ↦
      let a : get_or ls (get_or w (flip f / 2) 0) 0 ≡ flip f = t.stands (flip f) (t.false_opposite f z) in
      let b : get_or ls (get_or w (flip x / 2) 0) 0 ≡ flip x = t.stands (flip x) (t.false_opposite x h.value) in
      let c : get_or w (flip f / 2) 0 ≡ done = rw flip-variable p in
      let d : get_or w (flip x / 2) 0 ≡ done = rw flip-variable (omega (arith, e, h.place)) in
      let g : flip x ≡ flip f = sym b ∙ ap (λ i. get_or ls i 0) (d ∙ sym c) ∙ a in
      inl (sym (flip-flip x) ∙ ap flip g ∙ flip-flip f)
]

none_left : (row : List ℕ) (at i : ℕ) → length row ≤ at → Stands row at i → ⊥
none_left row at i h s = omega (arith, s.1, s.2)

-- the list of f is done
pub watching_next : (store : List (List ℕ)) (t : Trail) (w u : Watches) (f at : ℕ) → IsState store t → IsVisiting store t w f at → length (get_or w.lists f []) ≤ at → u.firsts ≡ w.firsts → u.seconds ≡ w.seconds → u.lists ≡ w.lists → u.short ≡ w.short → u.done ≡ w.done + 1
    → IsWatching store t u
watching_next store t w u f at s h b ef es el eh ed = record {
  room = record {
    firsts = rw ef h.room.firsts;
    seconds = rw es h.room.seconds;
    lists = rw el h.room.lists;
    done = omega (arith, ed, h.before);
    limits = λ j k. omega (arith, ed, h.room.limits j k);
  };
  covered = λ i k. elim (h.covered i k) [
    | inl q ↦ inl (record { short = q.short; stands = rw eh q.stands; first = rw ef q.first; second = rw es q.second })
    | inr q ↦ inr (
      rw (ef, es, el) q.0,
      rw (ef, es, ed) (record {
        here = record {
          first = λ z. elim (below_next t.values.items t.places.items t.literals.items t.count w.done f (get_or w.firsts.items i 0) s.search.trail h.place h.value z) [
            | inl y ↦ elim (q.2.first y) [ inl r ↦ r | inr r ↦ absurd (none_left (get_or w.lists f []) at i b r) ]
            | inr y ↦ q.1.here.first y
          ];
          second = λ z. elim (below_next t.values.items t.places.items t.literals.items t.count w.done f (get_or w.seconds.items i 0) s.search.trail h.place h.value z) [
            | inl y ↦ elim (q.2.second y) [ inl r ↦ r | inr r ↦ absurd (none_left (get_or w.lists f []) at i b r) ]
            | inr y ↦ q.1.here.second y
          ];
        };
        earlier = q.1.earlier;
      }),
    )
  ];
}

-- short clauses
pub short_true : (v w c : List ℕ) (p : ℕ) → IsShort c → Quiet v w c p → (l : ℕ) × Has c l × TrueBelow v w l p
short_true v w c p s q =
    let r = q (get_or c 0 0) (λ j k. inl (s (get_or c j 0) (get_or c 0 0) (Has-at c j k) (Has-at c 0 (omega arith)))) in
    (get_or c 0 0, r.0, r.1)

pub settled_more : (store : List (List ℕ)) (t : Trail) (w : Watches) (at n : ℕ) → AreSettled store t w at → n ≡ get_or w.short.items at 0
    → (n < length store → IsShort (get_or store n []) → (l : ℕ) × Has (get_or store n []) l × TrueBelow t.values.items t.places.items l t.count) → AreSettled store t w (at + 1)
settled_more store t w at n h e z k b = elim (cases_eq k at) [
  | inl q ↦ rw (q, ← e) z
  | inr q ↦ h k (omega arith)
]

pub settled_assigned : (store : List (List ℕ)) (old new : Trail) (w : Watches) (l r at : ℕ) → IsState store old → IsAssigned old new l r → get_or old.values.items l 0 ≡ 0 → l < 2 * length old.literals.items
    → AreSettled store old w at → AreSettled store new w at
settled_assigned store old new w l r at s a o b h k j i z =
    let g = agree_of store old new l r s a o b in
    let x = h k j i z in
    (x.0, x.1, true_later new.values.items new.places.items x.0 old.count new.count (omega (arith, a.count)) (g.true_to x.0 old.count (omega arith) x.2))

-- with a decision each short clause is settled, since nothing followed from it there
pub settled_later : (store : List (List ℕ)) (t : Trail) (w : Watches) → IsState store t → 0 < length t.limits.items → AreSettled store t w (length w.short.items)
settled_later store t w s b k j i z =
    let x = short_true t.values.items t.places.items (get_or store (get_or w.short.items k 0) []) (get_or t.limits.items 0 0) z (s.search.quiet 0 b (get_or w.short.items k 0) i) in
    (x.0, x.1, true_later t.values.items t.places.items x.0 (get_or t.limits.items 0 0) t.count (omega (arith, s.search.limit_below 0 b)) x.2)

-- each literal is propagated
pub watched_quiet : (store : List (List ℕ)) (t : Trail) (w : Watches) → IsState store t → IsWatching store t w → AreSettled store t w (length w.short.items) → t.count ≤ w.done
    → (i : ℕ) → i < length store → Quiet t.values.items t.places.items (get_or store i []) t.count
watched_quiet store t w s h z b i k =
    let e : w.done ≡ t.count = omega (arith, b, h.room.done) in
    elim (h.covered i k) [
      | inl q ↦
          let x : (l : ℕ) × Has (get_or store i []) l × TrueBelow t.values.items t.places.items l t.count = rw q.stands.3 at (z q.stands.0 q.stands.2 (rw q.stands.3 k) (rw q.stands.3 q.short)) in
          let y = Has-index (get_or store i []) x.0 x.1 in
          quiet_true t.values.items t.places.items t.literals.items (get_or store i []) t.count y.0 s.search.trail y.1 (rw y.2 x.2.value)
      | inr q ↦ quiet_guarded t.values.items t.places.items (get_or store i []) (get_or w.firsts.items i 0) (get_or w.seconds.items i 0) t.count q.0.first q.0.second q.0.differ (rw e at q.1.here)
    ]

-- the clause n leaves the list of f for that of x
pub visiting_moved : (store : List (List ℕ)) (t : Trail) (w u r : Watches) (f at n other x : ℕ) → IsState store t → IsVisiting store t w f at → IsRewatched w u n other x → n < length store → n ≡ get_or (get_or w.lists f []) at 0 → Beside w n f other
    → Has (get_or store n []) x → x ≢ other → get_or t.values.items x 0 ≢ 2 → IsLess u.lists r.lists f at → r.firsts ≡ u.firsts → r.seconds ≡ u.seconds → r.short ≡ u.short → r.done ≡ u.done
    → IsVisiting store t r f at × (length (get_or r.lists f []) + 1 ≡ length (get_or w.lists f []))
visiting_moved store t w u r f at n other x s h c b e p hx d v l ef es eh ed =
    let xl : x < length w.lists = omega (arith, fresh_below store t n x s b hx, h.room.lists) in
    let fresh : x ≢ f = λ z. v (rw z h.value) in
    let row : get_or u.lists f [] ≡ get_or w.lists f [] = rw (c.lists, get_or-set_other {A = List ℕ} w.lists x f (get_or w.lists x [] ++ n ∷ []) [] (λ z. fresh (sym z))) refl in
    let q = paired store t w f at n other s h b p in
    let o = other_has w.lists (get_or store n []) (get_or w.firsts.items n 0) (get_or w.seconds.items n 0) n f other q.0 p in
    let bf : n < length w.firsts.items = omega (arith, h.room.firsts) in
    let bs : n < length w.seconds.items = omega (arith, h.room.seconds) in
    let y = visiting_rewatched store t w u f at n other x h c b xl p (not_big store t w f at s h) hx d v in
    let off : (m : ℕ) → m < length store → m ≡ get_or (get_or u.lists f []) at 0 → (get_or u.firsts.items m 0 ≢ f) × (get_or u.seconds.items m 0 ≢ f) = λ m k z.
    let i : m ≡ n = z ∙ ap (λ a. get_or a at 0) row ∙ sym e in
    rw (i, c.firsts, c.seconds, get_or-set_same {A = ℕ} w.firsts.items n other 0, get_or-set_same {A = ℕ} w.seconds.items n x 0) (o.2, fresh) in
    (visiting_dropped store t u r f at y l ef es eh ed off, l.shorter ∙ ap length row)

-- the other literal of the clause n is made true
pub visiting_forced : (store : List (List ℕ)) (old new : Trail) (w : Watches) (f at n other : ℕ) → IsState store old → IsVisiting store old w f at → n < length store → n ≡ get_or (get_or w.lists f []) at 0 → Beside w n f other
    → get_or old.values.items other 0 ≡ 0 → IsAssigned old new other n → IsVisiting store new w f (at + 1)
visiting_forced store old new w f at n other s h b e p o a =
    let q = other_below store old w f at n other s h b p in
    visiting_passed store new w f at n other (visiting_assigned store old new w other n f at s a o q h) e p (now_true store old new other n s a q)

pub keeps_assigned : (store : List (List ℕ)) (old new : Trail) (l r : ℕ) → IsState store old → IsAssigned old new l r → get_or old.values.items l 0 ≡ 0 → l < 2 * length old.literals.items → KeepsTrue old new
keeps_assigned store old new l r s a o b x t = true_later new.values.items new.places.items x old.count new.count (omega (arith, a.count)) ((agree_of store old new l r s a o b).true_to x old.count (omega arith) t)

pub settled_grown : (store : List (List ℕ)) (t t' : Trail) (w w' : Watches) → KeepsTrue t t' → w'.short ≡ w.short → AreSettled store t w (length w.short.items) → AreSettled store t' w' (length w'.short.items)
settled_grown store t t' w w' g e h = rw e (λ k j i z. let x = h k j i z in (x.0, x.1, g x.0 x.2))
