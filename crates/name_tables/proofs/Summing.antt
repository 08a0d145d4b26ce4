-- What is known of the shortest of some ways, put together.
use Rattle.std.proofs.Common.{◌≡◌, ℕ, suc, ◌<◌, ◌≤◌, Bool, true, false, List, ◌∷◌, length, Option, Some, None, refl, ap, sym, subst, ◌∙◌, arith, ◌⊎◌, inl, inr}
use Rattle.std.specs.Prelude.{nat_lt, min, if◌then◌else◌}
use Rattle.std.proofs.lemmas.Bool.Decides.{eqb_tells, leb_tells, Decides-ltb}
use Rattle.std.proofs.lemmas.Bool.{true≢false}
use Rattle.name_tables.specs.declared.label.Label.{Label}
use Rattle.name_tables.specs.Labels.{same, shorter, shortest}
use Rattle.name_tables.specs.Tables.{Ends, one, several, Shortest, Labels, Tells}

abbrev pub Ways : Type 1
Ways = List ℕ → ℕ → Type 0

lt_by : (a b : ℕ) → ((nat_lt a b ≡ true) × (a < b)) ⊎ ((nat_lt a b ≡ false) × (b ≤ a))
lt_by a b = by (nat_lt a b) refl
  where
    by : (t : Bool) → nat_lt a b ≡ t → ((nat_lt a b ≡ true) × (a < b)) ⊎ ((nat_lt a b ≡ false) × (b ≤ a))
    by true e = inl (e, (Decides-ltb a b).0 e)
    by false e = inr (
      e,
      elim (leb_tells b a) [
        | inl h ↦ h.1
        | inr h ↦ absurd (true≢false (sym ((Decides-ltb a b).1 h.1) ∙ e))
      ],
    )

-- one of the given ways that is no longer than so
pub record Within (ways : List ℕ → ℕ → Type 0) (k : ℕ) : Type 0 where
  pub way : List ℕ
  pub end : ℕ
  pub there : ways way end
  pub short : length way ≤ k

-- ---- more ways, none of them shorter

-- each of the further ways is one of the ways, or longer than one of them
abbrev pub Covers : (List ℕ → ℕ → Type 0) → (List ℕ → ℕ → Type 0) → Type 0
Covers ways more = (way : List ℕ) (d : ℕ) → more way d → ways way d ⊎ ((k : ℕ) × ((length way ≡ suc k) × Within ways k))

not_longer : (ways more : List ℕ → ℕ → Type 0) (k : ℕ) → ((other : List ℕ) (e : ℕ) → ways other e → k ≤ length other) → Covers ways more
    → (way : List ℕ) (d : ℕ) → more way d → k ≤ length way
not_longer ways more k least covers way d m = elim (covers way d m) [
  | inl w ↦ least way d w
  | inr h ↦ let low = least h.1.1.way h.1.1.end h.1.1.there in let short = h.1.1.short in let long = h.1.0 in omega (arith, low, short, long)
]

as_long : (ways more : List ℕ → ℕ → Type 0) (k : ℕ) → ((other : List ℕ) (e : ℕ) → ways other e → k ≤ length other) → Covers ways more
    → (way : List ℕ) (d : ℕ) → more way d → length way ≡ k → ways way d
as_long ways more k least covers way d m long = elim (covers way d m) [
  | inl w ↦ w
  | inr h ↦ let low = least h.1.1.way h.1.1.end h.1.1.there in let short = h.1.1.short in let far = h.1.0 in absurd (omega (arith, low, short, far, long))
]

more_ends : (ways more : List ℕ → ℕ → Type 0) (k : ℕ) (only : Option ℕ) → ((way : List ℕ) (d : ℕ) → ways way d → more way d)
    → ((way : List ℕ) (d : ℕ) → more way d → length way ≡ k → ways way d) → Ends ways k only → Ends more k only
more_ends ways more k _ into back (one all) = one (λ way e m long. all way e (back way e m long) long)
more_ends ways more k _ into back (several d e way other w o l m differ) = several d e way other (into way d w) (into other e o) l m differ

more_shortest : (ways more : List ℕ → ℕ → Type 0) (k : ℕ) (only : Option ℕ) → ((way : List ℕ) (d : ℕ) → ways way d → more way d) → Covers ways more → Shortest ways k only → Shortest more k only
more_shortest ways more k only into covers s = record {
  way = s.way;
  end = s.end;
  there = into s.way s.end s.there;
  long = s.long;
  least = not_longer ways more k s.least covers;
  ends = more_ends ways more k only into (as_long ways more k s.least covers) s.ends;
}

more_labels : (ways more : List ℕ → ℕ → Type 0) (l : Label) → ((way : List ℕ) (d : ℕ) → ways way d → more way d) → Covers ways more → Labels ways l → Labels more l
more_labels ways more l into covers s = record {
  shortest = more_shortest ways more l.steps l.only into covers s.shortest;
  rest = s.rest;
  end = s.end;
  goes = into (l.next ∷ s.rest) s.end s.goes;
  long = s.long;
  first = λ m way e w long. s.first m way e (as_long ways more l.steps s.shortest.least covers (m ∷ way) e w long) long;
}

pub more_tells : (ways more : List ℕ → ℕ → Type 0) (o : Option Label) → ((way : List ℕ) (d : ℕ) → ways way d → more way d) → Covers ways more → Tells ways o → Tells more o
more_tells ways more None into covers none = λ way d m. elim (covers way d m) [
  | inl w ↦ none way d w
  | inr h ↦ none h.1.1.way h.1.1.end h.1.1.there
]
more_tells ways more (Some l) into covers s = more_labels ways more l into covers s

pub same_tells : (ways more : List ℕ → ℕ → Type 0) (o : Option Label) → ((way : List ℕ) (d : ℕ) → ways way d → more way d) → ((way : List ℕ) (d : ℕ) → more way d → ways way d)
    → Tells ways o → Tells more o
same_tells ways more o into back t = more_tells ways more o into (λ way d m. inl (back way d m)) t

-- ---- two kinds of ways

abbrev pub Either : (List ℕ → ℕ → Type 0) → (List ℕ → ℕ → Type 0) → List ℕ → ℕ → Type 0
Either ways more way d = ways way d ⊎ more way d

ends_left : (ways more : List ℕ → ℕ → Type 0) (k j : ℕ) (only : Option ℕ) → ((way : List ℕ) (d : ℕ) → more way d → j ≤ length way) → k < j → Ends ways k only → Ends (Either ways more) k only
ends_left ways more k j _ high less (one all) = one (λ way e m long. elim m [
  | inl w ↦ all way e w long
  | inr w ↦ let h = high way e w in absurd (omega (arith, h, less, long))
])
ends_left ways more k j _ high less (several d e way other w o l m differ) = several d e way other (inl w) (inl o) l m differ

left_labels : (ways more : List ℕ → ℕ → Type 0) (l : Label) (j : ℕ) → ((way : List ℕ) (d : ℕ) → more way d → j ≤ length way) → l.steps < j → Labels ways l → Labels (Either ways more) l
left_labels ways more l j high less s = record {
  shortest = record {
    way = s.shortest.way;
    end = s.shortest.end;
    there = inl s.shortest.there;
    long = s.shortest.long;
    least = λ way e m. elim m [
      | inl w ↦ s.shortest.least way e w
      | inr w ↦ let h = high way e w in omega (arith, h, less)
    ];
    ends = ends_left ways more l.steps j l.only high less s.shortest.ends;
  };
  rest = s.rest;
  end = s.end;
  goes = inl s.goes;
  long = s.long;
  first = λ m way e w long. elim w [
    | inl v ↦ s.first m way e v long
    | inr v ↦ let h = high (m ∷ way) e v in absurd (omega (arith, h, less, long))
  ];
}

turned : (ways more : List ℕ → ℕ → Type 0) (way : List ℕ) (d : ℕ) → Either more ways way d → Either ways more way d
turned ways more way d (inl w) = inr w
turned ways more way d (inr w) = inl w

right_labels : (ways more : List ℕ → ℕ → Type 0) (l : Label) (j : ℕ) → ((way : List ℕ) (d : ℕ) → ways way d → j ≤ length way) → l.steps < j → Labels more l → Labels (Either ways more) l
right_labels ways more l j high less s =
    more_labels (Either more ways) (Either ways more) l (turned ways more) (λ way d m. inl (turned more ways way d m)) (left_labels more ways l j high less s)

both_ends : (ways more : List ℕ → ℕ → Type 0) (k : ℕ) (a b : Option ℕ) → (w : List ℕ) (d : ℕ) → ways w d → length w ≡ k → (v : List ℕ) (e : ℕ) → more v e → length v ≡ k
    → Ends ways k a → Ends more k b → Ends (Either ways more) k (same a b)
both_ends ways more k _ b w d there long v e here far (several x y p q s t l m differ) f = several x y p q (inl s) (inl t) l m differ
both_ends ways more k _ _ w d there long v e here far (one {d = x} all) (several y z p q s t l m differ) = several y z p q (inr s) (inr t) l m differ
both_ends ways more k _ _ w d there long v e here far (one {d = x} all) (one {d = y} each) = elim (eqb_tells x y) [
  | inl h ↦ subst (λ (b : Bool). Ends (Either ways more) k (if b then Some x else None)) (sym h.0)
      (one (λ p z m l. elim m [
        | inl s ↦ all p z s l
        | inr s ↦ each p z s l ∙ sym h.1
      ]))
  | inr h ↦ subst (λ (b : Bool). Ends (Either ways more) k (if b then Some x else None)) (sym h.0)
      (several d e w v (inl there) (inr here) long far (λ z. h.1 (sym (all w d there long) ∙ z ∙ each v e here far)))
]

min_left : (x y m : ℕ) → x ≤ m → min x y ≤ m
min_left x y m h = omega (arith, h)

min_right : (x y m : ℕ) → y ≤ m → min x y ≤ m
min_right x y m h = omega (arith, h)

record Going (ways : List ℕ → ℕ → Type 0) (next k : ℕ) : Type 0 where
  rest : List ℕ
  end : ℕ
  goes : ways (next ∷ rest) end
  long : suc (length rest) ≡ k

going : (ways more : List ℕ → ℕ → Type 0) (a b : Label) → a.steps ≡ b.steps → Labels ways a → Labels more b → Going (Either ways more) (min a.next b.next) a.steps
going ways more a b e s t = elim (lt_by b.next a.next) [
  | inl h ↦ let least : b.next ≡ min a.next b.next = omega (arith, h.1) in
      record { rest = t.rest; end = t.end; goes = inr (subst (λ (z : ℕ). more (z ∷ t.rest) t.end) least t.goes); long = t.long ∙ sym e }
  | inr h ↦ let least : a.next ≡ min a.next b.next = omega (arith, h.1) in
      record { rest = s.rest; end = s.end; goes = inl (subst (λ (z : ℕ). ways (z ∷ s.rest) s.end) least s.goes); long = s.long }
]

equal_labels : (ways more : List ℕ → ℕ → Type 0) (a b : Label) → a.steps ≡ b.steps → Labels ways a → Labels more b
    → Labels (Either ways more) (record { steps = a.steps; only = same a.only b.only; next = min a.next b.next })
equal_labels ways more a b e s t =
    let g = going ways more a b e s t in
    record {
      shortest = record {
        way = s.shortest.way;
        end = s.shortest.end;
        there = inl s.shortest.there;
        long = s.shortest.long;
        least = λ way d m. elim m [
          | inl w ↦ s.shortest.least way d w
          | inr w ↦ subst (λ k. k ≤ length way) (sym e) (t.shortest.least way d w)
        ];
        ends = both_ends ways more a.steps a.only b.only s.shortest.way s.shortest.end s.shortest.there s.shortest.long t.shortest.way t.shortest.end t.shortest.there (t.shortest.long ∙ sym e)
            s.shortest.ends (subst (λ k. Ends more k b.only) (sym e) t.shortest.ends);
      };
      rest = g.rest;
      end = g.end;
      goes = g.goes;
      long = g.long;
      first = λ m way d w long. elim w [
        | inl v ↦ min_left a.next b.next m (s.first m way d v long)
        | inr v ↦ min_right a.next b.next m (t.first m way d v (long ∙ e))
      ];
    }

pub shorter_labels : (ways more : List ℕ → ℕ → Type 0) (a b : Label) → Labels ways a → Labels more b → Labels (Either ways more) (shorter a b)
shorter_labels ways more a b s t = elim (lt_by a.steps b.steps) [
  | inl h ↦ subst (λ (z : Label). Labels (Either ways more) z) (sym (ap (λ (c : Bool). if c then a else if nat_lt b.steps a.steps then b else record { steps = a.steps; only = same a.only b.only; next = min a.next b.next }) h.0))
      (left_labels ways more a b.steps t.shortest.least h.1 s)
  | inr h ↦ elim (lt_by b.steps a.steps) [
    | inl g ↦ subst (λ (z : Label). Labels (Either ways more) z)
        (sym (ap (λ (c : Bool). if c then a else if nat_lt b.steps a.steps then b else record { steps = a.steps; only = same a.only b.only; next = min a.next b.next }) h.0
        ∙ ap (λ (c : Bool). if c then b else record { steps = a.steps; only = same a.only b.only; next = min a.next b.next }) g.0))
        (right_labels ways more b a.steps s.shortest.least g.1 t)
    | inr g ↦ subst (λ (z : Label). Labels (Either ways more) z)
        (sym (ap (λ (c : Bool). if c then a else if nat_lt b.steps a.steps then b else record { steps = a.steps; only = same a.only b.only; next = min a.next b.next }) h.0
        ∙ ap (λ (c : Bool). if c then b else record { steps = a.steps; only = same a.only b.only; next = min a.next b.next }) g.0))
        (equal_labels ways more a b (omega (arith, h.1, g.1)) s t)
  ]
]

pub shortest_tells : (ways more : List ℕ → ℕ → Type 0) (a b : Option Label) → Tells ways a → Tells more b → Tells (Either ways more) (shortest a b)
shortest_tells ways more None None s t = λ way d m. elim m [ inl w ↦ s way d w | inr w ↦ t way d w ]
shortest_tells ways more (Some a) None s t = more_labels ways (Either ways more) a (λ way d w. inl w) (λ way d m. elim m [ inl w ↦ inl w | inr w ↦ absurd (t way d w) ]) s
shortest_tells ways more None (Some b) s t = more_labels more (Either ways more) b (λ way d w. inr w) (λ way d m. elim m [ inl w ↦ absurd (s way d w) | inr w ↦ inl w ]) t
shortest_tells ways more (Some a) (Some b) s t = shorter_labels ways more a b s t
