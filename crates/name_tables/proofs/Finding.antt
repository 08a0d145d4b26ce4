-- What labels tell of the nearest clafer of a name and of the way to it.
use Rattle.std.proofs.Common.{◌≡◌, ℕ, zero, suc, ◌≤◌, ◌&&◌, ◌||◌, Bool, true, false, List, [], ◌∷◌, ◌++◌, length, Option, Some, None, refl, ap, sym, subst, ◌∙◌, arith, inl, inr, append_assoc, append-nil}
use Rattle.std.specs.Prelude.{◌==◌, nat_lt, is_none, is_some}
use Rattle.std.specs.Option.{option_map_or}
use Rattle.std.specs.HashMap.{HashMap}
use Rattle.std.proofs.lemmas.Bool.Decides.{leb_tells, Decides-ltb, Decides-eqb}
use Rattle.std.proofs.lemmas.Bool.{true≢false}
use Rattle.clf_tree.specs.declared.model.Clafer.{Clafer}
use Rattle.clf_tree.specs.Hierarchy.{super_of, way_up, with_supers}
use Rattle.name_resolver.specs.declared.nearest.Nearest.TheVariants as nearest
use Rattle.name_resolver.specs.declared.outside.Found.TheVariants as found
use Rattle.name_resolver.specs.declared.steps.Meant.TheVariants as meant
use Rattle.name_resolver.specs.Ways.{is_child, is_named, Way, here, down}
use Rattle.name_resolver.specs.LookUp.{Hit, IsNearest}
use Rattle.name_resolver.specs.LookUp as result
use Rattle.name_resolver.specs.FirstWay.{goes_earlier, IsTaken}
use Rattle.name_resolver.specs.Outwards.{Means}
use Rattle.name_resolver.specs.Outwards as means
use Rattle.name_resolver.proofs.Members.{In, first, later, head_or_later, nothing_in}
use Rattle.name_resolver.proofs.FirstWays.{has_in, in_has}
use Rattle.name_tables.specs.declared.label.Label.{Label}
use Rattle.name_tables.specs.declared.table.NameEntry.{NameEntry}
use Rattle.name_tables.specs.Labels.{shortest, label_at, label_up, label_below, way_down}
use Rattle.name_tables.specs.Tables.{OwnWay, own, Ends, one, several, Labels, Tells, IsEntry}
use Rattle.name_tables.proofs.Summing.{same_tells, Either, shortest_tells}
use Rattle.name_tables.proofs.Reaching.{declared, lifted}

-- ---- a clafer and all above it

data Above (clafers : List Clafer) (name ss : List ℕ) : List ℕ → ℕ → Type 0 where
  above : {s d : ℕ} {way : List ℕ} → In s ss → OwnWay clafers name s way d → Above clafers name ss way d

above_into : (clafers : List Clafer) (name : List ℕ) (c : ℕ) (ss : List ℕ) (known : List ℕ → ℕ → Type 0) (way : List ℕ) (d : ℕ)
    → Either (Either known (OwnWay clafers name c)) (Above clafers name ss) way d → Either known (Above clafers name (c ∷ ss)) way d
above_into clafers name c ss known way d (inl (inl w)) = inl w
above_into clafers name c ss known way d (inl (inr w)) = inr (above {s = c} first w)
above_into clafers name c ss known way d (inr (above {s = s} i w)) = inr (above {s = s} (later i) w)

above_back : (clafers : List Clafer) (name : List ℕ) (c : ℕ) (ss : List ℕ) (known : List ℕ → ℕ → Type 0) (way : List ℕ) (d : ℕ)
    → Either known (Above clafers name (c ∷ ss)) way d → Either (Either known (OwnWay clafers name c)) (Above clafers name ss) way d
above_back clafers name c ss known way d (inl w) = inl (inl w)
above_back clafers name c ss known way d (inr (above {s = s} i w)) = elim (head_or_later i) [
  | inl same ↦ inl (inr (subst (λ (z : ℕ). OwnWay clafers name z way d) same w))
  | inr j ↦ inr (above {s = s} j w)
]

only_above : (clafers : List Clafer) (name : List ℕ) (c : ℕ) (known : List ℕ → ℕ → Type 0) (o : Option Label) → Tells (Either known (OwnWay clafers name c)) o
    → Tells (Either known (Above clafers name (c ∷ []))) o
only_above clafers name c known o t =
    same_tells (Either known (OwnWay clafers name c)) (Either known (Above clafers name (c ∷ []))) o into back t
  where
    into : (way : List ℕ) (d : ℕ) → Either known (OwnWay clafers name c) way d → Either known (Above clafers name (c ∷ [])) way d
    into way d (inl w) = inl w
    into way d (inr w) = inr (above {s = c} first w)

    back : (way : List ℕ) (d : ℕ) → Either known (Above clafers name (c ∷ [])) way d → Either known (OwnWay clafers name c) way d
    back way d (inl w) = inl w
    back way d (inr (above {s = s} i w)) = elim (head_or_later i) [
      | inl same ↦ inr (subst (λ (z : ℕ). OwnWay clafers name z way d) same w)
      | inr j ↦ absurd (nothing_in s [] refl j)
    ]

up_tells : {S : Type 0} (clafers : List Clafer) (labels : HashMap ℕ Label S) (name : List ℕ) → ((p : ℕ) → Tells (OwnWay clafers name p) (label_at labels p)) → (n c : ℕ) (known : List ℕ → ℕ → Type 0)
    (o : Option Label) → Tells known o → Tells (Either known (Above clafers name (way_up clafers n c))) (label_up clafers labels n c o)
up_tells clafers labels name tells zero c known o t =
    only_above clafers name c known (shortest o (label_at labels c)) (shortest_tells known (OwnWay clafers name c) o (label_at labels c) t (tells c))
up_tells clafers labels name tells (suc n) c known o t =
    by (super_of clafers c) refl
    (λ z both. up_tells clafers labels name tells n z (Either known (OwnWay clafers name c)) (shortest o (label_at labels c)) both)
  where
    both : Tells (Either known (OwnWay clafers name c)) (shortest o (label_at labels c))
    both = shortest_tells known (OwnWay clafers name c) o (label_at labels c) t (tells c)

    by : (s : Option ℕ) → super_of clafers c ≡ s
        → ((z : ℕ) → Tells (Either known (OwnWay clafers name c)) (shortest o (label_at labels c))
        → Tells (Either (Either known (OwnWay clafers name c)) (Above clafers name (way_up clafers n z))) (label_up clafers labels n z (shortest o (label_at labels c))))
        → Tells (Either known (Above clafers name (c ∷ option_map_or (way_up clafers n) s []))) (option_map_or (λ z. label_up clafers labels n z (shortest o (label_at labels c))) s (shortest o (label_at labels c)))
    by None e rest = only_above clafers name c known (shortest o (label_at labels c)) both
    by (Some z) e rest =
        same_tells (Either (Either known (OwnWay clafers name c)) (Above clafers name (way_up clafers n z))) (Either known (Above clafers name (c ∷ way_up clafers n z))) _
        (above_into clafers name c (way_up clafers n z) known) (above_back clafers name c (way_up clafers n z) known)
        (rest z both)

abbrev pub Hits : List Clafer → List ℕ → ℕ → List ℕ → ℕ → Type 0
Hits clafers name c way d = Hit clafers c name way d

abbrev NoWay : List ℕ → ℕ → Type 0
NoWay way d = ⊥

hit_into : (clafers : List Clafer) (name : List ℕ) (c : ℕ) (way : List ℕ) (d : ℕ) → Either NoWay (Above clafers name (with_supers clafers c)) way d → Hits clafers name c way d
hit_into clafers name c way d (inl w) = absurd w
hit_into clafers name c way d (inr (above {s = s} i (own {m = m} {way = rest} u w named))) =
    let on = lifted clafers name c s (m ∷ rest) d (has_in (with_supers clafers c) s i) (own u w named) in
    record { leads = on.0; some_step = omega arith; named = on.1 }

way_back : (clafers : List Clafer) (name : List ℕ) (c : ℕ) (way : List ℕ) (d : ℕ) → Way clafers c way d → 1 ≤ length way → is_named clafers name d ≡ true
    → Either NoWay (Above clafers name (with_supers clafers c)) way d
way_back clafers name c _ _ here some named = absurd (omega (arith, some))
way_back clafers name c _ d (down {m = m} child w) some named =
    let by = declared clafers c m child in
    inr (above {s = by.parent} (in_has (with_supers clafers c) by.parent by.above) (own by.under w named))

pub below_tells : {S : Type 0} (clafers : List Clafer) (labels : HashMap ℕ Label S) (name : List ℕ) → ((p : ℕ) → Tells (OwnWay clafers name p) (label_at labels p)) → (c : ℕ)
    → Tells (Hits clafers name c) (label_below clafers labels c)
below_tells clafers labels name tells c =
    same_tells (Either NoWay (Above clafers name (with_supers clafers c))) (Hits clafers name c) (label_below clafers labels c)
    (hit_into clafers name c) (λ way d h. way_back clafers name c way d h.leads h.some_step h.named)
    (up_tells clafers labels name tells (length clafers) c NoWay None (λ way d w. w))

-- ---- the nearest one

pub nearest_none : (clafers : List Clafer) (name : List ℕ) (c : ℕ) → Tells (Hits clafers name c) None → IsNearest clafers c name nearest.Nothing
nearest_none clafers name c t = result.nothing t

pub nearest_some : (clafers : List Clafer) (name : List ℕ) (c : ℕ) (l : Label) → l.only ≡ None → Tells (Hits clafers name c) (Some l) → IsNearest clafers c name nearest.Several
nearest_some clafers name c l e t = by l.only t.shortest.ends e
  where
    by : (o : Option ℕ) → Ends (Hits clafers name c) l.steps o → o ≡ None → IsNearest clafers c name nearest.Several
    by _ (one all) z = (cc)
    by _ (several d f way other w v long far differ) z =
        result.several d f way other w (λ u g h. subst (λ k. k ≤ length u) (sym long) (t.shortest.least u g h)) v (far ∙ sym long) differ

pub all_end : (ways : List ℕ → ℕ → Type 0) (k : ℕ) (o : Option ℕ) (d : ℕ) → Ends ways k o → o ≡ Some d → (way : List ℕ) (e : ℕ) → ways way e → length way ≡ k → e ≡ d
all_end ways k _ d (one {d = x} all) z way e w long = let same : x ≡ d = (cc) in all way e w long ∙ same
all_end ways k _ d (several x y v u w o l m differ) z way e h long = absurd (let no : None ≡ Some d = z in (cc))

pub nearest_one : (clafers : List Clafer) (name : List ℕ) (c : ℕ) (l : Label) (d : ℕ) → l.only ≡ Some d → Tells (Hits clafers name c) (Some l) → IsNearest clafers c name (nearest.Only d)
nearest_one clafers name c l d e t =
    let s = t.shortest in
    let same = all_end (Hits clafers name c) l.steps l.only d s.ends e in
    result.only s.way (subst (λ (z : ℕ). Hit clafers c name s.way z) (same s.way s.end s.there s.long) s.there)
    (λ u g h. subst (λ k. k ≤ length u) (sym s.long) (s.least u g h))
    (λ other f h long. same other f h (long ∙ s.long))

-- ---- the way that is taken

record Best (clafers : List Clafer) (c k d : ℕ) (way : List ℕ) : Type 0 where
  leads : Way clafers c way d
  long : length way ≡ k
  before : (other : List ℕ) → Way clafers c other d → length other ≡ k → goes_earlier way other ≡ true

earlier_by : (m y : ℕ) (ms ys : List ℕ) → m ≤ y → (y ≡ m → goes_earlier ms ys ≡ true) → goes_earlier (m ∷ ms) (y ∷ ys) ≡ true
earlier_by m y ms ys le rest = by (nat_lt m y) refl
  where
    by : (b : Bool) → nat_lt m y ≡ b → (b || (m == y && goes_earlier ms ys)) ≡ true
    by true e = refl
    by false e =
        let same : y ≡ m = elim (leb_tells y m) [
          | inl h ↦ omega (arith, h.1, le)
          | inr h ↦ absurd (true≢false (sym ((Decides-ltb m y).1 h.1) ∙ e))
        ] in
        ap (λ b. b && goes_earlier ms ys) ((Decides-eqb m y).1 (sym same)) ∙ rest same

-- the ways of k steps from c lead to d, and none is shorter
record Leads (clafers : List Clafer) (name : List ℕ) (c k d : ℕ) : Type 0 where
  way : List ℕ
  leads : Way clafers c way d
  long : length way ≡ k
  least : (other : List ℕ) (e : ℕ) → Hit clafers c name other e → k ≤ length other
  same : (other : List ℕ) (e : ℕ) → Hit clafers c name other e → length other ≡ k → e ≡ d

on_child : (clafers : List Clafer) (name : List ℕ) (c m : ℕ) (other : List ℕ) (e : ℕ) → is_child clafers c m ≡ true → Hit clafers m name other e → Hit clafers c name (m ∷ other) e
on_child clafers name c m other e child h = record { leads = down child h.leads; some_step = omega arith; named = h.named }

head_child : (clafers : List Clafer) (c m d : ℕ) (way : List ℕ) → Way clafers c (m ∷ way) d → is_child clafers c m ≡ true × Way clafers m way d
head_child clafers c m d way (down child w) = (child, w)

best_here : (clafers : List Clafer) (c d : ℕ) (way : List ℕ) → Way clafers c way d → length way ≡ 0 → Best clafers c 0 d []
best_here clafers c _ _ here long = record { leads = here; long = refl; before = λ other w l. refl }
best_here clafers c d _ (down child w) long = absurd (omega (arith, long))

best_before : (clafers : List Clafer) (name : List ℕ) (c k d m : ℕ) (way : List ℕ) → is_named clafers name d ≡ true
    → ((y : ℕ) (ys : List ℕ) (e : ℕ) → Hit clafers c name (y ∷ ys) e → suc (length ys) ≡ suc k → m ≤ y) → Best clafers m k d way
    → (other : List ℕ) → Way clafers c other d → length other ≡ suc k → goes_earlier (m ∷ way) other ≡ true
best_before clafers name c k _ m way named low b _ here long = absurd (omega (arith, long))
best_before clafers name c k d m way named low b _ (down {m = y} {ms = ys} v w) long =
    earlier_by m y way ys (low y ys d (record { leads = down v w; some_step = omega arith; named = named }) long)
    (λ same. b.before ys (subst (λ (z : ℕ). Way clafers z ys d) same w) (omega (arith, long)))

best_next : (clafers : List Clafer) (name : List ℕ) (c k d m : ℕ) (way : List ℕ) → is_child clafers c m ≡ true → is_named clafers name d ≡ true
    → ((y : ℕ) (ys : List ℕ) (e : ℕ) → Hit clafers c name (y ∷ ys) e → suc (length ys) ≡ suc k → m ≤ y) → Best clafers m k d way → Best clafers c (suc k) d (m ∷ way)
best_next clafers name c k d m way child named low b =
    record { leads = down child b.leads; long = ap suc b.long; before = best_before clafers name c k d m way named low b }

best : {S : Type 0} (clafers : List Clafer) (labels : HashMap ℕ Label S) (name : List ℕ) → ((c : ℕ) → Tells (Hits clafers name c) (label_below clafers labels c)) → (k c d : ℕ)
    → is_named clafers name d ≡ true → Leads clafers name c k d → Best clafers c k d (way_down clafers labels k c)
best clafers labels name tells zero c d named l = best_here clafers c d l.way l.leads l.long
best clafers labels name tells (suc k) c d named l = by (label_below clafers labels c) (tells c) (λ m on. best clafers labels name tells k m d named on)
  where
    hit : Hit clafers c name l.way d
    hit = record { leads = l.leads; some_step = let long = l.long in omega (arith, long); named = named }

    by : (o : Option Label) → Tells (Hits clafers name c) o → ((m : ℕ) → Leads clafers name m k d → Best clafers m k d (way_down clafers labels k m)) → Best clafers c (suc k) d (option_map_or (λ z. z.next ∷ way_down clafers labels k z.next) o [])
    by None t rest = absurd (t l.way d hit)
    by (Some z) t rest =
        let low = t.shortest.least l.way d hit in
        let high = l.least (z.next ∷ t.rest) t.end t.goes in
        let length_here = t.long in
        let long = l.long in
        let exact : z.steps ≡ suc k = omega (arith, low, high, length_here, long) in
        let parts = head_child clafers c z.next t.end t.rest t.goes.leads in
        let ends : t.end ≡ d = l.same (z.next ∷ t.rest) t.end t.goes (t.long ∙ exact) in
        best_next clafers name c k d z.next (way_down clafers labels k z.next) parts.0 named
        (λ y ys e h far. t.first y ys e h (far ∙ sym exact))
        (rest z.next (record {
          way = t.rest;
          leads = subst (λ (e : ℕ). Way clafers z.next t.rest e) ends parts.1;
          long = omega (arith, length_here, exact);
          least = λ other e h. let far = l.least (z.next ∷ other) e (on_child clafers name c z.next other e parts.0 h) in omega (arith, far);
          same = λ other e h far. l.same (z.next ∷ other) e (on_child clafers name c z.next other e parts.0 h) (ap suc far);
        }))

pub taken : {S : Type 0} (clafers : List Clafer) (labels : HashMap ℕ Label S) (name : List ℕ) → ((c : ℕ) → Tells (Hits clafers name c) (label_below clafers labels c)) → (c d : ℕ) (l : Label)
    → label_below clafers labels c ≡ Some l → l.only ≡ Some d → IsTaken clafers c (way_down clafers labels l.steps c) d
taken clafers labels name tells c d l e only =
    let t : Labels (Hits clafers name c) l = subst (λ (o : Option Label). Tells (Hits clafers name c) o) e (tells c) in
    let s = t.shortest in
    let same = all_end (Hits clafers name c) l.steps l.only d s.ends only in
    let ends = same s.way s.end s.there s.long in
    let named = subst (λ (z : ℕ). is_named clafers name z ≡ true) ends s.there.named in
    let b = best clafers labels name tells l.steps c d named
    (record { way = s.way; leads = subst (λ (z : ℕ). Way clafers c s.way z) ends s.there.leads; long = s.long; least = s.least; same = same }) in
    record {
      leads = b.leads;
      some_step = let long = b.long in let step = s.there.some_step in let far = s.long in omega (arith, long, step, far);
      shortest = λ other w some. let low = s.least other d (record { leads = w; some_step = some; named = named }) in let long = b.long in omega (arith, low, long);
      first = λ other w long. b.before other w (long ∙ b.long);
    }

-- ---- what the name means

pub below_none : (clafers : List Clafer) (entry : NameEntry) (c : ℕ) → label_below clafers entry.labels c ≡ None → (name : List ℕ) → IsEntry clafers name entry → IsNearest clafers c name nearest.Nothing
below_none clafers entry c e name is =
    nearest_none clafers name c (subst (λ (o : Option Label). Tells (Hits clafers name c) o) e (below_tells clafers entry.labels name is.labels c))

pub below_several : (clafers : List Clafer) (entry : NameEntry) (c out : ℕ) (l : Label) → label_below clafers entry.labels c ≡ Some l → l.only ≡ None → (name : List ℕ) → IsEntry clafers name entry
    → Means clafers name (Some c) out found.Several
below_several clafers entry c out l e only name is =
    means.ambiguous (nearest_some clafers name c l only (subst (λ (o : Option Label). Tells (Hits clafers name c) o) e (below_tells clafers entry.labels name is.labels c)))

pub below_one : (clafers : List Clafer) (entry : NameEntry) (c out : ℕ) (l : Label) (way : List ℕ) → label_below clafers entry.labels c ≡ Some l → is_none l.only ≡ false
    → way ≡ way_down clafers entry.labels l.steps c → (name : List ℕ) → IsEntry clafers name entry → Means clafers name (Some c) out (found.Means (meant.Below out way))
below_one clafers entry c out l way e some is_way name is = by l.only refl some
  where
    tells : (x : ℕ) → Tells (Hits clafers name x) (label_below clafers entry.labels x)
    tells = below_tells clafers entry.labels name is.labels

    by : (o : Option ℕ) → l.only ≡ o → is_none o ≡ false → Means clafers name (Some c) out (found.Means (meant.Below out way))
    by None z differ = absurd (true≢false differ)
    by (Some d) z differ =
        means.below (nearest_one clafers name c l d z (subst (λ (o : Option Label). Tells (Hits clafers name c) o) e (tells c)))
        (subst (λ (w : List ℕ). IsTaken clafers c w d) (sym is_way) (taken clafers entry.labels name tells c d l e z))

-- ---- the way up, and the way down, step by step

pub up_on : {S : Type 0} (clafers : List Clafer) (labels : HashMap ℕ Label S) (n c upper : ℕ) (known next : Option Label) → next ≡ shortest known (label_at labels c) → super_of clafers c ≡ Some upper
    → label_up clafers labels n upper next ≡ label_up clafers labels (suc n) c known
up_on clafers labels n c upper known next is e =
    ap (label_up clafers labels n upper) is ∙ sym (ap (λ (o : Option ℕ). option_map_or (λ s. label_up clafers labels n s (shortest known (label_at labels c))) o (shortest known (label_at labels c))) e)

pub up_end : {S : Type 0} (clafers : List Clafer) (labels : HashMap ℕ Label S) (n c : ℕ) (known next : Option Label) → next ≡ shortest known (label_at labels c) → super_of clafers c ≡ None
    → next ≡ label_up clafers labels (suc n) c known
up_end clafers labels n c known next is e =
    is ∙ sym (ap (λ (o : Option ℕ). option_map_or (λ s. label_up clafers labels n s (shortest known (label_at labels c))) o (shortest known (label_at labels c))) e)

pub down_more : {S : Type 0} (clafers : List Clafer) (labels : HashMap ℕ Label S) (n c : ℕ) (l : Label) (way : List ℕ) → label_below clafers labels c ≡ Some l
    → (way ++ l.next ∷ []) ++ way_down clafers labels n l.next ≡ way ++ way_down clafers labels (suc n) c
down_more clafers labels n c l way e =
    append_assoc way (l.next ∷ []) (way_down clafers labels n l.next)
    ∙ sym (ap (λ (o : Option Label). way ++ option_map_or (λ z. z.next ∷ way_down clafers labels n z.next) o []) e)

pub down_end : {S : Type 0} (clafers : List Clafer) (labels : HashMap ℕ Label S) (n c : ℕ) (way : List ℕ) → label_below clafers labels c ≡ None → way ≡ way ++ way_down clafers labels (suc n) c
down_end clafers labels n c way e =
    sym (append-nil way) ∙ sym (ap (λ (o : Option Label). way ++ option_map_or (λ z. z.next ∷ way_down clafers labels n z.next) o []) e)

pub no_only : (o : Option ℕ) → is_some o ≡ false → o ≡ None
no_only None e = refl
no_only (Some d) e = absurd (true≢false e)

pub some_only : (o : Option ℕ) → is_some o ≡ true → is_none o ≡ false
some_only None e = absurd (true≢false (sym e))
some_only (Some d) e = refl
