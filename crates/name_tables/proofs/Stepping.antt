-- The children of a name, by the labels of the clafers.
use Rattle.std.proofs.Common.{◌≡◌, ℕ, suc, ◌+◌, ◌<◌, ◌≤◌, ◌&&◌, ◌||◌, Bool, true, false, List, [], ◌∷◌, ◌++◌, length, get_or, Option, Some, None, refl, ap, sym, subst, ◌∙◌, arith, inl, inr}
use Rattle.std.specs.Prelude.{◌==◌, bytes_eq, slice_get, eqb, Contains, if◌then◌else◌}
use Rattle.std.specs.Option.{option_map_or}
use Rattle.std.specs.List.{filter, dedup}
use Rattle.std.specs.List.Sorted.{IsPermutation, IsStrictlyIncreasing}
use Rattle.std.proofs.lemmas.List.Folds.{list_any-append}
use Rattle.std.proofs.lemmas.List.Kept.{Contains-dedup_nat, Contains-from_dedup}
use Rattle.std.proofs.lemmas.List.Sorted.{Contains-permutation, IsPermutation-sym}
use Rattle.std.proofs.lemmas.Map.Views.{Contains-from_any, list_any-from_Contains}
use Rattle.std.proofs.lemmas.Bool.Decides.{Decides-eqb}
use Rattle.std.proofs.lemmas.Cmp.{nat_eq_equiv}
use Rattle.std.proofs.lemmas.Bool.{true≢false, cases_lt}
use Rattle.clf_tree.specs.declared.model.Clafer.{Clafer}
use Rattle.clf_tree.specs.Lists.{numbers_below, has}
use Rattle.name_resolver.specs.declared.nearest.Nearest.{Nearest}
use Rattle.name_resolver.specs.declared.nearest.Nearest.TheVariants.{Nothing, Only, Several}
use Rattle.name_resolver.specs.Ways.{is_child, is_named, Way, here, down}
use Rattle.name_resolver.specs.LookUp.{Hit}
use Rattle.name_resolver.specs.Levels.{is_child_of, step_down, named}
use Rattle.name_resolver.proofs.Members.{Ascending, none, more, ascending_filter, ascending_numbers, in_filter, from_filter, in_numbers, got_below}
use Rattle.name_resolver.proofs.FirstWays.{has_in, in_has}
use Rattle.name_tables.specs.declared.label.Label.{Label}
use Rattle.name_tables.specs.declared.table.NameEntry.{NameEntry}
use Rattle.name_tables.specs.Labels.{label_below}
use Rattle.name_tables.specs.Tables.{Labels, Tells, IsEntry, named_among}
use Rattle.name_tables.specs.Children.{is_child_named, AreChildren, IsChild, told}
use Rattle.name_tables.proofs.Finding.{Hits, all_end, below_tells}
use Rattle.name_tables.proofs.Grouping.{filter_both, not_named}

not_true : (b : Bool) → (b ≡ true → ⊥) → b ≡ false
not_true true never = absurd (never refl)
not_true false never = refl

same_tests : (a b : Bool) → (a ≡ true → b ≡ true) → (b ≡ true → a ≡ true) → a ≡ b
same_tests true true into back = refl
same_tests true false into back = sym (into refl)
same_tests false true into back = back refl
same_tests false false into back = refl

both_true : (a b : Bool) → (a && b) ≡ true → (a ≡ true) × (b ≡ true)
both_true true b e = (refl, e)
both_true false b e = absurd (true≢false (sym e))

or_none : (a : Bool) → (a || false) ≡ a
or_none true = refl
or_none false = refl

and_or : (n a b : Bool) → (n && (a || b)) ≡ ((n && a) || (n && b))
and_or true a b = refl
and_or false a b = refl

-- ---- the children of one clafer

child_hit : (clafers : List Clafer) (name : List ℕ) (k e : ℕ) → is_child_named clafers name (k ∷ []) e ≡ true → Hit clafers k name (e ∷ []) e
child_hit clafers name k e met =
    let parts = both_true (is_named clafers name e) (is_child clafers k e || false) met in
    record { leads = down (sym (or_none (is_child clafers k e)) ∙ parts.1) here; some_step = omega arith; named = parts.0 }

no_step : (clafers : List Clafer) (m d : ℕ) (way : List ℕ) → Way clafers m way d → length way ≡ 0 → m ≡ d
no_step clafers m _ _ here long = refl
no_step clafers m d _ (down child w) long = absurd (omega (arith, long))

hit_child : (clafers : List Clafer) (name : List ℕ) (k d : ℕ) (way : List ℕ) → Way clafers k way d → length way ≡ 1 → is_named clafers name d ≡ true → is_child_named clafers name (k ∷ []) d ≡ true
hit_child clafers name k _ _ here long called = absurd (omega (arith, long))
hit_child clafers name k d _ (down {m = m} {ms = ms} child w) long called =
    let same : m ≡ d = no_step clafers m d ms w (omega (arith, long)) in
    let under : is_child clafers k d ≡ true = subst (λ (z : ℕ). is_child clafers k z ≡ true) same child in
    ap (λ b. b && (is_child clafers k d || false)) called ∙ ap (λ b. b || false) under

one_step : (clafers : List Clafer) (name : List ℕ) (k : ℕ) (l : Label) (o : Option ℕ) → l.only ≡ o → l.steps ≡ 1 → Labels (Hits clafers name k) l → IsChild clafers name k (option_map_or Only o Several)
one_step clafers name k l None e steps t = tt
one_step clafers name k l (Some d) e steps t = λ x.
    let s = t.shortest in
    let ends = all_end (Hits clafers name k) l.steps l.only d s.ends e in
    or_none (x == d)
    ∙ same_tests (x == d) (is_child_named clafers name (k ∷ []) x)
    (λ met. subst (λ (z : ℕ). is_child_named clafers name (k ∷ []) z ≡ true) (ends s.way s.end s.there s.long ∙ sym ((Decides-eqb x d).0 met))
    (hit_child clafers name k s.end s.way s.there.leads (s.long ∙ steps) s.there.named))
    (λ met. (Decides-eqb x d).1 (ends (x ∷ []) x (child_hit clafers name k x met) (sym steps)))

by_steps : (clafers : List Clafer) (name : List ℕ) (k : ℕ) (l : Label) (b : Bool) → (l.steps == 1) ≡ b → Labels (Hits clafers name k) l
    → IsChild clafers name k (if b then option_map_or Only l.only Several else Nothing)
by_steps clafers name k l true e t = one_step clafers name k l l.only refl ((Decides-eqb l.steps 1).0 e) t
by_steps clafers name k l false e t = λ x. sym (not_true (is_child_named clafers name (k ∷ []) x) (further x))
  where
    further : (x : ℕ) → is_child_named clafers name (k ∷ []) x ≡ true → ⊥
    further x met =
        let low = t.shortest.least (x ∷ []) x (child_hit clafers name k x met) in
        let long = t.long in
        let one : l.steps ≡ 1 = omega (arith, low, long) in
        true≢false (sym ((Decides-eqb l.steps 1).1 one) ∙ e)

told_tells : (clafers : List Clafer) (name : List ℕ) (k : ℕ) (o : Option Label) → Tells (Hits clafers name k) o → IsChild clafers name k (told o)
told_tells clafers name k None t = λ x. sym (not_true (is_child_named clafers name (k ∷ []) x) (λ met. t (x ∷ []) x (child_hit clafers name k x met)))
told_tells clafers name k (Some l) t = by_steps clafers name k l (l.steps == 1) refl t

-- what the code tells of the child of k
pub child_told : (clafers : List Clafer) (entry : NameEntry) (name : List ℕ) (k : ℕ) (o : Option Label) (r found : Nearest) → o ≡ label_below clafers entry.labels k → r ≡ told o → r ≡ found → IsEntry clafers name entry → IsChild clafers name k found
child_told clafers entry name k o r found at is case entered =
    subst (λ (z : Nearest). IsChild clafers name k z) (sym (is ∙ ap told at) ∙ case) (told_tells clafers name k (label_below clafers entry.labels k) (below_tells clafers entry.labels name entered.labels k))

-- ---- the children of one clafer more

pub children_more : (clafers : List Clafer) (name ks ds es : List ℕ) (k : ℕ) → AreChildren clafers name ks ds → AreChildren clafers name (k ∷ []) es → AreChildren clafers name (ks ++ k ∷ []) (ds ++ es)
children_more clafers name ks ds es k so own e =
    list_any-append (λ d. e == d) ds es ∙ ap (λ b. b || has es e) (so e) ∙ ap (λ b. is_child_named clafers name ks e || b) (own e)
    ∙ sym (ap (λ b. is_named clafers name e && b) (list_any-append (λ m. is_child clafers m e) ks (k ∷ [])) ∙ and_or (is_named clafers name e) (is_child_of clafers ks e) (is_child_of clafers (k ∷ []) e))

pub nobody_named : (clafers : List Clafer) (name ks : List ℕ) → named_among clafers name (length clafers) ≡ [] → AreChildren clafers name ks []
nobody_named clafers name ks nobody e = sym (ap (λ b. b && is_child_of clafers ks e) (not_true (is_named clafers name e) (λ met. not_named clafers name e nobody met)))

-- ---- rising lists of the same numbers

rising : (a x : ℕ) (xs : List ℕ) → a ≤ x → IsStrictlyIncreasing (x ∷ xs) → Ascending a (x ∷ xs)
rising a x [] le up = more le none
rising a x (y ∷ ys) le up =
    let above : x < y = up 0 (omega arith) in
    more le (rising (suc x) y ys (omega (arith, above))
    (λ k within. let e : suc k + 1 ≡ suc (k + 1) = omega arith in subst (λ n. get_or (y ∷ ys) k 0 < get_or (x ∷ y ∷ ys) n 0) e (up (suc k) (omega (arith, within)))))

ascending : (xs : List ℕ) → IsStrictlyIncreasing xs → Ascending 0 xs
ascending [] up = none
ascending (x ∷ xs) up = rising 0 x xs (omega arith) up

differ : (e x : ℕ) → e < x → (e == x) ≡ false
differ e x low = not_true (e == x) (λ met. let same : e ≡ x = (Decides-eqb e x).0 met in omega (arith, same, low))

not_below : (e a : ℕ) (xs : List ℕ) → Ascending a xs → e < a → has xs e ≡ false
not_below e a _ none low = refl
not_below e a _ (more {x = x} {xs = xs} le rest) low = ap (λ b. b || has xs e) (differ e x (omega (arith, low, le))) ∙ not_below e (suc x) xs rest (omega (arith, low, le))

at_least : (x y : ℕ) (ys : List ℕ) → Ascending (suc y) ys → has (y ∷ ys) x ≡ true → y ≤ x
at_least x y ys rest met = elim (cases_lt x y) [
  | inl low ↦ absurd (true≢false (sym met ∙ not_below x y (y ∷ ys) (more (omega arith) rest) low))
  | inr le ↦ le
]

has_first : (x : ℕ) (xs : List ℕ) → has (x ∷ xs) x ≡ true
has_first x xs = ap (λ b. b || has xs x) ((Decides-eqb x x).1 refl)

tails : (x y : ℕ) (xs ys : List ℕ) → x ≡ y → Ascending (suc x) xs → Ascending (suc y) ys → ((e : ℕ) → has (x ∷ xs) e ≡ has (y ∷ ys) e) → (e : ℕ) → has xs e ≡ has ys e
tails x y xs ys one rest other same e = elim (cases_lt x e) [
  | inl high ↦
      sym (ap (λ b. b || has xs e) (apart x high)) ∙ same e ∙ ap (λ b. b || has ys e) (apart y (omega (arith, high, one)))
  | inr le ↦ not_below e (suc x) xs rest (omega (arith, le)) ∙ sym (not_below e (suc y) ys other (omega (arith, le, one)))
]
  where
    apart : (z : ℕ) → z < e → (e == z) ≡ false
    apart z high = not_true (e == z) (λ met. let same : e ≡ z = (Decides-eqb e z).0 met in omega (arith, same, high))

alike : (a b : ℕ) (xs ys : List ℕ) → Ascending a xs → Ascending b ys → ((e : ℕ) → has xs e ≡ has ys e) → xs ≡ ys
alike a b _ _ none none same = refl
alike a b _ _ none (more {x = y} {xs = ys} le rest) same = absurd (true≢false (sym (has_first y ys) ∙ sym (same y)))
alike a b _ _ (more {x = x} {xs = xs} le rest) none same = absurd (true≢false (sym (has_first x xs) ∙ same x))
alike a b _ _ (more {x = x} {xs = xs} le rest) (more {x = y} {xs = ys} low other) same =
    let low_end = at_least x y ys other (sym (same x) ∙ has_first x xs) in
    let high_end = at_least y x xs rest (same y ∙ has_first y ys) in
    let one : x ≡ y = omega (arith, low_end, high_end) in
    ap (λ (zs : List ℕ). x ∷ zs) (alike (suc x) (suc y) xs ys rest other (tails x y xs ys one rest other same)) ∙ ap (λ (z : ℕ). z ∷ ys) one

-- ---- the list of the children

named_within : (clafers : List Clafer) (name : List ℕ) (d : ℕ) → is_named clafers name d ≡ true → d < length clafers
named_within clafers name d called = by (slice_get clafers d) refl called
  where
    by : (o : Option Clafer) → slice_get clafers d ≡ o → is_named clafers name d ≡ true → d < length clafers
    by None e h = absurd (true≢false (sym h ∙ ap (λ (z : Option Clafer). option_map_or (λ k. bytes_eq k.title.name name) z false) e))
    by (Some k) e h = got_below clafers d k e

as_filter : (clafers : List Clafer) (name ks : List ℕ) → named clafers name (step_down clafers ks) ≡ filter (is_child_named clafers name ks) (numbers_below (length clafers))
as_filter clafers name ks = filter_both (is_named clafers name) (is_child_of clafers ks) (numbers_below (length clafers))

filter_has : (clafers : List Clafer) (name ks : List ℕ) (e : ℕ) → has (filter (is_child_named clafers name ks) (numbers_below (length clafers))) e ≡ is_child_named clafers name ks e
filter_has clafers name ks e =
    let test = is_child_named clafers name ks in
    let n = length clafers in
    same_tests (has (filter test (numbers_below n)) e) (test e)
    (λ met. (from_filter test e (numbers_below n) (in_has (filter test (numbers_below n)) e met)).passes)
    (λ met. has_in (filter test (numbers_below n)) e (in_filter test e (numbers_below n) met (in_numbers n e (named_within clafers name e (both_true (is_named clafers name e) (is_child_of clafers ks e) met).0))))

-- in the order of the model they are the list of the definition
pub all_listed : (clafers : List Clafer) (name ks ds xs : List ℕ) → AreChildren clafers name ks ds → IsStrictlyIncreasing xs → ((e : ℕ) → has xs e ≡ has ds e) → xs ≡ named clafers name (step_down clafers ks)
all_listed clafers name ks ds xs are up same =
    let test = is_child_named clafers name ks in
    let n = length clafers in
    alike 0 0 xs (filter test (numbers_below n)) (ascending xs up) (ascending_filter test 0 (numbers_below n) (ascending_numbers n)) (λ e. same e ∙ are e ∙ sym (filter_has clafers name ks e))
    ∙ sym (as_filter clafers name ks)

-- ---- sorted, each once

pub sorted_once : (xs ys zs : List ℕ) → IsPermutation xs ys → zs ≡ dedup eqb ys → (e : ℕ) → has zs e ≡ has xs e
sorted_once xs ys zs moved is e =
    same_tests (has zs e) (has xs e)
    (λ met. has_here xs (Contains-permutation ys xs e (IsPermutation-sym xs ys moved) (Contains-from_dedup eqb ys e (subst (λ (l : List ℕ). Contains l e) is (contains zs met)))))
    (λ met. has_here zs (subst (λ (l : List ℕ). Contains l e) (sym is) (Contains-dedup_nat ys e (Contains-permutation xs ys e moved (contains xs met)))))
  where
    contains : (l : List ℕ) → has l e ≡ true → Contains l e
    contains l met = Contains-from_any (λ x y. (Decides-eqb x y).0) e l met

    has_here : (l : List ℕ) → Contains l e → has l e ≡ true
    has_here l in' = list_any-from_Contains nat_eq_equiv e l in'
