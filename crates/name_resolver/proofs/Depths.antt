-- The levels below a clafer, and what the first of them that has a name tells.
use Rattle.std.proofs.Common.{◌≡◌, ℕ, zero, suc, ◌-◌, ◌<◌, ◌≤◌, true, List, [], ◌∷◌, length, refl, ap, sym, subst, ◌∙◌, arith, inl, inr}
use Rattle.std.proofs.lemmas.Bool.Decides.{leb_tells}
use Rattle.clf_tree.specs.declared.model.Clafer.{Clafer}
use Rattle.clf_tree.specs.Lists.{numbers_below}
use Rattle.name_resolver.specs.declared.nearest.Nearest.{Nearest}
use Rattle.name_resolver.specs.declared.nearest.Nearest.TheVariants.{Nothing}
use Rattle.name_resolver.specs.Ways.{is_child, children, is_named, Way, here, down}
use Rattle.name_resolver.specs.LookUp.{Hit, IsShortest, IsNearest}
use Rattle.name_resolver.specs.LookUp as result
use Rattle.name_resolver.specs.Levels.{is_child_of, step_down, depth, named, among, or_further, first_level}
use Rattle.name_resolver.proofs.Members.{In, first, later, in_filter, from_filter, in_numbers, any_in, in_any, nothing_in, only_in, Ascending, ascending_filter, ascending_numbers, first_two}
use Rattle.name_resolver.proofs.Straight.{child_below, short}

-- a way of k steps from a clafer of ms
record Led (clafers : List Clafer) (ms : List ℕ) (k d : ℕ) : Type 0 where
  from : ℕ
  there : In from ms
  way : List ℕ
  leads : Way clafers from way d
  long : length way ≡ k

led : (clafers : List Clafer) (ms : List ℕ) (k d : ℕ) → In d (depth clafers ms k) → Led clafers ms k d
led clafers ms zero d i = record { from = d; there = i; way = []; leads = here; long = refl }
led clafers ms (suc k) d i =
    let l = led clafers (step_down clafers ms) k d i in
    let kept = from_filter (is_child_of clafers ms) l.from (numbers_below (length clafers)) l.there in
    let one = in_any (λ m. is_child clafers m l.from) ms kept.passes in
    record { from = one.one; there = one.there; way = l.from ∷ l.way; leads = down one.passes l.leads; long = ap suc l.long }

met : (clafers : List Clafer) (ms : List ℕ) (m : ℕ) (way : List ℕ) (d : ℕ) → In m ms → Way clafers m way d → In d (depth clafers ms (length way))
met clafers ms m _ _ i here = i
met clafers ms m _ d i (down {m = x} {ms = ds} child w) =
    met clafers (step_down clafers ms) x ds d
    (in_filter (is_child_of clafers ms) x (numbers_below (length clafers)) (any_in (λ n. is_child clafers n x) m ms child i) (in_numbers (length clafers) x (child_below clafers m x child))) w

-- among n levels from ms on: none of the name, or the first that has some
pub data Stops (clafers : List Clafer) (name : List ℕ) (ms : List ℕ) (n : ℕ) (r : Nearest) : Type 0 where
  none : r ≡ Nothing → ((j : ℕ) → j < n → named clafers name (depth clafers ms j) ≡ []) → Stops clafers name ms n r
  at : (j d : ℕ) (rest : List ℕ) → ((i : ℕ) → i < j → named clafers name (depth clafers ms i) ≡ []) → named clafers name (depth clafers ms j) ≡ d ∷ rest
      → among (d ∷ rest) ≡ r → Stops clafers name ms n r

some_found : (d : ℕ) (rest : List ℕ) (further : Nearest) → or_further (among (d ∷ rest)) further ≡ among (d ∷ rest)
some_found d [] further = refl
some_found d (e ∷ rest) further = refl

shifted : (clafers : List Clafer) (name ms : List ℕ) (n : ℕ) → named clafers name ms ≡ []
    → ((j : ℕ) → j < n → named clafers name (depth clafers (step_down clafers ms) j) ≡ []) → (j : ℕ) → j < suc n → named clafers name (depth clafers ms j) ≡ []
shifted clafers name ms n nil rest zero below = nil
shifted clafers name ms n nil rest (suc j) below = rest j (omega (arith, below))

stops_later : (clafers : List Clafer) (name ms : List ℕ) (n : ℕ) (r : Nearest) → named clafers name ms ≡ [] → Stops clafers name (step_down clafers ms) n r → Stops clafers name ms (suc n) r
stops_later clafers name ms n r nil (none is all) = none is (shifted clafers name ms n nil all)
stops_later clafers name ms n r nil (at j d rest before found is) = at (suc j) d rest (shifted clafers name ms j nil before) found is

stops_by : (clafers : List Clafer) (name ms : List ℕ) (n : ℕ) (here : List ℕ) → named clafers name ms ≡ here
    → Stops clafers name (step_down clafers ms) n (first_level clafers name n (step_down clafers ms))
    → Stops clafers name ms (suc n) (or_further (among here) (first_level clafers name n (step_down clafers ms)))
stops_by clafers name ms n [] e rest = stops_later clafers name ms n _ e rest
stops_by clafers name ms n (d ∷ ds) e rest = at 0 d ds (λ i l. absurd (omega (arith, l))) e (sym (some_found d ds _))

stops : (clafers : List Clafer) (name : List ℕ) (n : ℕ) (ms : List ℕ) → Stops clafers name ms n (first_level clafers name n ms)
stops clafers name zero ms = none refl (λ j l. absurd (omega (arith, l)))
stops clafers name (suc n) ms = stops_by clafers name ms n (named clafers name ms) refl (stops clafers name n (step_down clafers ms))

-- what a way of n + 1 steps leads to is on that level
hit_by : (clafers : List Clafer) (name : List ℕ) (n c : ℕ) (way : List ℕ) (d : ℕ) → Way clafers c way d → length way ≡ suc n → is_named clafers name d ≡ true
    → In d (named clafers name (depth clafers (children clafers c) n))
hit_by clafers name n c _ _ here l pass = absurd (omega (arith, l))
hit_by clafers name n c _ d (down {m = m} {ms = ds} child w) l pass =
    let same : length ds ≡ n = omega (arith, l) in
    in_filter (is_named clafers name) d _ pass
    (subst (λ k. In d (depth clafers (children clafers c) k)) same
    (met clafers (children clafers c) m ds d (in_filter (is_child clafers c) m (numbers_below (length clafers)) child (in_numbers (length clafers) m (child_below clafers c m child))) w))

record Early (clafers : List Clafer) (name : List ℕ) (c d : ℕ) : Type 0 where
  level : ℕ
  few : level < length clafers
  there : In d (named clafers name (depth clafers (children clafers c) level))

-- what a way leads to is on one of the first levels
early : (clafers : List Clafer) (name : List ℕ) (c : ℕ) (way : List ℕ) (d : ℕ) → Way clafers c way d → 1 ≤ length way → is_named clafers name d ≡ true → Early clafers name c d
early clafers name c _ _ here l pass = absurd (omega (arith, l))
early clafers name c _ d (down {m = m} {ms = ds} child w) l pass =
    let s = short clafers m ds d (child_below clafers c m child) w in
    record { level = length s.tail; few = s.few; there = hit_by clafers name (length s.tail) c (m ∷ s.tail) d (down child s.way) refl pass }

record Leveled (clafers : List Clafer) (c : ℕ) (name : List ℕ) (n d : ℕ) : Type 0 where
  way : List ℕ
  hit : Hit clafers c name way d
  long : length way ≡ suc n

-- what is named on a level is hit by a way
leveled : (clafers : List Clafer) (c : ℕ) (name : List ℕ) (n d : ℕ) → In d (named clafers name (depth clafers (children clafers c) n)) → Leveled clafers c name n d
leveled clafers c name n d i =
    let kept = from_filter (is_named clafers name) d _ i in
    let l = led clafers (children clafers c) n d kept.was in
    let child = from_filter (is_child clafers c) l.from _ l.there in
    let long : length (l.from ∷ l.way) ≡ suc n = ap suc l.long in
    record { way = l.from ∷ l.way; hit = record { leads = down child.passes l.leads; some_step = omega (arith, long); named = kept.passes }; long = long }

shortest : (clafers : List Clafer) (c : ℕ) (name way : List ℕ) (j : ℕ) → length way ≡ suc j
    → ((i : ℕ) → i < j → named clafers name (depth clafers (children clafers c) i) ≡ []) → IsShortest clafers c name way
shortest clafers c name way j long before other e hit = elim (leb_tells (length way) (length other)) [
  | inl h ↦ h.1
  | inr h ↦
      let step = hit.some_step in
      absurd (nothing_in e _ (before (length other - 1) (omega (arith, h.1, long, step))) (hit_by clafers name (length other - 1) c other e hit.leads (omega (arith, step)) hit.named))
]

at_level : (clafers : List Clafer) (c : ℕ) (name : List ℕ) (j d : ℕ) (rest : List ℕ) → ((i : ℕ) → i < j → named clafers name (depth clafers (children clafers c) i) ≡ [])
    → (level : List ℕ) → named clafers name (depth clafers (children clafers c) j) ≡ level → Ascending 0 level → level ≡ d ∷ rest → IsNearest clafers c name (among (d ∷ rest))
at_level clafers c name j d [] before level is asc found =
    let l = leveled clafers c name j d (subst (In d) (sym (is ∙ found)) first) in
    result.only l.way l.hit (shortest clafers c name l.way j l.long before)
    (λ other e hit same. only_in d e _ (is ∙ found) (hit_by clafers name j c other e hit.leads (same ∙ l.long) hit.named))
at_level clafers c name j d (e ∷ rest) before level is asc found =
    let l = leveled clafers c name j d (subst (In d) (sym (is ∙ found)) first) in
    let m = leveled clafers c name j e (subst (In e) (sym (is ∙ found)) (later first)) in
    let below = first_two 0 d e rest level asc found in
    result.several d e l.way m.way l.hit (shortest clafers c name l.way j l.long before) m.hit (m.long ∙ sym l.long) (omega (arith, below))

ascending_depth : (clafers : List Clafer) (ms : List ℕ) (k : ℕ) → Ascending 0 ms → Ascending 0 (depth clafers ms k)
ascending_depth clafers ms zero asc = asc
ascending_depth clafers ms (suc k) asc = ascending_depth clafers (step_down clafers ms) k (ascending_filter (is_child_of clafers ms) 0 _ (ascending_numbers (length clafers)))

by_stops : (clafers : List Clafer) (c : ℕ) (name : List ℕ) (r : Nearest) → Stops clafers name (children clafers c) (length clafers) r → IsNearest clafers c name r
by_stops clafers c name r (none is all) =
    subst (IsNearest clafers c name) (sym is)
    (result.nothing (λ way d hit. let s = early clafers name c way d hit.leads hit.some_step hit.named in nothing_in d _ (all s.level s.few) s.there))
by_stops clafers c name r (at j d rest before found is) =
    subst (IsNearest clafers c name) is
    (at_level clafers c name j d rest before _ refl
    (ascending_filter (is_named clafers name) 0 _ (ascending_depth clafers (children clafers c) j (ascending_filter (is_child clafers c) 0 _ (ascending_numbers (length clafers))))) found)

-- the first level below a clafer that has the name tells what the name means there
pub nearest_by_levels : (clafers : List Clafer) (c : ℕ) (name : List ℕ) (r : Nearest) → first_level clafers name (length clafers) (children clafers c) ≡ r → IsNearest clafers c name r
nearest_by_levels clafers c name r is = by_stops clafers c name r (subst (Stops clafers name (children clafers c) (length clafers)) is (stops clafers name (length clafers) (children clafers c)))
