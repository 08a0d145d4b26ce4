-- A way on which no clafer comes twice.
use Rattle.std.proofs.Common.{◌≡◌, ◌≢◌, ℕ, ◌<◌, Bool, true, false, ◌||◌, List, [], ◌∷◌, length, Option, Some, None, refl, ap, sym, subst, ◌∙◌, arith, ◌⊎◌, inl, inr}
use Rattle.std.specs.Prelude.{slice_get, eqb}
use Rattle.std.specs.Option.{option_map_or, option_and_then}
use Rattle.std.specs.List.{list_any, IsDistinct, AllByRecursion}
use Rattle.std.proofs.lemmas.Map.Steps.{length-le_from_distinct_below}
use Rattle.std.proofs.lemmas.Bool.Decides.{eqb_tells}
use Rattle.std.proofs.lemmas.Bool.{true≢false}
use Rattle.clf_tree.specs.declared.model.Clafer.{Clafer}
use Rattle.clf_tree.specs.Hierarchy.{is_a}
use Rattle.name_resolver.specs.Ways.{is_child, Way, here, down}
use Rattle.name_resolver.proofs.Members.{got_below}

child_found : (clafers : List Clafer) (c d : ℕ) (k : Option Clafer) → slice_get clafers d ≡ k → option_map_or (is_a clafers c) (option_and_then (λ x. x.parent) k) false ≡ true → d < length clafers
child_found clafers c d None e pass = absurd (true≢false (sym pass))
child_found clafers c d (Some k) e pass = got_below clafers d k e

pub child_below : (clafers : List Clafer) (c d : ℕ) → is_child clafers c d ≡ true → d < length clafers
child_below clafers c d pass = child_found clafers c d _ refl pass

record Rest (clafers : List Clafer) (ps : List ℕ) (c d : ℕ) : Type 0 where
  tail : List ℕ
  way : Way clafers c tail d
  distinct : IsDistinct eqb ps → IsDistinct eqb (c ∷ tail)

choose : (clafers : List Clafer) (c m d : ℕ) (ds : List ℕ) → Way clafers m ds d
    → ((eqb c m ≡ true) × (c ≡ m)) ⊎ ((eqb c m ≡ false) × (c ≢ m)) → list_any (eqb c) (m ∷ ds) ≡ true
    → (list_any (eqb c) ds ≡ true → Rest clafers ds c d) → Rest clafers (m ∷ ds) c d
unfolding IsDistinct
choose clafers c m d ds whole (inl h) met rest = record {
  tail = ds;
  way = subst (λ z. Way clafers z ds d) (sym h.1) whole;
  distinct = λ p. subst (λ z. IsDistinct eqb (z ∷ ds)) (sym h.1) p;
}
choose clafers c m d ds whole (inr h) met rest =
    let r = rest (ap (λ b. b || list_any (eqb c) ds) (sym h.0) ∙ met) in
    record { tail = r.tail; way = r.way; distinct = λ p. r.distinct p.1 }

rest_from : (clafers : List Clafer) (m : ℕ) (ds : List ℕ) (d c : ℕ) → Way clafers m ds d → list_any (eqb c) (m ∷ ds) ≡ true → Rest clafers (m ∷ ds) c d
rest_from clafers m _ _ c here met = choose clafers c m m [] here (eqb_tells c m) met (λ e. absurd (true≢false (sym e)))
rest_from clafers m _ d c (down {m = x} {ms = ds} child w) met =
    choose clafers c m d (x ∷ ds) (down child w) (eqb_tells c m) met (rest_from clafers x ds d c w)

record Straight (clafers : List Clafer) (c d : ℕ) : Type 0 where
  tail : List ℕ
  way : Way clafers c tail d
  distinct : IsDistinct eqb (c ∷ tail)

both_false : (a b : Bool) → (a || b) ≡ false → (a ≡ false) × (b ≡ false)
both_false true b h = absurd (true≢false h)
both_false false b h = (refl, h)

none_equal : (c : ℕ) (xs : List ℕ) → list_any (eqb c) xs ≡ false → AllByRecursion (λ y. eqb c y ≡ false) xs
none_equal c [] h = tt
none_equal c (x ∷ xs) h =
    let parts = both_false (eqb c x) (list_any (eqb c) xs) h in (parts.0, none_equal c xs parts.1)

straight_more : (clafers : List Clafer) (c m d : ℕ) → is_child clafers c m ≡ true → (s : Straight clafers m d) (b : Bool) → list_any (eqb c) (m ∷ s.tail) ≡ b → Straight clafers c d
unfolding IsDistinct
straight_more clafers c m d child s true met =
    let r = rest_from clafers m s.tail d c s.way met in record { tail = r.tail; way = r.way; distinct = r.distinct s.distinct }
straight_more clafers c m d child s false met = record { tail = m ∷ s.tail; way = down child s.way; distinct = (none_equal c (m ∷ s.tail) met, s.distinct) }

straight : (clafers : List Clafer) (c : ℕ) (ds : List ℕ) (d : ℕ) → Way clafers c ds d → Straight clafers c d
unfolding IsDistinct
straight clafers c _ _ here = record { tail = []; way = here; distinct = (tt, tt) }
straight clafers c _ d (down {m = m} {ms = ds} child w) = straight_more clafers c m d child (straight clafers m ds d w) _ refl

is_first : (n q c : ℕ) (b : Bool) → ((eqb q c ≡ true) × (q ≡ c)) ⊎ ((eqb q c ≡ false) × (q ≢ c)) → c < n → (b ≡ true → q < n) → (eqb q c || b) ≡ true → q < n
is_first n q c b (inl h) first rest met = subst (λ z. z < n) (sym h.1) first
is_first n q c b (inr h) first rest met = rest (ap (λ z. z || b) (sym h.0) ∙ met)

way_below : (clafers : List Clafer) (c : ℕ) (ds : List ℕ) (d : ℕ) → c < length clafers → Way clafers c ds d → (q : ℕ) → list_any (eqb q) (c ∷ ds) ≡ true → q < length clafers
way_below clafers c _ _ within here q met = is_first (length clafers) q c false (eqb_tells q c) within (λ e. absurd (true≢false (sym e))) met
way_below clafers c _ d within (down {m = m} {ms = ds} child w) q met =
    is_first (length clafers) q c (list_any (eqb q) (m ∷ ds)) (eqb_tells q c) within (way_below clafers m ds d (child_below clafers c m child) w q) met

-- where a way leads, one of fewer steps than there are clafers leads
pub record Short (clafers : List Clafer) (c d : ℕ) : Type 0 where
  pub tail : List ℕ
  pub way : Way clafers c tail d
  pub few : length tail < length clafers

pub short : (clafers : List Clafer) (c : ℕ) (ds : List ℕ) (d : ℕ) → c < length clafers → Way clafers c ds d → Short clafers c d
short clafers c ds d within w =
    let s = straight clafers c ds d w in
    let few = length-le_from_distinct_below (c ∷ s.tail) (length clafers) s.distinct (way_below clafers c s.tail d within s.way) in
    record { tail = s.tail; way = s.way; few = omega (arith, few) }
