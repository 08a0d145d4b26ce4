-- The way by first children is the one that is taken.
use Rattle.std.proofs.Common.{◌≡◌, ℕ, zero, suc, ◌<◌, ◌≤◌, Bool, true, false, ◌||◌, List, [], ◌∷◌, length, refl, ap, sym, subst, ◌∙◌, arith, ◌⊎◌, inl, inr}
use Rattle.std.specs.Prelude.{◌==◌, ◌&&◌, ltb}
use Rattle.std.specs.List.{filter, list_any}
use Rattle.std.proofs.lemmas.Bool.Decides.{Decides-ltb, Decides-eqb}
use Rattle.clf_tree.specs.declared.model.Clafer.{Clafer}
use Rattle.clf_tree.specs.Lists.{numbers_below, has}
use Rattle.name_resolver.specs.Ways.{is_child, children, Way, here, down}
use Rattle.name_resolver.specs.FirstWay.{goes_earlier, height, first_way, IsTaken}
use Rattle.name_resolver.proofs.Members.{In, first, in_filter, from_filter, in_numbers, any_in, in_any, nothing_in, head_or_later, Ascending, none, more, ascending_filter, ascending_numbers}
use Rattle.name_resolver.proofs.Straight.{child_below}

same_itself : (x : ℕ) → (x == x) ≡ true
same_itself x = (Decides-eqb x x).1 refl

pub has_in : (xs : List ℕ) (x : ℕ) → In x xs → has xs x ≡ true
has_in xs x i = any_in (λ y. x == y) x xs (same_itself x) i

pub in_has : (xs : List ℕ) (x : ℕ) → has xs x ≡ true → In x xs
in_has xs x met =
    let one = in_any (λ y. x == y) xs met in
    let same : x ≡ one.one = (Decides-eqb x one.one).0 one.passes in
    subst (λ z. In z xs) (sym same) one.there

pub record Up (clafers : List Clafer) (c k d : ℕ) : Type 0 where
  pub way : List ℕ
  pub leads : Way clafers c way d
  pub long : length way ≡ k

only_one : (c d : ℕ) → In c (d ∷ []) → c ≡ d
only_one c d i = elim (head_or_later i) [
  | inl same ↦ same
  | inr none' ↦ absurd (nothing_in c [] refl none')
]

pub up_leads : (clafers : List Clafer) (d k c : ℕ) → In c (height clafers (d ∷ []) k) → Up clafers c k d
up_leads clafers d zero c i = record { way = []; leads = subst (λ z. Way clafers z [] d) (sym (only_one c d i)) here; long = refl }
up_leads clafers d (suc k) c i =
    let kept = from_filter (λ p. list_any (is_child clafers p) (height clafers (d ∷ []) k)) c (numbers_below (length clafers)) i in
    let one = in_any (is_child clafers c) (height clafers (d ∷ []) k) kept.passes in
    let rest = up_leads clafers d k one.one one.there in
    record { way = one.one ∷ rest.way; leads = down one.passes rest.leads; long = ap suc rest.long }

pub leads_up : (clafers : List Clafer) (c : ℕ) (way : List ℕ) (d : ℕ) → c < length clafers → Way clafers c way d → In c (height clafers (d ∷ []) (length way))
leads_up clafers c _ _ within here = first
leads_up clafers c _ d within (down {m = m} {ms = ms} child w) =
    in_filter (λ p. list_any (is_child clafers p) (height clafers (d ∷ []) (length ms))) c (numbers_below (length clafers))
    (any_in (is_child clafers c) m (height clafers (d ∷ []) (length ms)) child (leads_up clafers m ms d (child_below clafers c m child) w))
    (in_numbers (length clafers) c within)

-- of the ways of k steps the first
record Best (clafers : List Clafer) (c k d : ℕ) (way : List ℕ) : Type 0 where
  leads : Way clafers c way d
  long : length way ≡ k
  before : (other : List ℕ) → Way clafers c other d → length other ≡ k → goes_earlier way other ≡ true

-- the children of c from which k steps lead to d
abbrev firsts : List Clafer → ℕ → ℕ → ℕ → List ℕ
firsts clafers d k c = filter (has (height clafers (d ∷ []) k)) (children clafers c)

in_firsts : (clafers : List Clafer) (d k c m : ℕ) (ms : List ℕ) → is_child clafers c m ≡ true → Way clafers m ms d → length ms ≡ k → In m (firsts clafers d k c)
in_firsts clafers d k c m ms child w long =
    in_filter (has (height clafers (d ∷ []) k)) m (children clafers c)
    (has_in (height clafers (d ∷ []) k) m (subst (λ j. In m (height clafers (d ∷ []) j)) long (leads_up clafers m ms d (child_below clafers c m child) w)))
    (in_filter (is_child clafers c) m (numbers_below (length clafers)) child (in_numbers (length clafers) m (child_below clafers c m child)))

above_head : (a m y : ℕ) (ms : List ℕ) → Ascending a ms → In y ms → a ≤ y
above_head a m y ms asc i = below a ms asc i
  where
    below : (b : ℕ) (xs : List ℕ) → Ascending b xs → In y xs → b ≤ y
    below b _ none j = absurd (nothing_in y [] refl j)
    below b _ (more {x = x} {xs = xs} le rest) j = elim (head_or_later j) [
      | inl same ↦ omega (arith, same, le)
      | inr j' ↦ let later' = below (suc x) xs rest j' in omega (arith, later', le)
    ]

tail_above : (a m : ℕ) (ms : List ℕ) → Ascending a (m ∷ ms) → Ascending (suc m) ms
tail_above a m ms (more le rest) = rest

or_by : (a b : Bool) → a ≡ true → (a || b) ≡ true
or_by a b e = ap (λ z. z || b) e

or_right : (a b : Bool) → b ≡ true → (a || b) ≡ true
or_right true b e = refl
or_right false b e = e

earlier_by : (m y : ℕ) (ms ys : List ℕ) → (y ≡ m) ⊎ (m < y) → (y ≡ m → goes_earlier ms ys ≡ true) → goes_earlier (m ∷ ms) (y ∷ ys) ≡ true
earlier_by m y ms ys (inr less) rest = or_by (ltb m y) _ ((Decides-ltb m y).1 less)
earlier_by m y ms ys (inl same) rest =
    or_right (ltb m y) _ (ap (λ b. b && goes_earlier ms ys) ((Decides-eqb m y).1 (sym same)) ∙ rest same)

before_others : (clafers : List Clafer) (d k c m : ℕ) (ms way : List ℕ) → firsts clafers d k c ≡ m ∷ ms → Best clafers m k d way
    → (other : List ℕ) → Way clafers c other d → length other ≡ suc k → goes_earlier (m ∷ way) other ≡ true
before_others clafers d k c m ms way found best _ here long = absurd (omega (arith, long))
before_others clafers d k c m ms way found best _ (down {m = y} {ms = ys} child w) long =
    let small : length ys ≡ k = omega (arith, long) in
    let asc = subst (Ascending 0) found (ascending_filter (has (height clafers (d ∷ []) k)) 0 _ (ascending_filter (is_child clafers c) 0 _ (ascending_numbers (length clafers)))) in
    earlier_by m y way ys
    (elim (head_or_later (subst (In y) found (in_firsts clafers d k c y ys child w small))) [
      | inl same ↦ inl same
      | inr i ↦ inr (above_head (suc m) m y ms (tail_above 0 m ms asc) i)
    ])
    (λ same. best.before ys (subst (λ z. Way clafers z ys d) same w) small)

best_by : (clafers : List Clafer) (d k c : ℕ) (found : List ℕ) → firsts clafers d k c ≡ found → (other : List ℕ) → Way clafers c other d → length other ≡ suc k
    → ((m : ℕ) (ways : List ℕ) → Way clafers m ways d → length ways ≡ k → Best clafers m k d (first_way clafers d k m))
    → Best clafers c (suc k) d (first_way clafers d (suc k) c)
best_by clafers d k c [] found _ here long rest = absurd (omega (arith, long))
best_by clafers d k c [] found _ (down {m = m} {ms = ms} child w) long rest =
    let small : length ms ≡ k = omega (arith, long) in
    absurd (nothing_in m _ found (in_firsts clafers d k c m ms child w small))
best_by clafers d k c (m ∷ ms) found other w long rest =
    let kept = from_filter (has (height clafers (d ∷ []) k)) m (children clafers c) (subst (In m) (sym found) first) in
    let child = from_filter (is_child clafers c) m (numbers_below (length clafers)) kept.was in
    let up = up_leads clafers d k m (in_has (height clafers (d ∷ []) k) m kept.passes) in
    let best = rest m up.way up.leads up.long in
    rw found (record {
      leads = down child.passes best.leads;
      long = ap suc best.long;
      before = before_others clafers d k c m ms (first_way clafers d k m) found best;
    })

best : (clafers : List Clafer) (d k c : ℕ) (other : List ℕ) → Way clafers c other d → length other ≡ k → Best clafers c k d (first_way clafers d k c)
best clafers d zero c _ here long = record { leads = here; long = refl; before = λ o w l. refl }
best clafers d zero c _ (down child w) long = absurd (omega (arith, long))
best clafers d (suc k) c other w long = best_by clafers d k c _ refl other w long (best clafers d k)

-- where k steps lead from c to d and no fewer do, the way by first children is the one that is taken
pub first_way_taken : (clafers : List Clafer) (c d k : ℕ) (way : List ℕ) → Way clafers c way d → length way ≡ k → 1 ≤ k
    → ((other : List ℕ) → Way clafers c other d → 1 ≤ length other → k ≤ length other) → IsTaken clafers c (first_way clafers d k c) d
first_way_taken clafers c d k way w long some least =
    let b = best clafers d k c way w long in
    record {
      leads = b.leads;
      some_step = subst (λ j. 1 ≤ j) (sym b.long) some;
      shortest = λ other v s. subst (λ j. j ≤ length other) (sym b.long) (least other v s);
      first = λ other v e. b.before other v (e ∙ b.long);
    }
