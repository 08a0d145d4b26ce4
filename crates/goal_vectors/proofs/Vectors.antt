-- Two vectors: better somewhere, and dominance.
use Rattle.std.proofs.Common.{◌≡◌, Bool, true, false, not, List, [], ◌∷◌, length, refl, sym, ap, ◌∙◌, arith, ℤ}
use Rattle.std.proofs.lemmas.Bool.{true≢false}
use Rattle.goal_vectors.proofs.Truths.{by_truth, differ, or_left, or_right, or_first, or_second, or_none, or_either, and_left, and_right, both, not_false, not_true}
use Rattle.goal_vectors.proofs.Singles.{better_self, better_more, neither_better_there}
use Rattle.clf_tree.specs.Front.{better, is_better_somewhere, dominates}

pub tails : {X Y : Type 0} (x : X) (y : Y) (xs : List X) (ys : List Y) → length (x ∷ xs) ≡ length (y ∷ ys) → length xs ≡ length ys
tails x y xs ys e = omega (arith, e)

pub not_longer : {Y P : Type 0} (y : Y) (ys : List Y) → 0 ≡ length (y ∷ ys) → P
not_longer y ys e = absurd (omega (arith, e))

pub not_shorter : {X P : Type 0} (x : X) (xs : List X) → length (x ∷ xs) ≡ 0 → P
not_shorter x xs e = absurd (omega (arith, e))

pub cons_same : {X : Type 0} {x y : X} {xs ys : List X} → x ≡ y → xs ≡ ys → x ∷ xs ≡ y ∷ ys
cons_same {y = y} {xs = xs} e f = ap (λ z. z ∷ xs) e ∙ ap (λ t. y ∷ t) f

pub same_not_better : (ways : List Bool) (v : List ℤ) → is_better_somewhere ways v v ≡ false
same_not_better [] v = refl
same_not_better (way ∷ ways) [] = refl
same_not_better (way ∷ ways) (x ∷ v) = or_none (better way x x) (is_better_somewhere ways v v) (better_self way x) (same_not_better ways v)

-- u is at least as good as v, and v is better somewhere than f
pub carries : (ways : List Bool) (u v f : List ℤ) → length u ≡ length v
    → is_better_somewhere ways v u ≡ false → is_better_somewhere ways v f ≡ true → is_better_somewhere ways u f ≡ true
carries [] u v f e p q = absurd (true≢false (sym q))
carries (way ∷ ways) u [] f e p q = absurd (true≢false (sym q))
carries (way ∷ ways) u (y ∷ v) [] e p q = absurd (true≢false (sym q))
carries (way ∷ ways) [] (y ∷ v) (z ∷ f) e p q = not_longer y v e
carries (way ∷ ways) (x ∷ u) (y ∷ v) (z ∷ f) e p q =
    or_either (better way y z) (is_better_somewhere ways v f) q
    (λ here. or_left (better way x z) (is_better_somewhere ways u f) (better_more way x y z (or_first (better way y x) (is_better_somewhere ways v u) p) here))
    (λ there. or_right (better way x z) (is_better_somewhere ways u f) (carries ways u v f (tails x y u v e) (or_second (better way y x) (is_better_somewhere ways v u) p) there))

-- v is nowhere better than u, and u nowhere better than w
pub no_worse_chain : (ways : List Bool) (u v w : List ℤ) → length u ≡ length v
    → is_better_somewhere ways v u ≡ false → is_better_somewhere ways u w ≡ false → is_better_somewhere ways v w ≡ false
no_worse_chain ways u v w e p q =
    by_truth (is_better_somewhere ways v w) (λ t. differ (is_better_somewhere ways u w) (carries ways u v w e p t) q) (λ n. n)

-- w is better somewhere than u, and c nowhere better than u
pub outdoes : (ways : List Bool) (w u c : List ℤ) → length c ≡ length w
    → is_better_somewhere ways w u ≡ true → is_better_somewhere ways c u ≡ false → is_better_somewhere ways w c ≡ true
outdoes ways w u c e p q =
    by_truth (is_better_somewhere ways w c) (λ t. t) (λ n. differ (is_better_somewhere ways c u) (carries ways c w u e n p) q)

pub neither_better : (ways : List Bool) (u v : List ℤ) → length ways ≡ length u → length u ≡ length v
    → is_better_somewhere ways u v ≡ false → is_better_somewhere ways v u ≡ false → u ≡ v
neither_better [] [] [] e f p q = refl
neither_better [] [] (y ∷ v) e f p q = not_longer y v f
neither_better [] (x ∷ u) v e f p q = not_longer x u e
neither_better (way ∷ ways) [] v e f p q = not_shorter way ways e
neither_better (way ∷ ways) (x ∷ u) [] e f p q = not_shorter x u f
neither_better (way ∷ ways) (x ∷ u) (y ∷ v) e f p q =
    cons_same
    (neither_better_there way x y (or_first (better way x y) (is_better_somewhere ways u v) p) (or_first (better way y x) (is_better_somewhere ways v u) q))
    (neither_better ways u v (tails way x ways u e) (tails x y u v f) (or_second (better way x y) (is_better_somewhere ways u v) p) (or_second (better way y x) (is_better_somewhere ways v u) q))

pub not_worse : (ways : List Bool) (u v : List ℤ) → dominates ways u v ≡ true → is_better_somewhere ways v u ≡ false
not_worse ways u v h = not_false (is_better_somewhere ways v u) (and_left (not (is_better_somewhere ways v u)) (is_better_somewhere ways u v) h)

pub is_better : (ways : List Bool) (u v : List ℤ) → dominates ways u v ≡ true → is_better_somewhere ways u v ≡ true
is_better ways u v h = and_right (not (is_better_somewhere ways v u)) (is_better_somewhere ways u v) h

pub dominating : (ways : List Bool) (u v : List ℤ) → is_better_somewhere ways v u ≡ false → is_better_somewhere ways u v ≡ true → dominates ways u v ≡ true
dominating ways u v p q = both (not (is_better_somewhere ways v u)) (is_better_somewhere ways u v) (not_true (is_better_somewhere ways v u) p) q

pub none_dominates_itself : (ways : List Bool) (v : List ℤ) → dominates ways v v ≡ false
none_dominates_itself ways v =
    by_truth (dominates ways v v) (λ t. differ (is_better_somewhere ways v v) (is_better ways v v t) (same_not_better ways v)) (λ n. n)

pub dominance_chain : (ways : List Bool) (u v w : List ℤ) → length u ≡ length v → length v ≡ length w
    → dominates ways u v ≡ true → dominates ways v w ≡ true → dominates ways u w ≡ true
dominance_chain ways u v w e f p q =
    dominating ways u w
    (by_truth (is_better_somewhere ways w u)
    (λ t. differ (is_better_somewhere ways v u) (carries ways v w u f (not_worse ways v w q) t) (not_worse ways u v p))
    (λ n. n))
    (carries ways u v w e (not_worse ways u v p) (is_better ways v w q))
