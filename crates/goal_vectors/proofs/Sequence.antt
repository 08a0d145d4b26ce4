-- The order of vectors, the better first.
use Rattle.std.proofs.Common.{◌≡◌, Bool, true, false, ◌&&◌, ◌⊎◌, inl, inr, List, [], ◌∷◌, length, refl, sym, subst, ◌∙◌, ℤ}
use Rattle.std.specs.Ordering.{int_eq}
use Rattle.std.proofs.lemmas.Bool.{true≢false}
use Rattle.std.proofs.lemmas.Bool.Decides.{Decides-int_eq}
use Rattle.goal_vectors.proofs.Truths.{by_truth, differ, or_left, or_right, or_first, or_second, or_none, or_either, and_left, and_right, and_rest, and_nor, both}
use Rattle.goal_vectors.proofs.Singles.{better_self, better_chain, neither_better_there}
use Rattle.goal_vectors.proofs.Vectors.{tails, not_longer, not_shorter, cons_same}
use Rattle.clf_tree.specs.Front.{better, before}

pub before_self : (ways : List Bool) (v : List ℤ) → before ways v v ≡ false
before_self [] v = refl
before_self (way ∷ ways) [] = refl
before_self (way ∷ ways) (x ∷ v) =
    or_none (better way x x) (int_eq x x && before ways v v) (better_self way x) (and_nor (int_eq x x) (before ways v v) (before_self ways v))

same_value : (x y : ℤ) (b : Bool) → (int_eq x y && b) ≡ true → x ≡ y
same_value x y b h = (Decides-int_eq x y).0 (and_left (int_eq x y) b h)

pub before_chain : (ways : List Bool) (u v w : List ℤ) → before ways u v ≡ true → before ways v w ≡ true → before ways u w ≡ true
before_chain [] u v w p q = absurd (true≢false (sym p))
before_chain (way ∷ ways) [] v w p q = absurd (true≢false (sym p))
before_chain (way ∷ ways) (x ∷ u) [] w p q = absurd (true≢false (sym p))
before_chain (way ∷ ways) (x ∷ u) (y ∷ v) [] p q = absurd (true≢false (sym q))
before_chain (way ∷ ways) (x ∷ u) (y ∷ v) (z ∷ w) p q =
    let later : Bool = int_eq x z && before ways u w in
    or_either (better way x y) (int_eq x y && before ways u v) p
    (λ xy. or_left (better way x z) later (or_either (better way y z) (int_eq y z && before ways v w) q
    (λ yz. better_chain way x y z xy yz)
    (λ r. subst (λ t. better way x t ≡ true) (same_value y z (before ways v w) r) xy)))
    (λ l. or_either (better way y z) (int_eq y z && before ways v w) q
    (λ yz. or_left (better way x z) later (subst (λ t. better way t z ≡ true) (sym (same_value x y (before ways u v) l)) yz))
    (λ r. or_right (better way x z) later (both (int_eq x z) (before ways u w)
    ((Decides-int_eq x z).1 (same_value x y (before ways u v) l ∙ same_value y z (before ways v w) r))
    (before_chain ways u v w (and_right (int_eq x y) (before ways u v) l) (and_right (int_eq y z) (before ways v w) r)))))

-- neither is before the other
pub not_apart : (ways : List Bool) (u v : List ℤ) → length ways ≡ length u → length u ≡ length v
    → before ways u v ≡ false → before ways v u ≡ false → u ≡ v
not_apart [] [] [] e f p q = refl
not_apart [] [] (y ∷ v) e f p q = not_longer y v f
not_apart [] (x ∷ u) v e f p q = not_longer x u e
not_apart (way ∷ ways) [] v e f p q = not_shorter way ways e
not_apart (way ∷ ways) (x ∷ u) [] e f p q = not_shorter x u f
not_apart (way ∷ ways) (x ∷ u) (y ∷ v) e f p q =
    let here : x ≡ y = neither_better_there way x y (or_first (better way x y) (int_eq x y && before ways u v) p) (or_first (better way y x) (int_eq y x && before ways v u) q) in
    cons_same here (not_apart ways u v (tails way x ways u e) (tails x y u v f)
    (sym (and_rest (int_eq x y) (before ways u v) ((Decides-int_eq x y).1 here)) ∙ or_second (better way x y) (int_eq x y && before ways u v) p)
    (sym (and_rest (int_eq y x) (before ways v u) ((Decides-int_eq y x).1 (sym here))) ∙ or_second (better way y x) (int_eq y x && before ways v u) q))

pub not_back : (ways : List Bool) (u v : List ℤ) → before ways u v ≡ true → before ways v u ≡ false
not_back ways u v t = by_truth (before ways v u) (λ s. differ (before ways u u) (before_chain ways u v u t s) (before_self ways u)) (λ n. n)

pub one_is_before : (ways : List Bool) (u v : List ℤ) → length ways ≡ length u → length u ≡ length v → (u ≡ v → ⊥)
    → ((before ways u v ≡ true) × (before ways v u ≡ false)) ⊎ ((before ways u v ≡ false) × (before ways v u ≡ true))
one_is_before ways u v e f different =
    by_truth (before ways u v)
    (λ t. inl (t, not_back ways u v t))
    (λ n. inr (n, by_truth (before ways v u) (λ t. t) (λ m. absurd (different (not_apart ways u v e f n m)))))
