-- A vector that dominates another has less left.
use Rattle.std.proofs.Common.{◌≡◌, ℕ, ◌+◌, ◌<◌, ◌≤◌, ◌^◌, Bool, true, false, List, [], ◌∷◌}
use Rattle.std.proofs.Common.{length, sym, arith, ℤ, pos, negsuc, neg_ℤ, ◌+ℤ◌, ◌-ℤ◌, ◌≤ℤ◌, ◌<ℤ◌}
use Rattle.std.specs.Prelude.{int_le}
use Rattle.std.specs.List.{list_all}
use Rattle.std.proofs.lemmas.Bool.{true≢false}
use Rattle.std.proofs.lemmas.Int.{ints}
use Rattle.clf_tree.specs.Front.{better, is_better_somewhere}
use Rattle.goal_vectors.proofs.Truths.{or_either, or_first, or_second, and_left, and_right}
use Rattle.goal_vectors.proofs.Vectors.{tails, not_shorter}
use Rattle.pareto_loop.specs.Gaps.{is_small, natural, left, gap}

natural_rises : (a b : ℤ) → a ≤ℤ b → natural a ≤ natural b
natural_rises (pos m) (pos n) h = omega (arith, ints, h)
natural_rises (pos m) (negsuc n) h = absurd (omega (arith, ints, h))
natural_rises (negsuc m) b h = omega arith

natural_grows : (a b : ℤ) → pos 0 ≤ℤ a → a <ℤ b → natural a < natural b
natural_grows (pos m) (pos n) l h = omega (arith, ints, l, h)
natural_grows (pos m) (negsuc n) l h = absurd (omega (arith, ints, l, h))
natural_grows (negsuc m) b l h = absurd (omega (arith, ints, l))

-- no more is left where it is no worse
left_no_more : (way : Bool) (x y : ℤ) → better way y x ≡ false → left way x ≤ left way y
left_no_more true x y h = natural_rises (x +ℤ pos (2 ^ 61)) (y +ℤ pos (2 ^ 61)) (omega (arith, ints, h))
left_no_more false x y h = natural_rises (pos (2 ^ 61) -ℤ x) (pos (2 ^ 61) -ℤ y) (omega (arith, ints, h))

above : (x : ℤ) → is_small x ≡ true → neg_ℤ (pos (2 ^ 61)) ≤ℤ x
above x h = let p = and_left (int_le (neg_ℤ (pos (2 ^ 61))) x) (int_le x (pos (2 ^ 61))) h in omega (arith, ints, p)

below : (x : ℤ) → is_small x ≡ true → x ≤ℤ pos (2 ^ 61)
below x h = let p = and_right (int_le (neg_ℤ (pos (2 ^ 61))) x) (int_le x (pos (2 ^ 61))) h in omega (arith, ints, p)

-- less is left where it is better
left_less : (way : Bool) (x y : ℤ) → is_small x ≡ true → better way x y ≡ true → left way x < left way y
left_less true x y s h =
    let l = above x s in natural_grows (x +ℤ pos (2 ^ 61)) (y +ℤ pos (2 ^ 61)) (omega (arith, ints, l)) (omega (arith, ints, h))
left_less false x y s h =
    let l = below x s in natural_grows (pos (2 ^ 61) -ℤ x) (pos (2 ^ 61) -ℤ y) (omega (arith, ints, l)) (omega (arith, ints, h))

gap_no_more : (ways : List Bool) (u w : List ℤ) → length u ≡ length w → is_better_somewhere ways w u ≡ false → gap ways u ≤ gap ways w
gap_no_more [] u w e p = omega arith
gap_no_more (way ∷ ways) [] w e p = omega arith
gap_no_more (way ∷ ways) (x ∷ u) [] e p = not_shorter x u e
gap_no_more (way ∷ ways) (x ∷ u) (y ∷ w) e p =
    let here = left_no_more way x y (or_first (better way y x) (is_better_somewhere ways w u) p) in
    let there = gap_no_more ways u w (tails x y u w e) (or_second (better way y x) (is_better_somewhere ways w u) p) in
    omega (arith, here, there)

pub gap_less : (ways : List Bool) (u w : List ℤ) → length u ≡ length w → list_all is_small u ≡ true
    → is_better_somewhere ways w u ≡ false → is_better_somewhere ways u w ≡ true → gap ways u < gap ways w
gap_less [] u w e s p q = absurd (true≢false (sym q))
gap_less (way ∷ ways) [] w e s p q = absurd (true≢false (sym q))
gap_less (way ∷ ways) (x ∷ u) [] e s p q = not_shorter x u e
gap_less (way ∷ ways) (x ∷ u) (y ∷ w) e s p q =
    let h = or_first (better way y x) (is_better_somewhere ways w u) p in
    let t = or_second (better way y x) (is_better_somewhere ways w u) p in
    or_either (better way x y) (is_better_somewhere ways u w) q
    (λ b. sum_less (left way x) (left way y) (gap ways u) (gap ways w)
    (left_less way x y (and_left (is_small x) (list_all is_small u) s) b) (gap_no_more ways u w (tails x y u w e) t))
    (λ b. sum_less_behind (left way x) (left way y) (gap ways u) (gap ways w)
    (left_no_more way x y h) (gap_less ways u w (tails x y u w e) (and_right (is_small x) (list_all is_small u) s) t b))
  where
    sum_less : (a b c d : ℕ) → a < b → c ≤ d → a + c < b + d
    sum_less a b c d h t = omega (arith, h, t)

    sum_less_behind : (a b c d : ℕ) → a ≤ b → c < d → a + c < b + d
    sum_less_behind a b c d h t = omega (arith, h, t)
