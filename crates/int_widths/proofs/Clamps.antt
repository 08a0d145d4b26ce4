-- Clamped numbers in order.
use Rattle.std.proofs.Common.{◌≡◌, ℕ, ◌<◌, ◌^◌, ap, ◌∙◌, arith, ℤ, pos, ◌+ℤ◌, ◌*ℤ◌}
use Rattle.std.proofs.lemmas.Int.{ints, clamps, to_z-of_z}
use Rattle.std.specs.Int.{int_min, int_max}
use mir.Syntax.{w64, w128}
use mir.Val.{SFits, of_z, to_z}
use Rattle.clf_tree.specs.declared.bounds.Bounds.{Bounds}
use Rattle.clf_tree.specs.Intervals.{clamped, between}

abbrev pub record-of : ℤ → ℤ → Bounds
record-of low high = record { low = low; high = high }

pub min_clamped : (a b : ℤ) → int_min (clamped a) (clamped b) ≡ clamped (int_min a b)
min_clamped a b = omega (arith, ints, clamps)

pub max_clamped : (a b : ℤ) → int_max (clamped a) (clamped b) ≡ clamped (int_max a b)
max_clamped a b = omega (arith, ints, clamps)

pub four_least : (a b c d p q r s x y z : ℤ) → p ≡ clamped a → q ≡ clamped b → r ≡ clamped c → s ≡ clamped d → x ≡ int_min p q → y ≡ int_min r s → z ≡ int_min x y
    → z ≡ clamped (int_min (int_min a b) (int_min c d))
four_least a b c d p q r s x y z e f g h i j k =
    k ∙ ap (λ m. int_min m y) (i ∙ ap (λ m. int_min m q) e ∙ ap (int_min (clamped a)) f ∙ min_clamped a b)
    ∙ ap (int_min (clamped (int_min a b))) (j ∙ ap (λ m. int_min m s) g ∙ ap (int_min (clamped c)) h ∙ min_clamped c d)
    ∙ min_clamped (int_min a b) (int_min c d)

pub four_most : (a b c d p q r s x y z : ℤ) → p ≡ clamped a → q ≡ clamped b → r ≡ clamped c → s ≡ clamped d → x ≡ int_max p q → y ≡ int_max r s → z ≡ int_max x y
    → z ≡ clamped (int_max (int_max a b) (int_max c d))
four_most a b c d p q r s x y z e f g h i j k =
    k ∙ ap (λ m. int_max m y) (i ∙ ap (λ m. int_max m q) e ∙ ap (int_max (clamped a)) f ∙ max_clamped a b)
    ∙ ap (int_max (clamped (int_max a b))) (j ∙ ap (λ m. int_max m s) g ∙ ap (int_max (clamped c)) h ∙ max_clamped c d)
    ∙ max_clamped (int_max a b) (int_max c d)

pub between_same : (p q x y : ℤ) → p ≡ x → q ≡ y → between p q ≡ between x y
between_same p q x y e f = ap (λ z. between z q) e ∙ ap (between x) f

pub sum_is : (a b : ℤ) → SFits w128 a → SFits w128 b → SFits w128 (a +ℤ b) → to_z w128 (of_z w128 (to_z w128 (of_z w128 a) +ℤ to_z w128 (of_z w128 b))) ≡ (a +ℤ b)
sum_is a b f g h = omega (arith, ints)

-- an end that passed through the code's numbers
pub plain_least : (a b r : ℤ) → SFits w128 a → SFits w128 b → r ≡ int_min (to_z w128 (of_z w128 a)) (to_z w128 (of_z w128 b)) → r ≡ int_min a b
plain_least a b r f g e = e ∙ ap (λ z. int_min z (to_z w128 (of_z w128 b))) (to_z-of_z w128 a f) ∙ ap (int_min a) (to_z-of_z w128 b g)

pub plain_most : (a b r : ℤ) → SFits w128 a → SFits w128 b → r ≡ int_max (to_z w128 (of_z w128 a)) (to_z w128 (of_z w128 b)) → r ≡ int_max a b
plain_most a b r f g e = e ∙ ap (λ z. int_max z (to_z w128 (of_z w128 b))) (to_z-of_z w128 a f) ∙ ap (int_max a) (to_z-of_z w128 b g)

pub bounds_same : (p q x y : ℤ) → SFits w128 p → SFits w128 q → p ≡ clamped x → q ≡ clamped y → record-of (to_z w128 (of_z w128 p)) (to_z w128 (of_z w128 q)) ≡ between x y
bounds_same p q x y f g e h = ap (λ z. record-of z (to_z w128 (of_z w128 q))) (to_z-of_z w128 p f ∙ e) ∙ ap (record-of (clamped x)) (to_z-of_z w128 q g ∙ h)

-- a product of numbers that passed through the code's numbers
pub plain_product : (a b r : ℤ) → SFits w128 a → SFits w128 b → r ≡ clamped (to_z w128 (of_z w128 a) *ℤ to_z w128 (of_z w128 b)) → r ≡ clamped (a *ℤ b)
plain_product a b r f g e = e ∙ ap (λ z. clamped (z *ℤ to_z w128 (of_z w128 b))) (to_z-of_z w128 a f) ∙ ap (λ z. clamped (a *ℤ z)) (to_z-of_z w128 b g)

pub plain_multiple : (n : ℕ) (a r : ℤ) → n < 2 ^ 64 → SFits w128 a → r ≡ clamped (to_z w128 n *ℤ to_z w128 (of_z w128 a)) → r ≡ clamped (pos n *ℤ a)
plain_multiple n a r small f e = e ∙ ap (λ z. clamped (z *ℤ to_z w128 (of_z w128 a))) positive ∙ ap (λ z. clamped (pos n *ℤ z)) (to_z-of_z w128 a f)
  where
    positive : to_z w128 n ≡ pos n
    positive = omega (arith, ints, small)

pub widened : (a : ℤ) → SFits w64 a → to_z w128 (of_z w128 (to_z w64 (of_z w64 a))) ≡ a
widened a f = ap (λ z. to_z w128 (of_z w128 z)) (to_z-of_z w64 a f) ∙ to_z-of_z w128 a wide
  where
    wide : SFits w128 a
    wide = omega (arith, ints, f)
