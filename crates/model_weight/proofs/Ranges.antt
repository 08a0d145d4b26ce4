-- The range of integers as an interval.
use Rattle.std.proofs.Common.{◌≡◌, ap, ◌∙◌, arith, ℤ}
use Rattle.std.proofs.lemmas.Int.{ints, clamps, to_z-of_z}
use mir.Syntax.{w64, w128}
use mir.Val.{SFits, of_z, to_z}
use Rattle.clf_tree.specs.declared.bounds.Bounds.{Bounds}
use Rattle.clf_tree.specs.Widths.{width}
use Rattle.clf_tree.specs.Intervals.{clamped, between}

abbrev bounds-of : ℤ → ℤ → Bounds
bounds-of low high = record { low = low; high = high }

widened : (a : ℤ) → SFits w64 a → to_z w128 (of_z w128 (to_z w64 (of_z w64 a))) ≡ a
widened a f = ap (λ z. to_z w128 (of_z w128 z)) (to_z-of_z w64 a f) ∙ to_z-of_z w128 a wide
  where
    wide : SFits w128 a
    wide = omega (arith, ints, f)

unclamped : (a : ℤ) → SFits w64 a → a ≡ clamped a
unclamped a f = omega (arith, ints, clamps, f)

both-ends : (p q x y : ℤ) → p ≡ x → q ≡ y → bounds-of p q ≡ bounds-of x y
both-ends p q x y e f = ap (λ z. bounds-of z q) e ∙ ap (bounds-of x) f

pub range_is : (low high : ℤ) → SFits w64 low → SFits w64 high
    → width (record { low = to_z w128 (of_z w128 (to_z w64 (of_z w64 low))); high = to_z w128 (of_z w128 (to_z w64 (of_z w64 high))) }) ≡ width (between low high)
range_is low high f g =
    ap width (both-ends (to_z w128 (of_z w128 (to_z w64 (of_z w64 low)))) (to_z w128 (of_z w128 (to_z w64 (of_z w64 high)))) (clamped low) (clamped high) (widened low f ∙ unclamped low f) (widened high g ∙ unclamped high g))
