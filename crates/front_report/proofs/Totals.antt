-- Sums that wrap on the way.
use Rattle.std.proofs.Common.{◌≡◌, ℕ, ◌+◌, ◌%◌, ◌<◌, suc, List, drop, get_or, length, map, sym, ◌∙◌, ap, arith, Fits, to_z, of_z}
use Rattle.std.specs.Prelude.{ℤ, ◌+ℤ◌, FitsSigned}
use Rattle.std.specs.Int.{int_wrap, int_wrapping_add, w128}
use Rattle.std.proofs.lemmas.Int.{int_wrap-add_left, wrapping_add_is}
use Rattle.std.proofs.Math.IntN.{+ℤ_assoc}
use Rattle.std.proofs.Math.Facts.{of_z-to_z, sfits_to_z}
use Rattle.std.proofs.Math.Seq.{drop-cons}
use Rattle.clf_tree.specs.Meaning.{total}

-- with one value more, what is left leads to the same
wrapped_more : (sum next value rest whole : ℤ) → FitsSigned w128 sum → FitsSigned w128 value → next ≡ int_wrapping_add w128 sum value
    → int_wrap w128 (sum +ℤ (value +ℤ rest)) ≡ whole → int_wrap w128 (next +ℤ rest) ≡ whole
wrapped_more sum next value rest whole f g is h =
    ap (λ z. int_wrap w128 (z +ℤ rest)) (is ∙ wrapping_add_is w128 sum value f g)
    ∙ int_wrap-add_left w128 (sum +ℤ value) rest
    ∙ ap (int_wrap w128) (+ℤ_assoc sum value rest)
    ∙ h

-- the same where the sum so far is known by its bits
pub bits_more : (bits : ℕ) (value rest whole : ℤ) → Fits w128 bits → FitsSigned w128 value
    → int_wrap w128 (to_z w128 bits +ℤ (value +ℤ rest)) ≡ whole
    → int_wrap w128 (to_z w128 ((bits + of_z w128 value) % 340282366920938463463374607431768211456) +ℤ rest) ≡ whole
bits_more bits value rest whole f g h =
    wrapped_more (to_z w128 bits) (to_z w128 ((bits + of_z w128 value) % 340282366920938463463374607431768211456)) value rest whole
    (sfits_to_z f) g
    (ap (λ b. to_z w128 ((b + of_z w128 value) % 340282366920938463463374607431768211456)) (sym (of_z-to_z f))) h

-- the total of what is left, with its first item apart
pub total_left : {T : Type 0} (f : T → ℤ) (xs : List T) (i : ℕ) (x : T) → i < length xs → x ≡ get_or xs i x
    → total (map f (drop i xs)) ≡ f x +ℤ total (map f (drop (i + 1) xs))
total_left f xs i x within is =
    let next : suc i ≡ i + 1 = omega arith in
    ap (λ ys. total (map f ys)) (drop-cons xs i x within)
    ∙ ap (λ y. f y +ℤ total (map f (drop (suc i) xs))) (sym is)
    ∙ ap (λ k. f x +ℤ total (map f (drop k xs))) next
