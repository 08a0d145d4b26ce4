-- Results of arithmetic on integers of 62 bits, which are not clamped.
use Rattle.std.proofs.Common.{◌≡◌, ℕ, ◌^◌, Bool, true, false, ◌&&◌, Option, Some, None, refl, ap, sym, subst, ◌∙◌, arith, ℤ, pos, ◌+ℤ◌, ◌-ℤ◌, ◌*ℤ◌, neg_ℤ, ◌≤ℤ◌, ◌<ℤ◌, ◌-◌, ◌≤◌}
use Rattle.std.specs.Prelude.{nat_le, int_le, int_lt}
use Rattle.std.specs.Int.{int_min, int_max}
use Rattle.std.specs.Option.{option_map_or}
use Rattle.std.specs.List.{find, range_with_len}
use Rattle.std.proofs.lemmas.Grind.{common_steps}
use Rattle.std.proofs.lemmas.Bool.{true≢false}
use Rattle.std.proofs.lemmas.Int.{ints, clamps}
use Rattle.std.proofs.Math.Nat.{pow-le-pow_right}
use Rattle.std.specs.Prelude.{List, [], ◌∷◌}
use Rattle.std.proofs.Common.{cond}
use Rattle.clf_tree.specs.declared.bounds.Bounds.{Bounds}
use Rattle.clf_tree.specs.Widths.{width, is_held}
use Rattle.clf_tree.specs.Intervals.{clamped}
use Rattle.clf_tree.specs.IntervalsHold.{LiesIn}
use Rattle.model_evaluator.proofs.Integers.{product_between}

and_left : (a b : Bool) → (a && b) ≡ true → a ≡ true
and_left true b h = refl
and_left false b h = h

and_right : (a b : Bool) → (a && b) ≡ true → b ≡ true
and_right true b h = h
and_right false b h = cc

-- what is held by 62 bits is small
small_held : (b : Bounds) (bits : ℕ) → bits ≤ 62 → is_held b bits ≡ true → (neg_ℤ (pos (2 ^ 61)) ≤ℤ b.low) × (b.high <ℤ pos (2 ^ 61))
small_held b bits few h =
    let p = pow-le-pow_right {n = 2} (omega arith) {i = bits - 1} {j = 61} (omega (arith, few)) in
    let low = and_left (int_le (neg_ℤ (pos (2 ^ (bits - 1)))) b.low) (int_lt b.high (pos (2 ^ (bits - 1)))) h in
    let high = and_right (int_le (neg_ℤ (pos (2 ^ (bits - 1)))) b.low) (int_lt b.high (pos (2 ^ (bits - 1)))) h in
    (low_of (2 ^ (bits - 1)) b.low p low, high_of (2 ^ (bits - 1)) b.high p high)
  where
    low_of : (m : ℕ) (z : ℤ) → m ≤ 2 ^ 61 → int_le (neg_ℤ (pos m)) z ≡ true → neg_ℤ (pos (2 ^ 61)) ≤ℤ z
    low_of m z p h = grind (arith, ints)

    high_of : (m : ℕ) (z : ℤ) → m ≤ 2 ^ 61 → int_lt z (pos m) ≡ true → z <ℤ pos (2 ^ 61)
    high_of m z p h = grind (arith, ints)

pick_passes : (p : ℕ → Bool) (y x : ℕ) (rest : Option ℕ) (b : Bool) → p y ≡ b → cond b (Some y) rest ≡ Some x → (rest ≡ Some x → p x ≡ true) → p x ≡ true
pick_passes p y x rest true e h more = subst (λ z. p z ≡ true) (some_same y x h) e
  where
    some_same : (a b : ℕ) → Some a ≡ Some b → a ≡ b
    some_same a b q = (cc)
pick_passes p y x rest false e h more = more h

find_passes : (p : ℕ → Bool) (xs : List ℕ) (x : ℕ) → find p xs ≡ Some x → p x ≡ true
find_passes p [] x h = (cc)
find_passes p (y ∷ ys) x h = pick_passes p y x (find p ys) (p y) refl h (find_passes p ys x)

narrow_held : (b : Bounds) (found : Option ℕ) → find (is_held b) (range_with_len 1 126) ≡ found → nat_le (option_map_or (λ bits. bits) found 127) 62 ≡ true
    → (neg_ℤ (pos (2 ^ 61)) ≤ℤ b.low) × (b.high <ℤ pos (2 ^ 61))
narrow_held b None e h = absurd (true≢false (sym h))
narrow_held b (Some bits) e h = small_held b bits (le_from bits 62 h) (find_passes (is_held b) (range_with_len 1 126) bits e)
  where
    le_from : (m n : ℕ) → nat_le m n ≡ true → m ≤ n
    le_from m n q = grind (arith, common_steps)

narrow_small : (b : Bounds) → nat_le (width b) 62 ≡ true → (neg_ℤ (pos (2 ^ 61)) ≤ℤ b.low) × (b.high <ℤ pos (2 ^ 61))
unfolding width
narrow_small b h = narrow_held b (find (is_held b) (range_with_len 1 126)) refl h

-- an integer of 62 bits
pub record IsSmall (z : ℤ) : Type 0 where
  pub least : neg_ℤ (pos (2 ^ 61)) ≤ℤ z
  pub most : z ≤ℤ pos (2 ^ 61)

pub small_in : (b : Bounds) (z : ℤ) → nat_le (width b) 62 ≡ true → LiesIn b z → IsSmall z
small_in b z narrow l = let s = narrow_small b narrow in at b.low b.high s.0 s.1 l.least l.most
  where
    at : (low high : ℤ) → neg_ℤ (pos (2 ^ 61)) ≤ℤ low → high <ℤ pos (2 ^ 61) → low ≤ℤ z → z ≤ℤ high → IsSmall z
    at low high p q h k = record { least = omega (arith, ints); most = omega (arith, ints) }

unclamped : (z : ℤ) → neg_ℤ (pos (2 ^ 126)) ≤ℤ z → z ≤ℤ pos (2 ^ 126 - 1) → clamped z ≡ z
unclamped z h k = omega (arith, ints, clamps)

pub neg_fits : (x : ℤ) → IsSmall x → clamped (neg_ℤ x) ≡ neg_ℤ x
neg_fits x s = let h = s.least in let k = s.most in unclamped (neg_ℤ x) (omega (arith, ints)) (omega (arith, ints))

pub add_fits : (x y : ℤ) → IsSmall x → IsSmall y → clamped (x +ℤ y) ≡ (x +ℤ y)
add_fits x y s t =
    let h = s.least in let k = s.most in let l = t.least in let m = t.most in unclamped (x +ℤ y) (omega (arith, ints)) (omega (arith, ints))

pub sub_fits : (x y : ℤ) → IsSmall x → IsSmall y → clamped (x -ℤ y) ≡ (x -ℤ y)
sub_fits x y s t =
    let h = s.least in let k = s.most in let l = t.least in let m = t.most in unclamped (x -ℤ y) (omega (arith, ints)) (omega (arith, ints))

pub mul_fits : (x y : ℤ) → IsSmall x → IsSmall y → clamped (x *ℤ y) ≡ (x *ℤ y)
mul_fits x y s t =
    let p = product_between (neg_ℤ (pos (2 ^ 61))) (pos (2 ^ 61)) (neg_ℤ (pos (2 ^ 61))) (pos (2 ^ 61)) x y s.least s.most t.least t.most in
    at (x *ℤ y) p.0 p.1
  where
    at : (z : ℤ) → neg_ℤ (pos (2 ^ 122)) ≤ℤ z → z ≤ℤ pos (2 ^ 122) → clamped z ≡ z
    at z h k = unclamped z (omega (arith, ints)) (omega (arith, ints))
