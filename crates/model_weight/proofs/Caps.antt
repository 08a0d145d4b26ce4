-- Numbers that count no further than to the limit.
use Rattle.std.proofs.Common.{◌≡◌, ℕ, suc, ◌+◌, ◌-◌, ◌^◌, ◌<◌, ◌≤◌, true, false, cond, min, ap, sym, ◌∙◌, arith, ◌⊎◌, inl, inr}
use Rattle.std.specs.Prelude.{leb, nat_lt}
use Rattle.std.proofs.lemmas.Bool.Decides.{leb_tells}
use Rattle.std.proofs.Math.Nat.{min-eq_left, min-eq_right}
use Rattle.model_weight.specs.Capped.{limit, capped, times, power}

pub at-limit : (n : ℕ) → limit ≤ n → capped n ≡ limit
at-limit n h = pick (leb_tells (suc n) limit)
  where
    pick : ((leb (suc n) limit ≡ true) × (suc n ≤ limit)) ⊎ ((leb (suc n) limit ≡ false) × (limit < suc n)) → cond (nat_lt n limit) n limit ≡ limit
    pick (inl k) = absurd (omega (arith, h, k.1))
    pick (inr k) = ap (λ b. cond b n limit) k.0

pub below-limit : (n : ℕ) → n < limit → capped n ≡ n
below-limit n h = pick (leb_tells (suc n) limit)
  where
    pick : ((leb (suc n) limit ≡ true) × (suc n ≤ limit)) ⊎ ((leb (suc n) limit ≡ false) × (limit < suc n)) → cond (nat_lt n limit) n limit ≡ n
    pick (inl k) = ap (λ b. cond b n limit) k.0
    pick (inr k) = absurd (omega (arith, h, k.1))

-- what stops at the greatest number of 64 bits stops beyond the limit
pub saturated : (n : ℕ) → capped (min n (2 ^ 64 - 1)) ≡ capped n
saturated n = pick (leb_tells n (2 ^ 64 - 1))
  where
    below : 2 ^ 64 - 1 < n → 2 ^ 64 - 1 ≤ n
    below h = omega (arith, h)

    pick : ((leb n (2 ^ 64 - 1) ≡ true) × (n ≤ 2 ^ 64 - 1)) ⊎ ((leb n (2 ^ 64 - 1) ≡ false) × (2 ^ 64 - 1 < n)) → capped (min n (2 ^ 64 - 1)) ≡ capped n
    pick (inl k) = ap capped (min-eq_left k.1)
    pick (inr k) = ap capped (min-eq_right (below k.1)) ∙ at-limit (2 ^ 64 - 1) (omega arith) ∙ sym (at-limit n (omega (arith, k.1)))

pub power_more : (n k : ℕ) → power n (k + 1) ≡ times (power n k) n
power_more n k = ap (power n) (more k)
  where
    more : (m : ℕ) → m + 1 ≡ suc m
    more m = omega arith
