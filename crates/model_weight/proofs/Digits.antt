-- Binary digits, one by one.
use Rattle.std.proofs.Common.{◌≡◌, ℕ, zero, suc, ◌+◌, ◌/◌, ◌<◌, ◌≤◌, true, false, cond, refl, ap, sym, ◌∙◌, arith}
use Rattle.std.specs.Prelude.{nat_lt}
use Rattle.std.proofs.lemmas.Grind.{common_steps}
use Rattle.clf_tree.specs.CoreWeights.{digits_within, binary_digits}

is-small : (n m : ℕ) → n < m → nat_lt n m ≡ true
is-small n m h = grind (arith, common_steps)

is-large : (n m : ℕ) → m ≤ n → nat_lt n m ≡ false
is-large n m h = grind (arith, common_steps)

-- more steps than needed change nothing
enough : (k l n : ℕ) → n ≤ k → n ≤ l → digits_within k n ≡ digits_within l n
enough zero zero n h g = refl
enough zero (suc l) n h g = sym (ap (λ b. cond b 1 (suc (digits_within l (n / 2)))) (is-small n 2 (omega (arith, h))))
enough (suc k) zero n h g = ap (λ b. cond b 1 (suc (digits_within k (n / 2)))) (is-small n 2 (omega (arith, g)))
enough (suc k) (suc l) n h g = ap (λ d. cond (nat_lt n 2) 1 (suc d)) (enough k l (n / 2) (omega (arith, h)) (omega (arith, g)))

pub one_digit : (n : ℕ) → n < 2 → 1 ≡ binary_digits n
one_digit zero h = refl
one_digit (suc n) h = sym (ap (λ b. cond b 1 (suc (digits_within n (suc n / 2)))) (is-small (suc n) 2 h))

pub more_digits : (n : ℕ) → 2 ≤ n → binary_digits (n / 2) + 1 ≡ binary_digits n
more_digits zero h = absurd (omega (arith, h))
more_digits (suc n) h =
    sym (ap (λ b. cond b 1 (suc (digits_within n (suc n / 2)))) (is-large (suc n) 2 h) ∙ ap suc (enough n (suc n / 2) (suc n / 2) (omega (arith, h)) (omega arith)) ∙ more (binary_digits (suc n / 2)))
  where
    more : (m : ℕ) → suc m ≡ m + 1
    more m = omega arith
