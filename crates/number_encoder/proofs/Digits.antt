-- Binary digits, one by one.
use Rattle.std.proofs.Common.{◌≡◌, ℕ, zero, suc, ◌+◌, ◌*◌, ◌/◌, ◌^◌, ◌<◌, ◌≤◌, Bool, true, false, cond, refl, ap, sym, ◌∙◌, subst, pow-suc, arith}
use Rattle.std.specs.Prelude.{nat_lt}
use Rattle.std.proofs.lemmas.Grind.{common_steps}
use Rattle.clf_tree.specs.CoreWeights.{digits_within, binary_digits}

is-small : (n m : ℕ) → n < m → nat_lt n m ≡ true
is-small n m h = grind (arith, common_steps)

is-large : (n m : ℕ) → m ≤ n → nat_lt n m ≡ false
is-large n m h = grind (arith, common_steps)

-- more steps than needed change nothing
enough : (k l n : ℕ) → n ≤ k → n ≤ l → digits_within k n ≡ digits_within l n
enough zero zero n h g = refl
enough zero (suc l) n h g = sym (ap (λ b. cond b 1 (suc (digits_within l (n / 2)))) (is-small n 2 (omega (arith, h))))
enough (suc k) zero n h g = ap (λ b. cond b 1 (suc (digits_within k (n / 2)))) (is-small n 2 (omega (arith, g)))
enough (suc k) (suc l) n h g = ap (λ d. cond (nat_lt n 2) 1 (suc d)) (enough k l (n / 2) (omega (arith, h)) (omega (arith, g)))

pub one_digit : (n : ℕ) → n < 2 → 1 ≡ binary_digits n
one_digit zero h = refl
one_digit (suc n) h = sym (ap (λ b. cond b 1 (suc (digits_within n (suc n / 2)))) (is-small (suc n) 2 h))

pub more_digits : (n : ℕ) → 2 ≤ n → binary_digits (n / 2) + 1 ≡ binary_digits n
more_digits zero h = absurd (omega (arith, h))
more_digits (suc n) h =
    sym (ap (λ b. cond b 1 (suc (digits_within n (suc n / 2)))) (is-large (suc n) 2 h) ∙ ap suc (enough n (suc n / 2) (suc n / 2) (omega (arith, h)) (omega arith)) ∙ more (binary_digits (suc n / 2)))
  where
    more : (m : ℕ) → suc m ≡ m + 1
    more m = omega arith

-- ---- what so many digits hold

pow-twice : (n : ℕ) → 2 ^ suc n ≡ 2 * 2 ^ n
pow-twice n = omega (arith, pow-suc 2 n)

held-within : (k n : ℕ) → n ≤ k → n < 2 ^ digits_within k n
held-within zero n h = omega (arith, h)
held-within (suc k) n h = by (nat_lt n 2) refl (held-within k (n / 2))
  where
    by : (b : Bool) → nat_lt n 2 ≡ b → (n / 2 ≤ k → n / 2 < 2 ^ digits_within k (n / 2)) → n < 2 ^ cond b 1 (suc (digits_within k (n / 2)))
    by true e half = let l : n < 2 = grind (arith, common_steps, e) in omega (arith, l)
    by false e half =
        let l : 2 ≤ n = grind (arith, common_steps, e) in
        let r : n / 2 < 2 ^ digits_within k (n / 2) = half (omega (arith, h, l)) in
        let p : 2 ^ suc (digits_within k (n / 2)) ≡ 2 * 2 ^ digits_within k (n / 2) = pow-twice (digits_within k (n / 2)) in
        omega (arith, r, p)

pub digits_hold : (n : ℕ) → n < 2 ^ binary_digits n
digits_hold n = held-within n n (omega arith)

-- no fewer digits for more
more-within : (k n m : ℕ) → n ≤ m → digits_within k n ≤ digits_within k m
more-within zero n m h = omega arith
more-within (suc k) n m h = by (nat_lt n 2) (nat_lt m 2) refl refl (more-within k (n / 2) (m / 2) (omega (arith, h)))
  where
    by : (b d : Bool) → nat_lt n 2 ≡ b → nat_lt m 2 ≡ d → digits_within k (n / 2) ≤ digits_within k (m / 2) → cond b 1 (suc (digits_within k (n / 2))) ≤ cond d 1 (suc (digits_within k (m / 2)))
    by true true e f r = omega arith
    by true false e f r = omega arith
    by false true e f r = absurd (let u : 2 ≤ n = grind (arith, common_steps, e) in let v : m < 2 = grind (arith, common_steps, f) in omega (arith, u, v, h))
    by false false e f r = omega (arith, r)

pub digits_more : (n m : ℕ) → n ≤ m → binary_digits n ≤ binary_digits m
digits_more n m h = subst (λ d. d ≤ binary_digits m) (enough m n n h (omega arith)) (more-within m n m h)

-- a number of 64 bits has no more digits
few-within : (k n e : ℕ) → n < 2 ^ (e + 1) → digits_within k n ≤ e + 1
few-within zero n e h = omega arith
few-within (suc k) n zero h = by (nat_lt n 2) refl
  where
    by : (b : Bool) → nat_lt n 2 ≡ b → cond b 1 (suc (digits_within k (n / 2))) ≤ 0 + 1
    by true t = omega arith
    by false t = absurd (let u : 2 ≤ n = grind (arith, common_steps, t) in omega (arith, u, h))
few-within (suc k) n (suc e) h = by (nat_lt n 2) (few-within k (n / 2) e)
  where
    by : (b : Bool) → (n / 2 < 2 ^ (e + 1) → digits_within k (n / 2) ≤ e + 1) → cond b 1 (suc (digits_within k (n / 2))) ≤ suc e + 1
    by true rest = omega arith
    by false rest =
        let p : 2 ^ (suc e + 1) ≡ 2 * 2 ^ (e + 1) = let f : suc e + 1 ≡ suc (e + 1) = omega arith in ap (λ m. 2 ^ m) f ∙ pow-twice (e + 1) in
        let r = rest (omega (arith, h, p)) in
        omega (arith, r)

pub few_digits : (n : ℕ) → n < 2 ^ 64 → binary_digits n ≤ 64
few_digits n h = few-within n n 63 h
