-- How large numbers of few digits are.
use Rattle.std.proofs.Common.{◌≡◌, ◌∙◌, sym, refl, ap, ℕ, suc, ◌+◌, ◌*◌, ◌-◌, ◌^◌, ◌<◌, ◌≤◌, Bool, true, false, true≢false, List, length, get_or, arith}
use Rattle.std.specs.List.{list_all}
use Rattle.std.specs.Char.{is_ascii_digit}
use Rattle.std.proofs.Math.Nat.{pow-suc, pow-le-pow_right}
use Rattle.std.proofs.lemmas.List.Folds.{list_all_at}
use Rattle.std.proofs.lemmas.Grind.{common_steps}

-- one digit more
pub one_more : (n digit i : ℕ) → n < 10 ^ i → digit ≤ 9 → n * 10 + digit < 10 ^ (i + 1)
one_more n digit i small d = omega (arith, small, d, grow i)
  where
    grow : (i : ℕ) → 10 ^ (i + 1) ≡ 10 ^ i * 10
    grow i = let e : i + 1 ≡ suc i = omega arith in ap (λ k. 10 ^ k) e ∙ pow-suc 10 i

-- up to 18 digits
pub most : (n i : ℕ) → n < 10 ^ i → i ≤ 18 → n < 10 ^ 18
most n i small few = omega (arith, small, pow-le-pow_right {n = 10} (omega arith) {i = i} {j = 18} few)

passes : (b : Bool) → (b ≡ false → ⊥) → b ≡ true
passes true f = refl
passes false f = absurd (f refl)

digit_small : (b : ℕ) → is_ascii_digit b ≡ true → b - 48 ≤ 9
digit_small b h = grind (arith, common_steps)

-- each byte of digits is one
pub digit_at : (xs : List ℕ) (i : ℕ) → list_all is_ascii_digit xs ≡ true → i < length xs → get_or xs i 0 - 48 ≤ 9
digit_at xs i h l = digit_small (get_or xs i 0) (passes (is_ascii_digit (get_or xs i 0))
    (λ f. true≢false (sym h ∙ list_all_at is_ascii_digit xs i 0 l f)))
