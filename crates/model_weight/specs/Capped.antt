-- Numbers that count no further than to a limit.
use Rattle.std.specs.Prelude.{ℕ, zero, suc, ◌+◌, ◌*◌, ◌^◌, List, [], ◌∷◌, nat_lt, if◌then◌else◌}

abbrev pub limit : ℕ
limit = 10 ^ 18

abbrev pub capped : ℕ → ℕ
capped n = if nat_lt n limit then n else limit

abbrev pub plus : ℕ → ℕ → ℕ
plus a b = capped (a + b)

abbrev pub times : ℕ → ℕ → ℕ
times a b = capped (a * b)

abbrev pub power : ℕ → ℕ → ℕ
power n zero = 1
power n (suc k) = times (power n k) n

-- what each of a list is mapped to, added to a number one by one
abbrev pub total : {X : Type 0} → (X → ℕ) → ℕ → List X → ℕ
total f n [] = n
total f n (x ∷ xs) = total f (plus n (f x)) xs
