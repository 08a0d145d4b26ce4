-- How far a vector of integers within 62 bits is from one that nothing improves.
use Rattle.std.specs.Prelude.{ℕ, ◌+◌, ◌^◌, ◌&&◌, Bool, List, ◌∷◌, ℤ, pos, negsuc, neg_ℤ, ◌+ℤ◌, ◌-ℤ◌, int_le, if◌then◌else◌}

-- within 62 bits
abbrev pub is_small : ℤ → Bool
is_small z = int_le (neg_ℤ (pos (2 ^ 61))) z && int_le z (pos (2 ^ 61))

-- an integer as a natural number, and 0 below
abbrev pub natural : ℤ → ℕ
natural (pos n) = n
natural (negsuc n) = 0

-- how many steps of one are left in one goal
abbrev pub left : Bool → ℤ → ℕ
left least z = natural (if least then z +ℤ pos (2 ^ 61) else pos (2 ^ 61) -ℤ z)

-- and in all goals together
abbrev pub gap : List Bool → List ℤ → ℕ
gap (way ∷ ways) (z ∷ zs) = left way z + gap ways zs
gap _ _ = 0
