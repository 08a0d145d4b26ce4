-- The text of the generated model of a number.
use Rattle.std.specs.Prelude.{ℕ, zero, suc, ◌-◌, ◌*◌, ◌/◌, ◌%◌, ◌^◌, ◌==◌, Bool, not, List, ◌++◌, codes, decimal}
use Rattle.std.specs.List.{flat_map, filter, range_with_len}

-- the numbers 0, 1, .. below n
abbrev pub numbers_below : ℕ → List ℕ
numbers_below n = range_with_len 0 n

-- an optional feature
abbrev pub optional_line : ℕ → List ℕ
optional_line i = codes "    f" ++ decimal i ++ codes " ?\n"

-- a feature needs the first of its block of eight
abbrev pub implied_line : ℕ → List ℕ
implied_line i = codes "    [ f" ++ decimal i ++ codes " => f" ++ decimal (8 * (i / 8)) ++ codes " ]\n"

abbrev pub is_implied : ℕ → Bool
is_implied i = not (i % 8 == 0)

-- the first feature of a block, by the power of two of the block
abbrev pub term : ℕ → List ℕ
term b = codes "#line.f" ++ decimal (8 * b) ++ codes " * " ++ decimal (2 ^ b)

-- the terms of the blocks up to one, joined by ` + `
abbrev pub terms : ℕ → List ℕ
terms zero = term 0
terms (suc b) = terms b ++ codes " + " ++ term (suc b)

-- a goal on all features
abbrev pub goal_line : List ℕ → ℕ → List ℕ
goal_line way last = codes "<< " ++ way ++ codes " " ++ terms last ++ codes " >>\n"

-- k optional features, all but the first of each block of eight needing that one; and the blocks' first features, weighed by powers of
-- two, are to be least and greatest
abbrev pub generated : ℕ → List ℕ
generated k =
    codes "line\n" ++ flat_map optional_line (numbers_below k) ++ flat_map implied_line (filter is_implied (numbers_below k))
    ++ goal_line (codes "min") ((k - 1) / 8) ++ goal_line (codes "max") ((k - 1) / 8)
