-- How many wires numbers take.
use Rattle.std.specs.Prelude.{ℕ, ◌+◌, ◌*◌, min}
use Rattle.clf_tree.specs.declared.scopes.Scopes.{Scopes}
use Rattle.clf_tree.specs.CoreWeights.{binary_digits, range_width}

-- the bits of a count of n: as many as hold it, and no more than asked for
unfoldable pub count_width : ℕ → ℕ → ℕ
count_width width n = min width (binary_digits n + 1)

-- the bits of a sum of n integers of the range
unfoldable pub total_width : Scopes → ℕ → ℕ → ℕ
total_width scopes width n = min width (range_width scopes + binary_digits n)

-- a count, or a sum, of n, to no more bits than the width
unfoldable pub count_cost : ℕ → ℕ → ℕ
count_cost width n = 32 * ((n + 1) * (count_width width n + 1))

unfoldable pub total_cost : Scopes → ℕ → ℕ → ℕ
total_cost scopes width n = 32 * ((n + 1) * (total_width scopes width n + 1))

-- two integers of at most w bits compared, and the answer put to use for either of them
abbrev pub pair_cost : ℕ → ℕ
pair_cost w = 4 * (w + 1) + 4

-- an integer looked for among m others, and asked for where it is there
abbrev pub row_cost : ℕ → ℕ → ℕ
row_cost m w = m * pair_cost w + 3

-- n integers of at most w bits compared with m others
unfoldable pub values_cost : ℕ → ℕ → ℕ → ℕ
values_cost n m w = n * row_cost m w + 3 * m + 3
