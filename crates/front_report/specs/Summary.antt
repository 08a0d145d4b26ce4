-- The summary of a front, for a generated model.
use Rattle.std.specs.Prelude.{ℕ, ◌-◌, List, [], ◌∷◌, ◌++◌, length, map, codes, slice_get, ℤ, pos, FitsSigned}
use Rattle.std.specs.Int.{w128}
use Rattle.std.specs.Option.{option_map_or}
use Rattle.clf_tree.specs.declared.vector.Point.{Point}
use Rattle.clf_tree.specs.declared.vector.Front.{Front}
use Rattle.clf_tree.specs.declared.vector.FrontEnd.{FrontEnd}
use Rattle.clf_tree.specs.declared.vector.FrontEnd.TheVariants as ends
use Rattle.clf_tree.specs.Lists.{numbers_below}
use Rattle.clf_tree.specs.Meaning.{total}
use Rattle.front_report.specs.Points.{values_line, counted, claims_line, ended_line}

abbrev pub values_of : List Point → ℕ → List ℤ
values_of points i = option_map_or (λ p. p.vector.values) (slice_get points i) []

-- the value of a goal
abbrev pub value_at : ℕ → Point → ℤ
value_at goal p = option_map_or (λ z. z) (slice_get p.vector.values goal) (pos 0)

-- the sum of the values of a goal
abbrev pub sum_at : List Point → ℕ → ℤ
sum_at points goal = total (map (value_at goal) points)

-- the sum of each goal lies within 128 bits
abbrev pub HasSums : List Point → Type 0
HasSums points = (goal : ℕ) → FitsSigned w128 (sum_at points goal)

-- the sum of each goal of the first vector
abbrev pub sums : List Point → List ℤ
sums points = map (sum_at points) (numbers_below (length (values_of points 0)))

-- the first and the last vector, and the sums
abbrev pub extremes : List Point → List ℕ
extremes points =
    values_line (codes "first") (values_of points 0)
    ++ values_line (codes "last") (values_of points (length points - 1))
    ++ values_line (codes "sum") (sums points)

-- these lines stand where the whole front was found, and it has a point
abbrev pub told_extremes : FrontEnd → List Point → List ℕ
told_extremes ends.Finished [] = []
told_extremes ends.Finished (p ∷ points) = extremes (p ∷ points)
told_extremes _ points = []

-- the number of the model, how the search ended, the extremes, the claims
unfoldable pub summary : ℕ → Front → List ℕ
summary number f =
    counted (codes "generated ") number ++ ended_line f.ended (length f.points) ++ told_extremes f.ended f.points ++ claims_line f.claims
