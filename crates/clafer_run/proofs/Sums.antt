-- The values of each goal in the points of a front sum up within 128 bits.
use Rattle.std.proofs.Common.{◌≡◌, ℕ, zero, suc, ◌*◌, ◌^◌, ◌≤◌, Bool, true, false, ◌&&◌, List, [], ◌∷◌, length, arith}
use Rattle.std.proofs.Common.{refl, sym, ℤ, pos, negsuc, neg_ℤ, ◌+ℤ◌, ◌≤ℤ◌, IsTrue}
use Rattle.std.specs.Int.{w128}
use Rattle.std.specs.Prelude.{FitsSigned}
use Rattle.std.specs.Prelude.{int_le, slice_get}
use Rattle.std.specs.List.{All, list_all}
use Rattle.std.specs.Option.{option_map_or}
use Rattle.std.proofs.lemmas.Bool.{true≢false}
use Rattle.std.proofs.lemmas.Int.{ints}
use Rattle.std.proofs.lemmas.List.Elements.{All-head, All-tail}
use Rattle.clf_tree.specs.declared.model.Model.{Model}
use Rattle.clf_tree.specs.declared.scopes.Scopes.{Scopes}
use Rattle.clf_tree.specs.declared.vector.Point.{Point}
use Rattle.clf_tree.specs.Front.{Reaches, IsOptimal}
use Rattle.front_report.specs.Summary.{value_at, sum_at, HasSums}
use Rattle.goal_vectors.specs.Points.{vectors_of, ArePoints}
use Rattle.pareto_loop.specs.Gaps.{is_small}
use Rattle.clafer_run.specs.Fronts.{most_points}

both_left : (a b : Bool) → (a && b) ≡ true → a ≡ true
both_left true b h = refl
both_left false b h = h

both_right : (a b : Bool) → (a && b) ≡ true → b ≡ true
both_right true b h = h
both_right false b h = absurd (true≢false (sym h))

-- within a power of two, on either side
record IsWithin (bound : ℕ) (z : ℤ) : Type 0 where
  least : neg_ℤ (pos bound) ≤ℤ z
  most : z ≤ℤ pos bound

small : (z : ℤ) → is_small z ≡ true → IsWithin (2 ^ 61) z
small z h =
    let left = both_left (int_le (neg_ℤ (pos (2 ^ 61))) z) (int_le z (pos (2 ^ 61))) h in
    let right = both_right (int_le (neg_ℤ (pos (2 ^ 61))) z) (int_le z (pos (2 ^ 61))) h in
    record { least = grind (arith, ints); most = grind (arith, ints) }

small_at : (values : List ℤ) (goal : ℕ) → list_all is_small values ≡ true
    → is_small (option_map_or (λ z. z) (slice_get values goal) (pos 0)) ≡ true
small_at [] goal h = refl
small_at (z ∷ values) zero h = both_left (is_small z) (list_all is_small values) h
small_at (z ∷ values) (suc goal) h = small_at values goal (both_right (is_small z) (list_all is_small values) h)

-- of so many vectors that are small the sum is
added : (n : ℕ) (z rest : ℤ) → IsWithin (2 ^ 61) z → IsWithin (n * 2 ^ 61) rest → IsWithin (suc n * 2 ^ 61) (z +ℤ rest)
added n z rest h k =
    let a = h.least in let b = h.most in let c = k.least in let d = k.most in
    record { least = omega (arith, ints, a, c); most = omega (arith, ints, b, d) }

summed : (model : Model) (scopes : Scopes) (goal : ℕ) (points : List Point)
    → ((v : List ℤ) → Reaches model scopes v → IsTrue (list_all is_small v)) → All (IsOptimal model scopes) (vectors_of points)
    → IsWithin (length points * 2 ^ 61) (sum_at points goal)
summed model scopes goal [] all_small optimal = record { least = omega (arith, ints); most = omega (arith, ints) }
summed model scopes goal (p ∷ points) all_small optimal =
    let best = All-head (IsOptimal model scopes) p.vector.values (vectors_of points) optimal in
    added (length points) (value_at goal p) (sum_at points goal)
    (small (value_at goal p) (small_at p.vector.values goal (all_small p.vector.values best.reached)))
    (summed model scopes goal points all_small (All-tail (IsOptimal model scopes) p.vector.values (vectors_of points) optimal))

fits : (n : ℕ) (z : ℤ) → n ≤ most_points → IsWithin (n * 2 ^ 61) z → FitsSigned w128 z
fits n (pos m) few h = let most = h.most in omega (arith, ints, most, few)
fits n (negsuc m) few h = let least = h.least in omega (arith, ints, least, few)

pub sums_fit : (model : Model) (scopes : Scopes) → ((v : List ℤ) → Reaches model scopes v → IsTrue (list_all is_small v))
    → (points : List Point) → ArePoints model scopes points → length points ≤ most_points → HasSums points
sums_fit model scopes all_small points known few goal =
    fits (length points) (sum_at points goal) few (summed model scopes goal points all_small known.optimal)
