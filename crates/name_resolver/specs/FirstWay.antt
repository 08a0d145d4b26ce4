-- The way that is taken down to a clafer.
use Rattle.std.specs.Prelude.{ℕ, zero, suc, ◌+◌, ◌≡◌, ◌≤◌, ◌==◌, ◌&&◌, ◌||◌, Bool, true, List, [], ◌∷◌, length, slice_get, nat_lt, if◌then◌else◌}
use Rattle.std.specs.Option.{option_map_or}
use Rattle.std.specs.List.{filter, list_any}
use Rattle.clf_tree.specs.declared.model.Clafer.{Clafer}
use Rattle.clf_tree.specs.Lists.{numbers_below, has}
use Rattle.name_resolver.specs.Ways.{is_child, children, Way}

-- whether a way goes to the earlier clafer at the first step at which it differs from another
abbrev pub goes_earlier : List ℕ → List ℕ → Bool
goes_earlier (x ∷ xs) (y ∷ ys) = nat_lt x y || (x == y && goes_earlier xs ys)
goes_earlier _ _ = true

-- of the shortest ways of one step or more the one that goes to the earlier clafers
pub record IsTaken (clafers : List Clafer) (c : ℕ) (way : List ℕ) (d : ℕ) : Type 0 where
  pub leads : Way clafers c way d
  pub some_step : 1 ≤ length way
  pub shortest : (other : List ℕ) → Way clafers c other d → 1 ≤ length other → length way ≤ length other
  pub first : (other : List ℕ) → Way clafers c other d → length other ≡ length way → goes_earlier way other ≡ true

-- the clafers that have a child among ms, in model order
abbrev pub step_up : List Clafer → List ℕ → List ℕ
step_up clafers ms = filter (λ p. list_any (is_child clafers p) ms) (numbers_below (length clafers))

-- those from which k steps down lead into ms
abbrev pub height : List Clafer → List ℕ → ℕ → List ℕ
height clafers ms zero = ms
height clafers ms (suc k) = step_up clafers (height clafers ms k)

-- of k steps down to d, each goes to the first child from which the steps that are left lead to d
abbrev pub first_way : List Clafer → ℕ → ℕ → ℕ → List ℕ
first_way clafers d zero c = []
first_way clafers d (suc k) c =
    option_map_or (λ m. m ∷ first_way clafers d k m) (slice_get (filter (has (height clafers (d ∷ []) k)) (children clafers c)) 0) []

-- the least number of steps, from k on, by which c leads to d
abbrev pub steps_from : List Clafer → ℕ → ℕ → ℕ → ℕ → ℕ
steps_from clafers zero k c d = k
steps_from clafers (suc n) k c d = if has (height clafers (d ∷ []) k) c then k else steps_from clafers n (k + 1) c d

-- the first of the shortest ways down
abbrev pub way_taken : List Clafer → ℕ → ℕ → List ℕ
way_taken clafers c d = first_way clafers d (steps_from clafers (length clafers) 1 c d) c

-- it is the way that is taken, where any way leads down
abbrev pub IsTakenIfAny : List Clafer → ℕ → List ℕ → ℕ → Type 0
IsTakenIfAny clafers c way d = (other : List ℕ) → Way clafers c other d → 1 ≤ length other → IsTaken clafers c way d
