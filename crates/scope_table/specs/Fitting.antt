-- When scopes fit a model.
use Rattle.std.specs.Prelude.{ℕ, ◌≡◌, ◌≤◌, false, List, length, sum, get_or}
use Rattle.clf_tree.specs.declared.model.Clafer.{Clafer}
use Rattle.clf_tree.specs.Hierarchy.{is_concrete}

-- one number for each clafer, 0 for an abstract one, each at most 256 and all together at most 2,048
pub record Fit (clafers : List Clafer) (of : List ℕ) : Type 0 where
  pub one_each : length of ≡ length clafers
  pub abstract_none : (c : ℕ) → is_concrete clafers c ≡ false → get_or of c 0 ≡ 0
  pub small : (c : ℕ) → get_or of c 0 ≤ 256
  pub few : sum of ≤ 2048
