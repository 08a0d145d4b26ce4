-- What stands between the steps of a search.
use Rattle.std.specs.Prelude.{ℕ, ◌≡◌, ◌/◌, ◌<◌, ◌≢◌, ◌⊎◌, [], List, length, get_or}
use Rattle.cdcl_search.specs.Literals.{Has}
use Rattle.cdcl_search.specs.Trails.{IsTrail, FalseBelow, TrueBelow}

-- every literal of the clause but u is false, since before the place p
abbrev pub FalseBut : List ℕ → List ℕ → List ℕ → ℕ → ℕ → Type 0
FalseBut v w c u p = (j : ℕ) → j < length c → (get_or c j 0 ≡ u) ⊎ FalseBelow v w (get_or c j 0) p

-- nothing follows from the clause at the place p: it is not false there, and where one literal is left, that one is true
abbrev pub Quiet : List ℕ → List ℕ → List ℕ → ℕ → Type 0
Quiet v w c p = (u : ℕ) → FalseBut v w c u p → Has c u × TrueBelow v w u p

-- the clause makes l true at the place k
pub record Forces (v w c : List ℕ) (l k : ℕ) : Type 0 where
  pub has : Has c l
  pub rest : FalseBut v w c l k

-- `reasons` names the clause that forced a variable's literal, or is `none` at a decision. The places of the
-- decisions are the limits of the levels.
pub record IsSearch (none : ℕ) (store : List (List ℕ)) (v w reasons ls : List ℕ) (count : ℕ) (limits : List ℕ) : Type 0 where
  pub trail : IsTrail v w ls count
  pub reasons_len : length reasons ≡ length ls
  pub reason_below : (k : ℕ) → k < count → get_or reasons (get_or ls k 0 / 2) 0 ≢ none → get_or reasons (get_or ls k 0 / 2) 0 < length store
  pub forces : (k : ℕ) → k < count → get_or reasons (get_or ls k 0 / 2) 0 ≢ none
      → Forces v w (get_or store (get_or reasons (get_or ls k 0 / 2) 0) []) (get_or ls k 0) k
  pub decided : (k : ℕ) → k < count → get_or reasons (get_or ls k 0 / 2) 0 ≡ none → Has limits k
  pub limit_below : (j : ℕ) → j < length limits → get_or limits j 0 < count
  pub limits_rise : (i j : ℕ) → i < j → j < length limits → get_or limits i 0 < get_or limits j 0
  pub quiet : (j : ℕ) → j < length limits → (i : ℕ) → i < length store → Quiet v w (get_or store i []) (get_or limits j 0)
