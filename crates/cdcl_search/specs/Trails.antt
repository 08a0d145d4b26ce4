-- The assignment of a search, and the order in which it was made.
use Rattle.std.specs.Prelude.{ℕ, zero, suc, [], ◌∷◌, ◌≡◌, ◌+◌, ◌*◌, ◌/◌, ◌<◌, ◌≤◌, List, length, get_or, set}
use Rattle.cdcl_search.specs.Literals.{flip}

-- how many entries are 0
abbrev pub zeros : List ℕ → ℕ
zeros [] = 0
zeros (zero ∷ xs) = suc (zeros xs)
zeros (suc x ∷ xs) = zeros xs

-- Values by literal: 0 open, 1 true, 2 false. The literals that were made true stand in `literals` up to
-- `count`, and a variable's place is where its literal stands.
pub record IsTrail (values places literals : List ℕ) (count : ℕ) : Type 0 where
  pub values_len : length values ≡ 2 * length literals
  pub places_len : length places ≡ length literals
  pub at_most_two : (l : ℕ) → get_or values l 0 ≤ 2
  pub is_true : (k : ℕ) → k < count → get_or values (get_or literals k 0) 0 ≡ 1
  pub placed : (k : ℕ) → k < count → get_or places (get_or literals k 0 / 2) 0 ≡ k
  pub place_below : (l : ℕ) → get_or values l 0 ≡ 1 → get_or places (l / 2) 0 < count
  pub stands : (l : ℕ) → get_or values l 0 ≡ 1 → get_or literals (get_or places (l / 2) 0) 0 ≡ l
  pub true_opposite : (l : ℕ) → get_or values l 0 ≡ 1 → get_or values (flip l) 0 ≡ 2
  pub false_opposite : (l : ℕ) → get_or values l 0 ≡ 2 → get_or values (flip l) 0 ≡ 1
  pub open_count : 2 * count + zeros values ≡ 2 * length literals

-- the literal is false, since before the place p
pub record FalseBelow (values places : List ℕ) (l p : ℕ) : Type 0 where
  pub value : get_or values l 0 ≡ 2
  pub place : get_or places (l / 2) 0 < p

-- the literal is true, since before the place p
pub record TrueBelow (values places : List ℕ) (l p : ℕ) : Type 0 where
  pub value : get_or values l 0 ≡ 1
  pub place : get_or places (l / 2) 0 < p

-- up to the place p two trails say the same
pub record Agree (v w v' w' : List ℕ) (p : ℕ) : Type 0 where
  pub false_to : (l q : ℕ) → q ≤ p → FalseBelow v w l q → FalseBelow v' w' l q
  pub false_from : (l q : ℕ) → q ≤ p → FalseBelow v' w' l q → FalseBelow v w l q
  pub true_to : (l q : ℕ) → q ≤ p → TrueBelow v w l q → TrueBelow v' w' l q

-- the values after a literal was made true
abbrev pub with_true : List ℕ → ℕ → List ℕ
with_true v l = set (set v l 1) (flip l) 2

abbrev pub AllBelow : List ℕ → ℕ → Type 0
AllBelow c n = (j : ℕ) → j < length c → get_or c j 0 < n
