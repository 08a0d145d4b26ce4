-- The literals of a clause that is falsified, as marks at the places where they became false.
use Rattle.std.specs.Prelude.{ℕ, zero, suc, ◌≡◌, ◌/◌, ◌<◌, ◌≢◌, ◌⊎◌, [], ◌∷◌, List, length, get_or}
use Rattle.cdcl_search.specs.Literals.{Has}
use Rattle.cdcl_search.specs.Trails.{FalseBelow}

-- how many marks stand at `base` and after it
abbrev pub ones : ℕ → List ℕ → ℕ
ones b [] = 0
ones (suc b) (x ∷ m) = ones b m
ones zero (zero ∷ m) = ones zero m
ones zero (suc x ∷ m) = suc (ones zero m)

-- there is no mark
abbrev pub AreClear : List ℕ → Type 0
AreClear m = (p : ℕ) → get_or m p 0 ≡ 0

-- the literal is false, and there is a mark at its place
pub record Marked (v w m : List ℕ) (l : ℕ) : Type 0 where
  pub value : get_or v l 0 ≡ 2
  pub mark : get_or m (get_or w (l / 2) 0) 0 ≢ 0

-- the marks stand for the literals of the clause
pub record Covers (v w m c : List ℕ) : Type 0 where
  pub marked : (l : ℕ) → Has c l → Marked v w m l
  pub covered : (l : ℕ) → Marked v w m l → Has c l

-- `lower` lists literals of the levels before the last one, among them the marked ones, and `counter` counts the marks of the last one
pub record IsMarked (v w : List ℕ) (base n : ℕ) (m lower : List ℕ) (counter : ℕ) : Type 0 where
  pub len : length m ≡ n
  pub below : (l : ℕ) → Has lower l → FalseBelow v w l base
  pub marked_lower : (l : ℕ) → FalseBelow v w l base → get_or m (get_or w (l / 2) 0) 0 ≢ 0 → Has lower l
  pub counts : counter ≡ ones base m

-- the marks grow by those of the literals of a clause other than `skip`
pub record Grown (w m m' c : List ℕ) (skip : ℕ) : Type 0 where
  pub keeps : (p : ℕ) → get_or m p 0 ≢ 0 → get_or m' p 0 ≢ 0
  pub adds : (l : ℕ) → Has c l → l ≢ skip → get_or m' (get_or w (l / 2) 0) 0 ≢ 0
  pub only : (p : ℕ) → get_or m' p 0 ≢ 0 → (get_or m p 0 ≢ 0) ⊎ ((l : ℕ) × Has c l × (l ≢ skip) × (get_or w (l / 2) 0 ≡ p))

-- one mark is there in any case, and no other comes
pub record IsOneMore (m m' : List ℕ) (place : ℕ) : Type 0 where
  pub keeps : (p : ℕ) → get_or m p 0 ≢ 0 → get_or m' p 0 ≢ 0
  pub here : get_or m' place 0 ≢ 0
  pub only : (p : ℕ) → get_or m' p 0 ≢ 0 → (get_or m p 0 ≢ 0) ⊎ (p ≡ place)

-- the same, as far as the literal at an index
pub record GrownTo (w m m' c : List ℕ) (skip i : ℕ) : Type 0 where
  pub keeps : (p : ℕ) → get_or m p 0 ≢ 0 → get_or m' p 0 ≢ 0
  pub adds : (j : ℕ) → j < i → get_or c j 0 ≢ skip → get_or m' (get_or w (get_or c j 0 / 2) 0) 0 ≢ 0
  pub only : (p : ℕ) → get_or m' p 0 ≢ 0 → (get_or m p 0 ≢ 0) ⊎ ((l : ℕ) × Has c l × (l ≢ skip) × (get_or w (l / 2) 0 ≡ p))

-- the marks of the first i literals are gone, and no mark has come
pub record IsSwept (w m m' lower : List ℕ) (i : ℕ) : Type 0 where
  pub gone : (j : ℕ) → j < i → get_or m' (get_or w (get_or lower j 0 / 2) 0) 0 ≡ 0
  pub only : (p : ℕ) → get_or m' p 0 ≢ 0 → get_or m p 0 ≢ 0

-- the literals of the list that have a mark
pub record AreKept (w m lower kept : List ℕ) : Type 0 where
  pub from_lower : (l : ℕ) → Has kept l → Has lower l
  pub marked : (l : ℕ) → Has kept l → get_or m (get_or w (l / 2) 0) 0 ≢ 0
  pub all : (l : ℕ) → Has lower l → get_or m (get_or w (l / 2) 0) 0 ≢ 0 → Has kept l

-- the same, of the first i literals of the list
pub record AreKeptTo (w m lower kept : List ℕ) (i : ℕ) : Type 0 where
  pub from_lower : (l : ℕ) → Has kept l → Has lower l
  pub marked : (l : ℕ) → Has kept l → get_or m (get_or w (l / 2) 0) 0 ≢ 0
  pub all : (j : ℕ) → j < i → get_or m (get_or w (get_or lower j 0 / 2) 0) 0 ≢ 0 → Has kept (get_or lower j 0)
