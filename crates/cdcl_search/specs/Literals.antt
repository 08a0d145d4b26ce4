-- Literals as codes: twice the variable, plus 1 where negated.
use Rattle.std.specs.Prelude.{ℕ, [], ◌∷◌, ◌⊎◌, ◌≡◌, ◌+◌, ◌-◌, ◌*◌, ◌%◌, List}

-- the opposite literal
unfoldable pub flip : ℕ → ℕ
flip l = l + 1 - 2 * (l % 2)

-- the clause has the literal
abbrev pub Has : List ℕ → ℕ → Type 0
Has [] l = ⊥
Has (x ∷ c) l = (x ≡ l) ⊎ Has c l
