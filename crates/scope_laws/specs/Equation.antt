-- The equation of scopes.
use Rattle.std.specs.Prelude.{◌≡◌, ℕ, List}
use Rattle.clf_tree.specs.declared.model.Clafer.{Clafer}
use Rattle.clf_tree.specs.declared.scopes.Given.{Given}
use Rattle.scope_table.specs.Largest.{scope_over}

-- each is what a scope is over those of its owners: 0 of an abstract clafer; else the one that is given; else how often the clafer
-- may be there, times the sum of its owners' if it is nested
abbrev pub Solves : List Clafer → Given → (ℕ → ℕ) → Type 0
Solves clafers given of = (c : ℕ) → of c ≡ scope_over clafers given of c
