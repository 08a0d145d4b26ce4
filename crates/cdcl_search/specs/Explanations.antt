-- Why a clause is false: the resolution steps that lead from it to the marked literals.
use Rattle.std.specs.Prelude.{ℕ, ◌≡◌, ◌≢◌, ◌-◌, ◌<◌, [], List, length, get_or}
use Rattle.cdcl_search.specs.declared.trail.Trail.{Trail}
use Rattle.cdcl_search.specs.declared.analysis.Analysis.{Analysis}
use Rattle.cdcl_search.specs.Derivations.{AreLawful, resolved}
use Rattle.cdcl_search.specs.Marks.{Covers, IsMarked}

-- the marks stand for what the steps make of the start clause
pub record IsExplained (store : List (List ℕ)) (t : Trail) (base : ℕ) (a : Analysis) : Type 0 where
  pub start : a.start < length store
  pub marked : IsMarked t.values.items t.places.items base (length t.literals.items) a.marks.items a.lower.items a.counter
  pub lawful : AreLawful store (get_or store a.start []) a.steps.items
  pub covers : Covers t.values.items t.places.items a.marks.items (resolved store (get_or store a.start []) a.steps.items)

-- where the last level begins, and how many literals of it a clause that is learned keeps
pub record IsBase (t : Trail) (base floor : ℕ) : Type 0 where
  pub first : length t.limits.items ≡ 0 → (base ≡ 0) × (floor ≡ 0)
  pub later : 0 < length t.limits.items → (base ≡ get_or t.limits.items (length t.limits.items - 1) 0) × (floor ≡ 1)

abbrev pub AreMarksBelow : List ℕ → ℕ → Type 0
AreMarksBelow m top = (p : ℕ) → get_or m p 0 ≢ 0 → p < top
