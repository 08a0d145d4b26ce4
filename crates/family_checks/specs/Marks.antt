-- Marks on clafers: what isn't marked has no reference, or hasn't the name of an inherited child.
use Rattle.std.specs.Prelude.{ℕ, ◌≡◌, Bool, true, List, get_or, Some, is_some}
use Rattle.clf_tree.specs.declared.model.Clafer.{Clafer}
use Rattle.clf_tree.specs.Hierarchy.{super_of, own_reference}
use Rattle.clf_tree.specs.Named.{repeats_inherited}

abbrev pub is_marked : List Bool → ℕ → Bool
is_marked marks c = get_or marks c true

-- a clafer with a reference is marked, and one whose super is
pub record GoDownAt (clafers : List Clafer) (marks : List Bool) (c : ℕ) : Type 0 where
  pub own : is_some (own_reference clafers c) ≡ true → is_marked marks c ≡ true
  pub inherited : (s : ℕ) → super_of clafers c ≡ Some s → is_marked marks s ≡ true → is_marked marks c ≡ true

-- marks that go down from a clafer with a reference to all that inherit from it
abbrev pub GoDown : List Clafer → List Bool → Type 0
GoDown clafers marks = (c : ℕ) → GoDownAt clafers marks c

-- a child that has the name of an inherited one is marked
abbrev pub MarkRepeats : List Clafer → List Bool → Type 0
MarkRepeats clafers marks = (c : ℕ) → repeats_inherited clafers c ≡ true → is_marked marks c ≡ true
