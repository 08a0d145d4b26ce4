-- A walk over the forest of supers: each clafer is entered before its heirs and left after them.
use Rattle.std.specs.Prelude.{ℕ, ◌≡◌, ◌<◌, ◌≤◌, ◌⊎◌, Bool, true, false, List, get_or, slice_get, bytes_eq, Option, Some, is_some}
use Rattle.std.specs.Option.{option_map_or}
use Rattle.clf_tree.specs.declared.model.Clafer.{Clafer}
use Rattle.clf_tree.specs.Lists.{has}
use Rattle.clf_tree.specs.Hierarchy.{super_of}
use Rattle.family_checks.specs.Marks.{is_marked}

-- when a clafer is entered, or left
abbrev pub turn_of : List ℕ → ℕ → ℕ
turn_of turns c = get_or turns c 0

pub record NestsAt (clafers : List Clafer) (enter leave : List ℕ) (c : ℕ) : Type 0 where
  pub ends : turn_of enter c ≤ turn_of leave c
  pub later : (s : ℕ) → super_of clafers c ≡ Some s → turn_of enter s < turn_of enter c
  pub inside : (s : ℕ) → super_of clafers c ≡ Some s → turn_of leave c ≤ turn_of leave s

abbrev pub Nest : List Clafer → List ℕ → List ℕ → Type 0
Nest clafers enter leave = (c : ℕ) → NestsAt clafers enter leave c

-- a nested clafer is in the order
abbrev pub MetAt : List Clafer → List ℕ → ℕ → Type 0
MetAt clafers order c = (k : Clafer) → slice_get clafers c ≡ Some k → is_some k.parent ≡ true → has order c ≡ true

abbrev pub Met : List Clafer → List ℕ → Type 0
Met clafers order = (c : ℕ) → MetAt clafers order c

-- a walk that nests, and an order in which each nested clafer is met
pub record IsTour (clafers : List Clafer) (enter leave order : List ℕ) : Type 0 where
  pub nest : Nest clafers enter leave
  pub met : Met clafers order

-- the turn that is kept for a name, 0 where none is
abbrev pub kept_turn : Option ℕ → ℕ
kept_turn turn = option_map_or (λ t. t) turn 0

-- A nested clafer is visited: for its name is kept when the last parent of a clafer of the name is left, and it is marked unless its
-- parent is entered after that. The turns at which parents are entered don't fall from visit to visit.
pub record Visited (clafers : List Clafer) (enter leave : List ℕ) (c turn next : ℕ) (before after : List ℕ → ℕ) (old new : List Bool) : Type 0 where
  pub clafer : Clafer
  pub parent : ℕ
  pub at : slice_get clafers c ≡ Some clafer
  pub declared : clafer.parent ≡ Some parent
  pub now : next ≡ turn_of enter parent
  pub in_order : turn ≤ next
  pub comes_after : is_marked new c ≡ false → before clafer.title.name < next
  pub marks_stay : (d : ℕ) → is_marked new d ≡ false → is_marked old d ≡ false
  pub own : (n : List ℕ) → bytes_eq clafer.title.name n ≡ true → turn_of leave parent ≤ after n
  pub later : (n : List ℕ) → before n ≤ after n

-- where c has the name of d, the parent of d is left before that of c is entered, or isn't entered before it
abbrev pub Apart : List Clafer → List ℕ → List ℕ → ℕ → ℕ → Type 0
Apart clafers enter leave c d =
    (k l : Clafer) (p q : ℕ) → slice_get clafers c ≡ Some k → k.parent ≡ Some p → slice_get clafers d ≡ Some l → l.parent ≡ Some q → bytes_eq k.title.name l.title.name ≡ true
    → (turn_of leave q < turn_of enter p) ⊎ (turn_of enter p ≤ turn_of enter q)

-- each clafer that isn't marked is apart from all in the order
abbrev pub AllApart : List Clafer → List ℕ → List ℕ → List ℕ → List Bool → Type 0
AllApart clafers enter leave order marks = (c d : ℕ) → has order c ≡ true → has order d ≡ true → is_marked marks c ≡ false → Apart clafers enter leave c d
