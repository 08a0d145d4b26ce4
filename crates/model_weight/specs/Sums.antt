-- Sums of scopes, one for each clafer.
use Rattle.std.specs.Prelude.{◌≡◌, ℕ, ◌+◌, ◌-◌, ◌^◌, List, [], ◌∷◌, map, sum, min, get_or, nat_eq, if◌then◌else◌}
use Rattle.std.specs.List.{filter}
use Rattle.clf_tree.specs.declared.model.Clafer.{Clafer}
use Rattle.clf_tree.specs.declared.scopes.Scopes.{Scopes}
use Rattle.clf_tree.specs.Lists.{numbers_below}
use Rattle.clf_tree.specs.Hierarchy.{is_concrete, is_one_of}
use Rattle.clf_tree.specs.Nodes.{scope_of}
use Rattle.clf_tree.specs.Kinds.{is_child}
use Rattle.clf_tree.specs.Intervals.{room}
use Rattle.int_widths.specs.Weight.{child_room}

-- as far as 64 bits count
abbrev pub held : ℕ → ℕ
held n = min n (2 ^ 64 - 1)

-- a sum once each clafer of a list has added to its own
abbrev pub added : List ℕ → ℕ → ℕ → ℕ → ℕ
added [] more c total = total
added (v ∷ vs) more c total = added vs more c (if nat_eq v c then held (total + more) else total)

module _ (clafers : List Clafer) (scopes : Scopes) where
  -- of each clafer the sum of the scopes of those that are-a it, and of those that are declared directly under it
  abbrev pub HoldsRooms : List ℕ → Type 0
  HoldsRooms sums = (c : ℕ) → get_or sums c 0 ≡ room clafers scopes (c ∷ [])

  abbrev pub HoldsChildren : List ℕ → Type 0
  HoldsChildren sums = (c : ℕ) → get_or sums c 0 ≡ child_room clafers scopes c

  -- the same of the clafers below n alone
  abbrev pub room_below : ℕ → ℕ → ℕ
  room_below c n = sum (map (scope_of scopes) (filter (is_one_of clafers (c ∷ [])) (filter (is_concrete clafers) (numbers_below n))))

  abbrev pub children_below : ℕ → ℕ → ℕ
  children_below c n = sum (map (scope_of scopes) (filter (is_child clafers c) (numbers_below n)))

  abbrev pub AreRoomsBelow : ℕ → List ℕ → Type 0
  AreRoomsBelow n sums = (c : ℕ) → get_or sums c 0 ≡ held (room_below c n)

  abbrev pub AreChildrenBelow : ℕ → List ℕ → Type 0
  AreChildrenBelow n sums = (c : ℕ) → get_or sums c 0 ≡ held (children_below c n)
