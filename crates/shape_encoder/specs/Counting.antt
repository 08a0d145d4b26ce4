-- What multiplicities and groups count, and how many wires the rules for them add.
use Rattle.std.specs.Prelude.{◌≡◌, ◌==◌, ◌+◌, ◌*◌, ◌<◌, ℕ, Bool, false, ◌&&◌, List, length, map, min, get_or, slice_get, slice_index_or, nat_lt, Option, Some, None, [], if◌then◌else◌, count_by}
use Rattle.std.specs.Option.{option_map_or, option_and_then}
use Rattle.std.specs.List.{All, filter, sum_by}
use Rattle.bool_circuit.specs.declared.gate.Wire.{Wire}
use Rattle.bool_circuit.specs.declared.gate.Gate.{Gate}
use Rattle.bool_circuit.specs.Circuit.{entry}
use Rattle.integer_bits.specs.Totals.{count_true}
use Rattle.clf_tree.specs.declared.model.Clafer.{Clafer}
use Rattle.clf_tree.specs.declared.module.Interval.{Interval}
use Rattle.clf_tree.specs.declared.instance.Node.{Node}
use Rattle.clf_tree.specs.Lists.{numbers_below}
use Rattle.clf_tree.specs.Hierarchy.{is_a}
use Rattle.int_widths.specs.Weight.{is_any}
use Rattle.set_bits.specs.declared.layout.Edge.{Edge}
use Rattle.set_bits.specs.declared.layout.Layout.{Layout}
use Rattle.set_bits.specs.Fitting.{slot_clafer}
use Rattle.shown_instance.specs.Shown.{is_live}
use Rattle.shown_instance.specs.Bounds.{is_declared_under}
use Rattle.shape_encoder.specs.Reading.{IsBit, range_cost}
use Rattle.shape_encoder.specs.declared.counted.Counted.{Counted}
use Rattle.shape_encoder.specs.declared.counted.Counted.TheVariants.{Instances, DeclaredUnder}
use Rattle.shape_encoder.specs.declared.children.Child.{Child}

-- ---- what is counted

-- whether the nodes of a clafer are counted
abbrev pub counts : Counted → List Clafer → ℕ → Bool
counts (Instances c) clafers d = is_a clafers d c
counts (DeclaredUnder c) clafers d = is_declared_under clafers c d

-- whether a clafer is marked
abbrev pub is_marked : List Bool → ℕ → Bool
is_marked marks d = slice_index_or marks d false

-- the node from which an edge leads, as a child
abbrev pub child : List Node → Edge → Child
child slots e = record { clafer = slot_clafer slots e.from; here = e.here }

-- what may be the children of a slot
abbrev pub children_at : List Node → List Edge → ℕ → List Child
children_at slots edges s = map (child slots) (filter (λ e. e.to == s) edges)

-- the table has them by slot
pub record AreChildren (slots : List Node) (edges : List Edge) (table : List (List Child)) : Type 0 where
  pub len : length table ≡ length slots
  pub at : (s : ℕ) → s < length slots → get_or table s [] ≡ children_at slots edges s

-- the wires of the children that are counted
abbrev pub counted_wires : (ℕ → Bool) → List Child → List Wire
counted_wires asked children = map (λ x. x.here) (filter (λ x. asked x.clafer) children)

-- the wires of those of the first n slots that are counted
pub record AreCountedLive (layout : Layout) (asked : ℕ → Bool) (n : ℕ) (wires : List Wire) : Type 0 where
  pub bits_of : (gates : List Gate) → All (IsBit gates) layout.live → All (IsBit gates) wires
  pub size : length wires ≡ count_by (λ i. asked (slot_clafer layout.slots i)) (numbers_below n)
  pub count : (bits : List Bool) → count_true (map (entry bits) wires) ≡ count_by (λ i. is_live layout bits i && asked (slot_clafer layout.slots i)) (numbers_below n)

-- ---- how many wires the rules add

-- an upper bound that is below n
abbrev pub clipped : Option ℕ → ℕ → Option ℕ
clipped high n = option_and_then (λ h. if nat_lt h n then Some h else None) high

-- the bound to which n wires are counted
abbrev pub most_counted : Interval → ℕ → ℕ
most_counted interval n = min n (option_map_or (λ high. high) interval.high interval.low)

-- for counting n wires up to u, and demanding what they tell
abbrev pub counted_cost : ℕ → ℕ → ℕ
counted_cost n u = 8 * (n * (u + 1))

-- for summing up n wires on eleven bits, and comparing the sum with two bounds
abbrev pub sum_cost : ℕ → ℕ
sum_cost n = 32 * ((n + 1) * (11 + 1)) + 2 + 2 + range_cost 11 11 11

-- for n nodes that are counted
abbrev pub slot_cost : Interval → ℕ → ℕ
slot_cost interval n = if is_any interval then 0 else 8 * (n * (most_counted interval n + 1))

-- how many children that are counted a slot may have
abbrev pub child_slots : Layout → (ℕ → Bool) → ℕ → ℕ
child_slots layout asked s = count_by (λ e. (e.to == s) && asked (slot_clafer layout.slots e.from)) layout.parents

-- for the first n slots, where those of some clafers count their children
abbrev pub each_cost : Layout → (ℕ → Bool) → (ℕ → Bool) → Interval → ℕ → ℕ
each_cost layout of asked interval n = sum_by (λ s. if of (slot_clafer layout.slots s) then slot_cost interval (child_slots layout asked s) else 0) (numbers_below n)

-- where the slots themselves are counted
abbrev pub counted_slots : Layout → (ℕ → Bool) → ℕ
counted_slots layout asked = count_by (λ i. asked (slot_clafer layout.slots i)) (numbers_below (length layout.slots))

abbrev pub whole_cost : Layout → (ℕ → Bool) → Interval → ℕ
whole_cost layout asked interval = slot_cost interval (counted_slots layout asked)

module _ (clafers : List Clafer) (layout : Layout) where
  -- for the multiplicity of the clafer k, with number c, and for its group
  abbrev pub times_cost : ℕ → Clafer → ℕ
  times_cost c k = option_map_or (λ p. each_cost layout (λ d. is_a clafers d p) (λ d. is_a clafers d c) k.times (length layout.slots)) k.parent (whole_cost layout (λ d. is_a clafers d c) k.times)

  abbrev pub group_cost : ℕ → Clafer → ℕ
  group_cost c k = each_cost layout (λ d. is_a clafers d c) (is_declared_under clafers c) k.group (length layout.slots)

  abbrev pub clafer_cost : ℕ → Clafer → ℕ
  clafer_cost c k = times_cost c k + group_cost c k

  -- for the first n clafers
  abbrev pub bounds_room : ℕ → ℕ
  bounds_room n = sum_by (λ c. option_map_or (clafer_cost c) (slice_get clafers c) 0) (numbers_below n)

  -- for all, and the slots that cannot be live
  abbrev pub bounds_cost : ℕ
  bounds_cost = bounds_room (length clafers) + 2 * length layout.slots + 3
