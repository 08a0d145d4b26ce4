-- When the entries that bits tell have different targets where references are of set kind.
use Rattle.std.specs.Prelude.{ℕ, ◌==◌, ◌&&◌, ◌||◌, Bool, true, not, List, [], length, slice_get, nat_lt, is_none}
use Rattle.std.specs.Ordering.{int_eq}
use Rattle.std.specs.Option.{option_map_or}
use Rattle.std.specs.List.{list_any}
use Rattle.integer_bits.specs.Numbers.{integer_of}
use Rattle.clf_tree.specs.declared.model.Clafer.{Clafer}
use Rattle.clf_tree.specs.declared.module.Interval.{Interval}
use Rattle.clf_tree.specs.Lists.{numbers_below, each_two}
use Rattle.clf_tree.specs.Hierarchy.{parent_of}
use Rattle.clf_tree.specs.Shape.{is_set}
use Rattle.set_bits.specs.declared.layout.Edge.{Edge}
use Rattle.set_bits.specs.declared.layout.SlotBits.{SlotBits}
use Rattle.set_bits.specs.declared.layout.Layout.{Layout}
use Rattle.set_bits.specs.Fitting.{slot_clafer}
use Rattle.set_bits.specs.Showing.{value_bits}
use Rattle.shown_instance.specs.Shown.{is_live, is_taken}

-- whether an edge is taken that leads from slot i to slot k
abbrev pub leads_there : List Edge → List Bool → ℕ → ℕ → Bool
leads_there edges bits i k = list_any (λ e. is_taken bits i e && (e.to == k)) edges

-- whether taken edges of two slots lead to one slot
abbrev pub lead_together : List Edge → List Bool → ℕ → ℕ → Bool
lead_together edges bits i j = list_any (λ e. is_taken bits i e && leads_there edges bits j e.to) edges

abbrev pub allows_two : Interval → Bool
allows_two times = option_map_or (λ high. nat_lt 1 high) times.high true

-- whether the reference of a clafer is of set kind, and two of its instances can have one parent, or none
abbrev pub tells_apart : List Clafer → ℕ → Bool
tells_apart clafers c = is_set clafers [] c && option_map_or (λ k. is_none k.parent || allows_two k.times) (slice_get clafers c) true

module _ (clafers : List Clafer) (layout : Layout) (bits : List Bool) where
  -- whether two slots are of one such clafer, and have one parent if it is nested
  abbrev pub are_compared : ℕ → ℕ → Bool
  are_compared i j =
      (slot_clafer layout.slots i == slot_clafer layout.slots j) && tells_apart clafers (slot_clafer layout.slots i)
      && (is_none (parent_of clafers (slot_clafer layout.slots i)) || lead_together layout.parents bits i j)

  -- then their targets are different
  abbrev pub targets_differ : ℕ → ℕ → Bool
  targets_differ i j = not (are_compared i j && lead_together layout.targets bits i j)

  -- and so are the integers of two live ones
  abbrev pub integers_differ : SlotBits → SlotBits → Bool
  integers_differ v w =
      not (are_compared v.slot w.slot && (is_live layout bits v.slot && is_live layout bits w.slot) && int_eq (integer_of (value_bits bits v)) (integer_of (value_bits bits w)))

  -- of all slots
  abbrev pub have_sets : Bool
  have_sets = each_two targets_differ (numbers_below (length layout.slots)) && each_two integers_differ layout.values
