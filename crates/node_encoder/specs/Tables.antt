-- Tables of a layout by slot and by clafer.
use Rattle.std.specs.Prelude.{◌≡◌, ℕ, List, [], nat_eq, Option, None, slice_get, slice_index_or}
use Rattle.std.specs.Option.{option_and_then}
use Rattle.std.specs.List.{filter, find}
use Rattle.set_bits.specs.declared.layout.Edge.{Edge}
use Rattle.set_bits.specs.declared.layout.Layout.{Layout}
use Rattle.set_bits.specs.Fitting.{slot_clafer}
use Rattle.shown_instance.specs.Shown.{is_at}
use Rattle.told_constraints.specs.Told.{all_slots}

-- of each slot the edges that lead from it, in their order
pub record AreBySlot (edges : List Edge) (table : List (List Edge)) : Type 0 where
  pub at : (s : ℕ) → slice_index_or table s [] ≡ filter (λ e. nat_eq e.from s) edges

-- of each clafer its slots, ascending
pub record AreByClafer (layout : Layout) (table : List (List ℕ)) : Type 0 where
  pub at : (k : ℕ) → slice_index_or table k [] ≡ filter (λ s. nat_eq (slot_clafer layout.slots s) k) (all_slots layout)

-- of each slot the place of its integer among the layout's values, if it has one
pub record AreIntegers (layout : Layout) (table : List (Option ℕ)) : Type 0 where
  pub at : (s : ℕ) → option_and_then (slice_get layout.values) (slice_index_or table s None) ≡ find (is_at s) layout.values
