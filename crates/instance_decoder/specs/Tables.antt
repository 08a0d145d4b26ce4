-- Tables of what true bits say of the slots.
use Rattle.std.specs.Prelude.{◌≡◌, ℕ, ◌<◌, List, length, Bool, Option, None, slice_index_or, ℤ}
use Rattle.std.specs.Option.{option_map}
use Rattle.std.specs.List.{find}
use Rattle.set_bits.specs.declared.layout.Edge.{Edge}
use Rattle.set_bits.specs.declared.layout.SlotBits.{SlotBits}
use Rattle.shown_instance.specs.Shown.{is_taken, integer_at}

-- at each slot the end of the first taken edge that leads from it
pub record HoldsEnds (bits : List Bool) (edges : List Edge) (table : List (Option ℕ)) : Type 0 where
  pub ends : (i : ℕ) → i < length table → slice_index_or table i None ≡ option_map (λ e. e.to) (find (is_taken bits i) edges)

-- at each slot its integer
pub record HoldsIntegers (bits : List Bool) (values : List SlotBits) (table : List (Option ℤ)) : Type 0 where
  pub integers : (i : ℕ) → i < length table → slice_index_or table i None ≡ integer_at values bits i
