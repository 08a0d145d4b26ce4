-- The members of bound nodes and of clafers.
use Rattle.std.specs.Prelude.{◌≡◌, ℕ, Bool, true, List, nat_eq, slice_get}
use Rattle.std.specs.List.{filter, flat_map}
use Rattle.bool_circuit.specs.declared.gate.Gate.{Gate}
use Rattle.set_bits.specs.declared.sets.Member.{Member}
use Rattle.set_bits.specs.declared.layout.Layout.{Layout}
use Rattle.set_bits.specs.Fitting.{slot_clafer}
use Rattle.set_bits.specs.Merging.{members_at}
use Rattle.set_bits.specs.Sets.{is_in, IsSetOf}
use Rattle.told_constraints.specs.Told.{all_slots, is_listed}
use Rattle.node_encoder.specs.Listing.{AreListed}

-- a slot on its own wire
abbrev pub own_members : Layout → ℕ → List Member
own_members layout s = members_at s (slice_get layout.live s)

-- the slots of a clafer on their own wires
abbrev pub members_of : Layout → ℕ → List Member
members_of layout k = flat_map (own_members layout) (filter (λ s. nat_eq (slot_clafer layout.slots s) k) (all_slots layout))

-- the set of a single slot, which is always in it
pub record IsOneSlot (gates : List Gate) (slot : ℕ) (set : List Member) : Type 0 where
  pub is_set : IsSetOf gates set
  pub value : (bits : List Bool) (s : ℕ) → is_in gates set s bits ≡ nat_eq slot s
  pub slots : (layout : Layout) (ks : List ℕ) → is_listed layout ks slot ≡ true → AreListed layout ks set
