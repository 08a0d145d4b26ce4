-- What is demanded of bits, rule by rule: a wire that has to be true, and slots that cannot be live.
use Rattle.std.specs.Prelude.{◌≡◌, ◌*◌, ℕ, Bool, true, false, ◌&&◌, ◌||◌, not, List, length, slice_get, if◌then◌else◌}
use Rattle.std.specs.Option.{option_map_or}
use Rattle.std.specs.List.{list_all}
use Rattle.bool_circuit.specs.declared.gate.Wire.{Wire}
use Rattle.bool_circuit.specs.declared.gate.Gate.{Gate}
use Rattle.bool_circuit.specs.Circuit.{wire_value, IsWireOf, Extends}
use Rattle.clf_tree.specs.declared.model.Clafer.{Clafer}
use Rattle.clf_tree.specs.declared.module.Interval.{Interval}
use Rattle.clf_tree.specs.Lists.{numbers_below}
use Rattle.clf_tree.specs.Shape.{allows}
use Rattle.set_bits.specs.declared.layout.Layout.{Layout}
use Rattle.set_bits.specs.Fitting.{slot_clafer}
use Rattle.shown_instance.specs.Shown.{is_live}
use Rattle.shown_instance.specs.Bounds.{children_below, have_times, have_group}
use Rattle.shape_encoder.specs.declared.amounts.Allowed.{Allowed}
use Rattle.shape_encoder.specs.declared.amounts.Allowed.TheVariants.{Always, Never, Where}
use Rattle.shape_encoder.specs.declared.demands.Demands.{Demands}
use Rattle.shape_encoder.specs.Counting.{is_marked, slot_cost, child_slots, each_cost, bounds_room}

-- ---- what an answer tells

-- whether it allows
abbrev pub tells : List Gate → Allowed → List Bool → Bool
tells gates Always bits = true
tells gates Never bits = false
tells gates (Where w) bits = wire_value gates w bits

-- its wire, if it has one, is in the circuit
abbrev pub IsAnswerIn : List Gate → Allowed → Type 0
IsAnswerIn gates Always = Unit {0}
IsAnswerIn gates Never = Unit {0}
IsAnswerIn gates (Where w) = IsWireOf gates w

-- how many wires it takes to demand of a slot what the answer tells
abbrev pub demand_cost : Allowed → ℕ
demand_cost Always = 0
demand_cost Never = 0
demand_cost (Where w) = 3

-- ---- what is demanded

-- whether none of the first n slots is live that cannot be
abbrev pub are_dead : Layout → List Bool → List Bool → ℕ → Bool
are_dead layout dead bits n = list_all (λ s. not (is_marked dead s && is_live layout bits s)) (numbers_below n)

-- whether bits meet what is demanded
abbrev pub are_met : List Gate → Layout → Demands → List Bool → Bool
are_met gates layout d bits = (wire_value gates d.all bits && d.is_possible) && are_dead layout d.dead.items bits (length layout.slots)

-- the demands are of this circuit and of these slots
pub record AreDemands (gates : List Gate) (layout : Layout) (d : Demands) : Type 0 where
  pub wire : IsWireOf gates d.all
  pub slots : length d.dead.items ≡ length layout.slots

-- beside what was demanded, a test is demanded
pub record IsDemanded (old : List Gate) (layout : Layout) (before : Demands) (test : List Bool → Bool) (new : List Gate) (after : Demands) : Type 0 where
  pub demands : AreDemands new layout after
  pub value : (bits : List Bool) → are_met new layout after bits ≡ (are_met old layout before bits && test bits)

-- ---- what the rules demand

-- a slot, where it is live and its clafer is one of some, has as many counted children as are allowed
abbrev pub slot_test : Layout → (ℕ → Bool) → (ℕ → Bool) → Interval → ℕ → List Bool → Bool
slot_test layout of asked interval s bits = not (is_live layout bits s && of (slot_clafer layout.slots s)) || allows interval (children_below layout bits asked s)

abbrev pub owner_cost : Layout → (ℕ → Bool) → (ℕ → Bool) → Interval → ℕ → ℕ
owner_cost layout of asked interval s = if of (slot_clafer layout.slots s) then slot_cost interval (child_slots layout asked s) else 0

-- each of the first n slots has
abbrev pub slots_test : Layout → (ℕ → Bool) → (ℕ → Bool) → Interval → ℕ → List Bool → Bool
slots_test layout of asked interval n bits = list_all (λ s. slot_test layout of asked interval s bits) (numbers_below n)

-- the bounds of the clafer k, with number c, and those of the first n clafers
abbrev pub clafer_test : List Clafer → Layout → ℕ → Clafer → List Bool → Bool
clafer_test clafers layout c k bits = have_times clafers layout bits c k && have_group clafers layout bits c k

abbrev pub clafers_test : List Clafer → Layout → ℕ → List Bool → Bool
clafers_test clafers layout n bits = list_all (λ c. option_map_or (λ k. have_times clafers layout bits c k && have_group clafers layout bits c k) (slice_get clafers c) true) (numbers_below n)

-- ---- how far the loops are

-- the demands of the first n slots are made
pub record EachDemandedSoFar (old : List Gate) (layout : Layout) (before : Demands) (of asked : ℕ → Bool) (interval : Interval) (n : ℕ) (new : List Gate) (after : Demands) : Type 0 where
  pub extends : Extends old new (each_cost layout of asked interval n)
  pub demanded : IsDemanded old layout before (slots_test layout of asked interval n) new after

-- the demands of the first n clafers are made
pub record AllDemandedSoFar (old : List Gate) (clafers : List Clafer) (layout : Layout) (before : Demands) (n : ℕ) (new : List Gate) (after : Demands) : Type 0 where
  pub extends : Extends old new (bounds_room clafers layout n)
  pub demanded : IsDemanded old layout before (clafers_test clafers layout n) new after

-- a wire that is true where the demanded wire is, and none of the first n slots is live that cannot be
pub record IsMetSoFar (old : List Gate) (layout : Layout) (d : Demands) (n : ℕ) (new : List Gate) (wire : Wire) : Type 0 where
  pub extends : Extends old new (2 * n)
  pub is_wire : IsWireOf new wire
  pub value : (bits : List Bool) → wire_value new wire bits ≡ (wire_value old d.all bits && are_dead layout d.dead.items bits n)
