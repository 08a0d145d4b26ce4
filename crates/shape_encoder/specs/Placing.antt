-- Which nodes have to be tied to another one, and how far the rules for it have come.
use Rattle.std.specs.Prelude.{◌≡◌, ◌+◌, ◌*◌, ℕ, Bool, false, ◌&&◌, ◌||◌, not, List, length, Option, is_some, slice_get, take}
use Rattle.std.specs.Option.{option_map_or}
use Rattle.std.specs.List.{list_all}
use Rattle.bool_circuit.specs.declared.gate.Wire.{Wire}
use Rattle.bool_circuit.specs.declared.gate.Gate.{Gate}
use Rattle.bool_circuit.specs.Circuit.{wire_value, entry, IsWireOf, Extends}
use Rattle.clf_tree.specs.declared.model.Clafer.{Clafer}
use Rattle.clf_tree.specs.Lists.{numbers_below}
use Rattle.clf_tree.specs.Hierarchy.{parent_of, target_of}
use Rattle.set_bits.specs.declared.layout.Edge.{Edge}
use Rattle.set_bits.specs.declared.layout.Layout.{Layout}
use Rattle.set_bits.specs.Fitting.{slot_clafer}
use Rattle.set_bits.specs.Sets.{is_here}
use Rattle.set_bits.specs.Reaching.{wire_at}
use Rattle.shown_instance.specs.Shown.{is_live}
use Rattle.shape_encoder.specs.declared.placement.Tie.{Tie}
use Rattle.shape_encoder.specs.declared.placement.Tie.TheVariants.{Parent, Target}

-- whether each instance of a clafer has a parent, or a node as its target
abbrev pub asks : Tie → List Clafer → ℕ → Bool
asks Parent clafers c = is_some (parent_of clafers c)
asks Target clafers c = is_some (target_of clafers c)

-- a wire that is true where each of the first n slots that has to be tied is dead or has its wire
pub record HaveOneSoFar (old : List Gate) (asked : ℕ → Bool) (layout : Layout) (table : List (Option Wire)) (n : ℕ) (new : List Gate) (wire : Wire) : Type 0 where
  pub extends : Extends old new (3 * n + 1)
  pub is_wire : IsWireOf new wire
  pub value : (bits : List Bool) → wire_value new wire bits ≡ list_all (λ i. not (is_live layout bits i && asked (slot_clafer layout.slots i)) || is_here old (wire_at table i) bits) (numbers_below n)

-- whether a wire leads to a live slot
abbrev pub lands : List Wire → List Bool → Edge → Bool
lands live bits e = not (entry bits e.here) || option_map_or (entry bits) (slice_get live e.to) false

-- a wire that is true where the first n edges that are taken lead to live slots
pub record LandSoFar (old : List Gate) (live : List Wire) (edges : List Edge) (n : ℕ) (new : List Gate) (wire : Wire) : Type 0 where
  pub extends : Extends old new (3 * n + 1)
  pub is_wire : IsWireOf new wire
  pub value : (bits : List Bool) → wire_value new wire bits ≡ list_all (lands live bits) (take n edges)

-- how many wires the rules for one kind of edges add
abbrev pub placed_cost : Layout → List Edge → ℕ
placed_cost layout edges = (4 * length edges + 1) + (3 * length layout.live + 1) + (3 * length edges + 1) + 1
