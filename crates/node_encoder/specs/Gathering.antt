-- The edges that lead from the members of a set to slots of some clafers.
use Rattle.std.specs.Prelude.{◌≡◌, ◌*◌, ◌≤◌, ℕ, Bool, true, List, length, map, count_by}
use Rattle.std.specs.List.{All}
use Rattle.bool_circuit.specs.declared.gate.Gate.{Gate}
use Rattle.bool_circuit.specs.Circuit.{IsWireOf}
use Rattle.set_bits.specs.declared.layout.Edge.{Edge}
use Rattle.set_bits.specs.declared.layout.Layout.{Layout}
use Rattle.set_bits.specs.declared.sets.Member.{Member}
use Rattle.set_bits.specs.Sets.{is_reached}
use Rattle.shape_encoder.specs.Reading.{IsBit}
use Rattle.told_constraints.specs.Told.{all_slots, is_listed, turned}
use Rattle.node_encoder.specs.declared.gathering.Step.{Step}
use Rattle.node_encoder.specs.declared.gathering.Step.TheVariants as step

-- the edges along which a step goes
abbrev pub edges_of : Layout → Step → List Edge
edges_of layout step.Down = map turned layout.parents
edges_of layout step.Up = layout.parents
edges_of layout step.Follow = layout.targets

-- edges that reach the same listed slots as all do, few of them
pub record AreGathered (layout : Layout) (edges : List Edge) (ks : List ℕ) (of : List Member) (found : List Edge) : Type 0 where
  pub reach : (gates : List Gate) (bits : List Bool) (s : ℕ) → is_listed layout ks s ≡ true → is_reached gates of found s bits ≡ is_reached gates of edges s bits
  pub wires : (gates : List Gate) → All (λ e. IsBit gates e.here) edges → All (λ e. IsWireOf gates e.here) found
  pub few : length found ≤ length of * count_by (is_listed layout ks) (all_slots layout)
