-- Edges and integers, and the inputs that they have so far.
use Rattle.std.specs.Prelude.{◌≡◌, ℕ, ◌+◌, ◌*◌, ◌≤◌, List, [], length, map, Option}
use Rattle.std.specs.Option.{option_map_or}
use Rattle.std.specs.List.{All, filter, range_with_len}
use Rattle.bool_circuit.specs.declared.gate.Gate.{Gate}
use Rattle.clf_tree.specs.declared.model.Clafer.{Clafer}
use Rattle.clf_tree.specs.declared.instance.Node.{Node}
use Rattle.clf_tree.specs.Lists.{numbers_below, has}
use Rattle.clf_tree.specs.Hierarchy.{parent_of, target_of, refers_to_int, concrete_below}
use Rattle.set_bits.specs.declared.layout.Edge.{Edge}
use Rattle.set_bits.specs.declared.layout.SlotBits.{SlotBits}
use Rattle.set_bits.specs.Fitting.{IsRead, slot_clafer, ends, edge_wires, value_wires}
use Rattle.instance_encoder.specs.declared.near.Tie.{Tie}
use Rattle.instance_encoder.specs.declared.near.Tie.TheVariants.{Parent, Target}

-- the clafer under which a clafer is declared, or to which it refers
abbrev pub declared_end : Tie → List Clafer → ℕ → Option ℕ
declared_end Parent clafers c = parent_of clafers c
declared_end Target clafers c = target_of clafers c

-- the concrete clafers that are-a this one
abbrev pub near_of : Tie → List Clafer → ℕ → List ℕ
near_of tie clafers c = option_map_or (concrete_below clafers) (declared_end tie clafers c) []

-- the slots of the instances of a clafer
abbrev pub slots_below : List Clafer → List Node → ℕ → List ℕ
slots_below clafers slots high = filter (λ j. has (concrete_below clafers high) (slot_clafer slots j)) (numbers_below (length slots))

-- the slots to which a slot of the clafer can be tied
abbrev pub near_slots : Tie → List Clafer → List Node → ℕ → List ℕ
near_slots tie clafers slots c = option_map_or (slots_below clafers slots) (declared_end tie clafers c) []

-- the edges have these ends and the inputs from `first` on, and the circuit has no wire behind them
pub record IsWiredSoFar (first most : ℕ) (pairs : List (ℕ × ℕ)) (gates : List Gate) (edges : List Edge) : Type 0 where
  pub read : IsRead gates (length gates)
  pub size : length gates ≡ first + length edges
  pub few : length edges ≤ most
  pub ends_so_far : ends edges ≡ pairs
  pub wires : edge_wires edges ≡ range_with_len first (length edges)

-- the integers of the first n slots have the inputs from `first` on, so many each, and the circuit has no wire behind them
pub record IsValuedSoFar (clafers : List Clafer) (slots : List Node) (first bits n : ℕ) (gates : List Gate) (values : List SlotBits) : Type 0 where
  pub read : IsRead gates (length gates)
  pub size : length gates ≡ first + length (value_wires values)
  pub few : length (value_wires values) ≤ n * bits
  pub slots_so_far : map (λ v. v.slot) values ≡ filter (λ i. refers_to_int clafers (slot_clafer slots i)) (numbers_below n)
  pub widths : All (λ v. length v.bits ≡ bits) values
  pub wires : value_wires values ≡ range_with_len first (length (value_wires values))

-- the most inputs that n slots can take: one each, two edges for each pair of slots, and 127 bits of an integer each
abbrev pub most_inputs : ℕ → ℕ
most_inputs n = n + 2 * (n * n) + 127 * n
