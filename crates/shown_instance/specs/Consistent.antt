-- When bits show some instance.
use Rattle.std.specs.Prelude.{ℕ, ◌==◌, ◌&&◌, ◌||◌, not, List, length, Bool, int_le, if◌then◌else◌}
use Rattle.std.specs.List.{list_all, list_any}
use Rattle.bool_circuit.specs.Circuit.{entry}
use Rattle.integer_bits.specs.Numbers.{integer_of}
use Rattle.clf_tree.specs.declared.model.Clafer.{Clafer}
use Rattle.clf_tree.specs.declared.scopes.Scopes.{Scopes}
use Rattle.clf_tree.specs.Lists.{numbers_below, each_two}
use Rattle.clf_tree.specs.Hierarchy.{is_concrete}
use Rattle.clf_tree.specs.Nodes.{scope_of}
use Rattle.set_bits.specs.declared.layout.Edge.{Edge}
use Rattle.set_bits.specs.declared.layout.SlotBits.{SlotBits}
use Rattle.set_bits.specs.declared.layout.Layout.{Layout}
use Rattle.set_bits.specs.Showing.{value_bits}
use Rattle.shown_instance.specs.Shown.{is_live, is_taken}

-- abstract clafers have no instances within the scopes
abbrev pub abstract_are_empty : List Clafer → Scopes → Bool
abstract_are_empty clafers scopes = list_all (λ c. is_concrete clafers c || (scope_of scopes c == 0)) (numbers_below (length clafers))

-- whether an edge of a slot is taken
abbrev pub has_taken : List Edge → List Bool → ℕ → Bool
has_taken edges bits i = list_any (is_taken bits i) edges

-- each slot of which an edge is taken is live
abbrev pub lead_from_live : Layout → List Edge → List Bool → Bool
lead_from_live layout edges bits = list_all (λ i. not (has_taken edges bits i) || is_live layout bits i) (numbers_below (length layout.slots))

-- no two edges of one slot are taken
abbrev pub are_single : List Edge → List Bool → Bool
are_single edges bits = each_two (λ e f. not (is_taken bits f.from e && entry bits f.here)) edges

-- the integer of a live slot is in the range, and the bits of another one are all false
abbrev pub is_integer : Scopes → Layout → List Bool → SlotBits → Bool
is_integer scopes layout bits v =
    if is_live layout bits v.slot then (int_le scopes.low (integer_of (value_bits bits v)) && int_le (integer_of (value_bits bits v)) scopes.high) else list_all not (value_bits bits v)

abbrev pub are_integers : Scopes → Layout → List Bool → Bool
are_integers scopes layout bits = list_all (is_integer scopes layout bits) layout.values

-- the edges lead from live slots, and one of each at most is taken
abbrev pub are_edges : Layout → List Edge → List Bool → Bool
are_edges layout edges bits = lead_from_live layout edges bits && are_single edges bits

-- the bits show some instance
abbrev pub is_consistent : Scopes → Layout → List Bool → Bool
is_consistent scopes layout bits = are_edges layout layout.parents bits && are_edges layout layout.targets bits && are_integers scopes layout bits
