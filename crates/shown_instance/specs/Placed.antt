-- When the entries that bits tell have the parents and targets that they have to have.
use Rattle.std.specs.Prelude.{ℕ, ◌&&◌, ◌||◌, not, List, length, Bool, is_some}
use Rattle.std.specs.List.{list_all}
use Rattle.bool_circuit.specs.Circuit.{entry}
use Rattle.clf_tree.specs.declared.model.Clafer.{Clafer}
use Rattle.clf_tree.specs.Lists.{numbers_below}
use Rattle.clf_tree.specs.Hierarchy.{parent_of, target_of}
use Rattle.set_bits.specs.declared.layout.Edge.{Edge}
use Rattle.set_bits.specs.declared.layout.Layout.{Layout}
use Rattle.set_bits.specs.Fitting.{slot_clafer}
use Rattle.shown_instance.specs.Shown.{is_live}
use Rattle.shown_instance.specs.Consistent.{has_taken}

-- of each live slot whose clafer asks for one an edge is taken
abbrev pub have_taken : (ℕ → Bool) → Layout → List Edge → List Bool → Bool
have_taken asks layout edges bits = list_all (λ i. not (is_live layout bits i && asks (slot_clafer layout.slots i)) || has_taken edges bits i) (numbers_below (length layout.slots))

-- each edge that is taken leads to a live slot
abbrev pub lead_to_live : Layout → List Edge → List Bool → Bool
lead_to_live layout edges bits = list_all (λ e. not (entry bits e.here) || is_live layout bits e.to) edges

-- each live slot of a nested clafer has a parent, and parents are live
abbrev pub have_parents : List Clafer → Layout → List Bool → Bool
have_parents clafers layout bits = have_taken (λ c. is_some (parent_of clafers c)) layout layout.parents bits && lead_to_live layout layout.parents bits

-- each live slot whose clafer refers to a clafer has a target, and targets are live
abbrev pub have_targets : List Clafer → Layout → List Bool → Bool
have_targets clafers layout bits = have_taken (λ c. is_some (target_of clafers c)) layout layout.targets bits && lead_to_live layout layout.targets bits
