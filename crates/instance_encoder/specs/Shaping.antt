-- How many wires the rules of shape add.
use Rattle.std.specs.Prelude.{◌+◌, ◌*◌, ◌==◌, ℕ, List, length, if◌then◌else◌}
use Rattle.clf_tree.specs.declared.model.Clafer.{Clafer}
use Rattle.clf_tree.specs.declared.scopes.Scopes.{Scopes}
use Rattle.set_bits.specs.declared.layout.Layout.{Layout}
use Rattle.shape_encoder.specs.Reading.{consistent_cost}
use Rattle.shape_encoder.specs.Placing.{placed_cost}
use Rattle.shape_encoder.specs.Counting.{bounds_cost}
use Rattle.shape_encoder.specs.Comparing.{sets_cost}

-- for all five rules, and their conjunction
abbrev pub rules_cost : List Clafer → Scopes → Layout → ℕ
rules_cost clafers scopes layout =
    consistent_cost scopes layout + placed_cost layout layout.parents + placed_cost layout layout.targets + bounds_cost clafers layout + sets_cost clafers layout + 4

-- a layout without slots is asked for the bounds alone
abbrev pub shape_cost : List Clafer → Scopes → Layout → ℕ
shape_cost clafers scopes layout = if length layout.slots == 0 then bounds_cost clafers layout else rules_cost clafers scopes layout

-- wires beside those of the shape: what the weight has left for a test of which slots are used
abbrev pub slots_room : Layout → ℕ
slots_room layout = 12 * length layout.parents + 5 * length layout.slots + 1
