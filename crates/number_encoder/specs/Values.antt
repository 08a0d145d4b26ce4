-- Members of a set and numbers as parts with integers.
use Rattle.std.specs.Prelude.{ℕ, ◌*◌, Bool, if◌then◌else◌, List, [], ◌∷◌, length, max, ℤ}
use Rattle.std.specs.Option.{option_map_or}
use Rattle.std.specs.List.{find}
use Rattle.bool_circuit.specs.declared.gate.Wire.{Wire}
use Rattle.bool_circuit.specs.declared.gate.Gate.{Gate}
use Rattle.bool_circuit.specs.Circuit.{wire_value}
use Rattle.integer_bits.specs.declared.totals.Part.{Part}
use Rattle.integer_bits.specs.Numbers.{integer_at}
use Rattle.set_bits.specs.declared.sets.Member.{Member}
use Rattle.set_bits.specs.declared.layout.Layout.{Layout}
use Rattle.shown_instance.specs.Shown.{is_at}
use Rattle.number_encoder.specs.Costs.{pair_cost, row_cost}

-- the integers of the parts that are there, in order
abbrev pub present_values : List Gate → List Part → List Bool → List ℤ
present_values gates [] bits = []
present_values gates (p ∷ ps) bits =
    if wire_value gates p.here bits then integer_at gates p.bits bits ∷ present_values gates ps bits else present_values gates ps bits

-- the slots of the members that are there, in order
abbrev pub present_slots : List Gate → List Member → List Bool → List ℕ
present_slots gates [] bits = []
present_slots gates (m ∷ ms) bits =
    if wire_value gates m.here bits then m.slot ∷ present_slots gates ms bits else present_slots gates ms bits

-- the most bits that one of the parts has
abbrev pub widest : List Part → ℕ
widest [] = 0
widest (p ∷ ps) = max (length p.bits) (widest ps)

-- the most bits that a part and some others have, and that two lists of parts have
abbrev pub part_width : Part → List Part → ℕ
part_width p ps = max (length p.bits) (widest ps)

abbrev pub both_width : List Part → List Part → ℕ
both_width ps qs = max (widest ps) (widest qs)

-- how many wires it takes to compare a part with others, and parts with others
abbrev pub pairs_cost : Part → List Part → ℕ
pairs_cost p ps = length ps * pair_cost (part_width p ps)

abbrev pub rows_cost : List Part → List Part → ℕ
rows_cost ps qs = length ps * row_cost (length qs) (both_width ps qs)

-- a member with the wires of its slot's integer, or with the wire `none` alone where its slot has no integer
abbrev pub part_for : Layout → Wire → Member → Part
part_for layout none m = record { here = m.here; bits = option_map_or (λ v. v.bits) (find (is_at m.slot) layout.values) (none ∷ []) }

-- a member with the wires of its slot's integer, if it has one
abbrev pub summand_for : Layout → Member → List Part
summand_for layout m = option_map_or (λ v. record { here = m.here; bits = v.bits } ∷ []) (find (is_at m.slot) layout.values) []
