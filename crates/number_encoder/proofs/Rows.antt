-- The definitions at small examples.
use Rattle.std.proofs.Common.{◌≡◌, ℕ, true, false, List, [], ◌∷◌, refl}
use Rattle.std.specs.Prelude.{pos, negsuc}
use Rattle.bool_circuit.specs.declared.gate.Wire.{Wire}
use Rattle.bool_circuit.specs.declared.gate.Gate.{Gate}
use Rattle.bool_circuit.specs.declared.gate.Gate.TheVariants.{Constant}
use Rattle.bool_circuit.specs.Circuit.{wire_value, values}
use Rattle.integer_bits.specs.declared.totals.Part.{Part}
use Rattle.set_bits.specs.declared.layout.Layout.{Layout}
use Rattle.number_encoder.specs.Costs.{count_width, count_cost, values_cost}
use Rattle.number_encoder.specs.Values.{present_values, widest, part_for, summand_for}
use Rattle.number_encoder.specs.Comparing.{seen_more, all_marked}

wire : ℕ → Wire
wire n = record { number = n }

-- five members are counted on four bits, and on two where no more are asked for
a_count : count_width 8 5 ≡ 4
unfolding count_width
a_count = refl

a_narrow_count : count_width 2 5 ≡ 2
unfolding count_width
a_narrow_count = refl

a_count_costs : count_cost 8 5 ≡ 960
unfolding count_cost count_width
a_count_costs = refl

-- two parts against three, of at most four bits; and nothing against nothing
a_comparison_costs : values_cost 2 3 4 ≡ 162
unfolding values_cost
a_comparison_costs = refl

nothing_costs : values_cost 0 0 0 ≡ 3
unfolding values_cost
nothing_costs = refl

-- the first of two integers is seen where a part with it is there, and none where it isn't
one_seen : seen_more true (pos 3) (false ∷ false ∷ []) (pos 3 ∷ negsuc 3 ∷ []) ≡ true ∷ false ∷ []
one_seen = refl

none_seen : seen_more false (pos 3) (false ∷ true ∷ []) (pos 3 ∷ negsuc 3 ∷ []) ≡ false ∷ true ∷ []
none_seen = refl

-- a part that isn't there need not be seen
all_right : all_marked (true ∷ false ∷ []) (true ∷ false ∷ []) ≡ true
all_right = refl

one_missing : all_marked (true ∷ true ∷ []) (true ∷ false ∷ []) ≡ false
one_missing = refl

-- a false wire and a true one
gates : List Gate
gates = Constant false ∷ Constant true ∷ []

-- two parts, of which the second is there, with the integer -1
two : List Part
two = record { here = wire 0; bits = wire 0 ∷ wire 1 ∷ wire 0 ∷ [] } ∷ record { here = wire 1; bits = wire 1 ∷ [] } ∷ []

one_present : present_values gates two [] ≡ negsuc 0 ∷ []
unfolding wire_value values gates two wire
one_present = refl

the_widest : widest two ≡ 3
unfolding two wire
the_widest = refl

-- of two slots the second has an integer
layout : Layout
layout = record { slots = []; live = []; parents = []; targets = []; values = record { slot = 1; bits = wire 4 ∷ wire 5 ∷ [] } ∷ [] }

with_integer : part_for layout (wire 0) (record { slot = 1; here = wire 1 }) ≡ record { here = wire 1; bits = wire 4 ∷ wire 5 ∷ [] }
unfolding layout wire
with_integer = refl

without_integer : part_for layout (wire 0) (record { slot = 0; here = wire 1 }) ≡ record { here = wire 1; bits = wire 0 ∷ [] }
unfolding layout wire
without_integer = refl

no_summand : summand_for layout (record { slot = 0; here = wire 1 }) ≡ []
unfolding layout
no_summand = refl
