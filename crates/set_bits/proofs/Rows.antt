-- Which slots an image may have, and what is made of two sets at a slot, on worked rows: a set of the slots 1 and 3, edges 1 -> 2 and 0 -> 4.
use Rattle.std.proofs.Common.{◌≡◌, true, false, List, [], ◌∷◌, refl}
use Rattle.set_bits.specs.declared.sets.Member.{Member}
use Rattle.set_bits.specs.declared.sets.Operation.TheVariants.{Meet, Minus, Differ}
use Rattle.set_bits.specs.declared.layout.Edge.{Edge}
use Rattle.set_bits.specs.Sets.{combined, may_combine, has_slot, leads_to}

abbrev set : List Member
set = record { slot = 1; here = record { number = 0 } } ∷ record { slot = 3; here = record { number = 1 } } ∷ []

abbrev edges : List Edge
edges = record { from = 1; to = 2; here = record { number = 2 } } ∷ record { from = 0; to = 4; here = record { number = 3 } } ∷ []

an_edge_leads_to_two : leads_to set edges 2 ≡ true
an_edge_leads_to_two = refl

none_from_a_member_leads_to_four : leads_to set edges 4 ≡ false
none_from_a_member_leads_to_four = refl

none_leads_to_a_start : leads_to set edges 1 ≡ false
none_leads_to_a_start = refl

three_is_a_slot : has_slot set 3 ≡ true
three_is_a_slot = refl

in_both_they_do_not_differ : combined Differ true true ≡ false
in_both_they_do_not_differ = refl

in_one_they_differ : combined Differ false true ≡ true
in_one_they_differ = refl

no_slot_of_the_second_alone : may_combine Minus false true ≡ false
no_slot_of_the_second_alone = refl

no_slot_of_the_first_alone : may_combine Meet true false ≡ false
no_slot_of_the_first_alone = refl
