-- What is told on a layout of two clafers, computed: `a -> b`, and `b -> integer` under `a`; one `a` and two `b` at most.
use Rattle.std.proofs.Common.{◌≡◌, ℕ, Bool, true, false, List, [], ◌∷◌, refl, ℤ, pos, negsuc}
use Rattle.bool_circuit.specs.declared.gate.Wire.{Wire}
use Rattle.integer_bits.specs.Numbers.{cut, spelled}
use Rattle.clf_tree.specs.declared.core_expr.Quantifier.TheVariants as word
use Rattle.clf_tree.specs.declared.instance.Node.{Node}
use Rattle.clf_tree.specs.Core as c
use Rattle.clf_tree.specs.Core.{Core}
use Rattle.set_bits.specs.declared.layout.Edge.{Edge}
use Rattle.set_bits.specs.declared.layout.Layout.{Layout}
use Rattle.told_constraints.specs.Formed.{is_formed}
use Rattle.told_constraints.specs.Standing.{stand_for, nodes_at, clafers_at}
use Rattle.told_constraints.specs.Told.{told, told_set, told_number, told_truth, members, is_listed, slot_integer, as_many}

abbrev node : ℕ → ℕ → Node
node k n = record { clafer = k; number = n }

abbrev wire : ℕ → Wire
wire n = record { number = n }

abbrev edge : ℕ → ℕ → ℕ → Edge
edge i j w = record { from = i; to = j; here = wire w }

-- the slots are those of a$0, b$0 and b$1
abbrev layout : Layout
layout = record {
  slots = node 0 0 ∷ node 1 0 ∷ node 1 1 ∷ [];
  live = wire 0 ∷ wire 1 ∷ wire 2 ∷ [];
  parents = edge 1 0 3 ∷ edge 2 0 4 ∷ [];
  targets = edge 0 1 5 ∷ edge 0 2 6 ∷ [];
  values = record { slot = 1; bits = wire 7 ∷ wire 8 ∷ [] } ∷ record { slot = 2; bits = wire 9 ∷ wire 10 ∷ [] } ∷ [];
}

-- a$0 refers to b$1; b$0 is -2 and b$1 is 1
abbrev whole : List Bool
whole = true ∷ true ∷ true ∷ true ∷ true ∷ false ∷ true ∷ false ∷ true ∷ true ∷ false ∷ []

-- there is no b$1, and a$0 refers to b$0
abbrev part : List Bool
part = true ∷ true ∷ false ∷ true ∷ false ∷ true ∷ false ∷ false ∷ true ∷ false ∷ false ∷ []

-- an edge is taken that leads from a slot which is not there
abbrev loose : List Bool
loose = true ∷ false ∷ false ∷ true ∷ false ∷ false ∷ false ∷ false ∷ false ∷ false ∷ false ∷ []

abbrev slots_in : List Bool → Core → List ℕ → List ℕ
slots_in bits a held = members layout (told_set (told layout bits a held))

abbrev number_in : List Bool → Core → List ℕ → ℤ
number_in bits a held = told_number (told layout bits a held)

abbrev truth_at : List Bool → Core → List ℕ → Bool
truth_at bits a held = told_truth (told layout bits a held)

abbrev every_a : Core
every_a = c.Every (0 ∷ [])

abbrev every_b : Core
every_b = c.Every (1 ∷ [])

-- ---- sets

every_live : slots_in whole every_b [] ≡ 1 ∷ 2 ∷ []
unfolding members is_listed
every_live = refl

no_dead : slots_in part every_b [] ≡ 1 ∷ []
unfolding members is_listed
no_dead = refl

every_listed : slots_in whole (c.Every (0 ∷ 1 ∷ [])) [] ≡ 0 ∷ 1 ∷ 2 ∷ []
unfolding members is_listed
every_listed = refl

children : slots_in whole (c.Down (1 ∷ []) every_a) [] ≡ 1 ∷ 2 ∷ []
unfolding members is_listed
children = refl

no_others : slots_in whole (c.Down (0 ∷ []) every_a) [] ≡ []
unfolding members is_listed
no_others = refl

-- a child that is not live, as the bits have it
loose_child : slots_in loose (c.Down (1 ∷ []) every_a) [] ≡ 1 ∷ []
unfolding members is_listed
loose_child = refl

parent_once : slots_in whole (c.Up (0 ∷ []) every_b) [] ≡ 0 ∷ []
unfolding members is_listed
parent_once = refl

target : slots_in whole (c.Follow (1 ∷ []) every_a) [] ≡ 2 ∷ []
unfolding members is_listed
target = refl

innermost : slots_in whole (c.Bound (1 ∷ []) 0) (1 ∷ 2 ∷ []) ≡ 2 ∷ []
unfolding members is_listed
innermost = refl

outermost : slots_in whole (c.Bound (1 ∷ []) 1) (1 ∷ 2 ∷ []) ≡ 1 ∷ []
unfolding members is_listed
outermost = refl

not_listed : slots_in whole (c.Bound (0 ∷ []) 0) (2 ∷ []) ≡ []
unfolding members is_listed
not_listed = refl

not_bound : slots_in whole (c.Bound (1 ∷ []) 1) (2 ∷ []) ≡ []
unfolding members is_listed
not_bound = refl

without : slots_in whole (c.Minus (1 ∷ []) every_b (c.Follow (1 ∷ []) every_a)) [] ≡ 1 ∷ []
unfolding members is_listed
without = refl

common : slots_in whole (c.Meet (1 ∷ []) every_b (c.Follow (1 ∷ []) every_a)) [] ≡ 2 ∷ []
unfolding members is_listed
common = refl

either : slots_in whole (c.Union (0 ∷ 1 ∷ []) every_a (c.Follow (1 ∷ []) every_a)) [] ≡ 0 ∷ 2 ∷ []
unfolding members is_listed
either = refl

-- a list that leaves a clafer out
cut_to_list : slots_in whole (c.Union (1 ∷ []) every_a every_b) [] ≡ 1 ∷ 2 ∷ []
unfolding members is_listed
cut_to_list = refl

chosen : slots_in whole (c.ChooseNodes (0 ∷ 1 ∷ []) (c.AtLeast 1 every_b) every_a every_b) [] ≡ 0 ∷ []
unfolding members is_listed
chosen = refl

-- a number is no set
no_set : slots_in whole (c.Const 2 (pos 1)) [] ≡ []
unfolding members
no_set = refl

-- ---- numbers

two_nodes : number_in whole (c.Count 3 every_b) [] ≡ pos 2
unfolding members is_listed cut spelled
two_nodes = refl

-- two bits do not hold 2
too_narrow : number_in whole (c.Count 2 every_b) [] ≡ negsuc 1
unfolding members is_listed cut spelled
too_narrow = refl

summed : number_in whole (c.Total 4 every_b) [] ≡ negsuc 0
unfolding members is_listed slot_integer cut spelled
summed = refl

sum_of_one : number_in part (c.Total 4 every_b) [] ≡ negsuc 1
unfolding members is_listed slot_integer cut spelled
sum_of_one = refl

-- a slot that has no integer counts as 0
no_integer : number_in whole (c.Total 4 every_a) [] ≡ pos 0
unfolding members is_listed slot_integer cut spelled
no_integer = refl

product : number_in whole (c.Mul 5 (c.Const 3 (pos 3)) (c.Const 3 (negsuc 3))) [] ≡ negsuc 11
unfolding cut spelled
product = refl

opposite : number_in whole (c.Neg 3 (c.Const 3 (pos 3))) [] ≡ negsuc 2
unfolding cut spelled
opposite = refl

not_held : number_in whole (c.Const 2 (pos 2)) [] ≡ pos 0
not_held = refl

chosen_number : number_in part (c.ChooseNumber 3 (c.AtLeast 1 every_b) (c.Const 3 (pos 1)) (c.Const 3 (pos 2))) [] ≡ pos 1
unfolding members is_listed cut spelled
chosen_number = refl

-- ---- truths

same : truth_at whole (c.SameNodes every_b (c.Down (1 ∷ []) every_a)) [] ≡ true
unfolding is_listed
same = refl

not_same : truth_at loose (c.SameNodes every_b (c.Down (1 ∷ []) every_a)) [] ≡ false
unfolding is_listed
not_same = refl

within : truth_at whole (c.WithinNodes (c.Follow (1 ∷ []) every_a) every_b) [] ≡ true
unfolding is_listed
within = refl

not_within : truth_at whole (c.WithinNodes every_b (c.Follow (1 ∷ []) every_a)) [] ≡ false
unfolding is_listed
not_within = refl

value_among : truth_at whole (c.WithinValues (c.Const 2 (pos 1)) every_b) [] ≡ true
unfolding members is_listed slot_integer
value_among = refl

value_not_among : truth_at whole (c.WithinValues (c.Const 2 (pos 0)) every_b) [] ≡ false
unfolding members is_listed slot_integer
value_not_among = refl

one_value : truth_at part (c.SameValues every_b (c.Const 2 (negsuc 1))) [] ≡ true
unfolding members is_listed slot_integer
one_value = refl

two_values : truth_at whole (c.SameValues every_b (c.Const 2 (negsuc 1))) [] ≡ false
unfolding members is_listed slot_integer
two_values = refl

less : truth_at whole (c.Less (c.Total 4 every_b) (c.Const 2 (pos 0))) [] ≡ true
unfolding members is_listed slot_integer cut spelled
less = refl

at_most_one : truth_at part (c.AtMost 1 every_b) [] ≡ true
unfolding members is_listed
at_most_one = refl

exactly_one : truth_at whole (c.Exactly 1 every_b) [] ≡ false
unfolding members is_listed
exactly_one = refl

-- ---- quantifiers

-- the integer of the innermost bound slot is 1
abbrev is_one : Core
is_one = c.SameValues (c.Bound (1 ∷ []) 0) (c.Const 2 (pos 1))

-- the two innermost bound slots are the same
abbrev are_same : Core
are_same = c.SameNodes (c.Bound (1 ∷ []) 1) (c.Bound (1 ∷ []) 0)

not_all : truth_at whole (c.Quant word.All false 1 every_b is_one) [] ≡ false
unfolding members is_listed slot_integer as_many
not_all = refl

some : truth_at whole (c.Quant word.Some false 1 every_b is_one) [] ≡ true
unfolding members is_listed slot_integer as_many
some = refl

one : truth_at whole (c.Quant word.One false 1 every_b is_one) [] ≡ true
unfolding members is_listed slot_integer as_many
one = refl

not_one : truth_at part (c.Quant word.One false 1 every_b is_one) [] ≡ false
unfolding members is_listed slot_integer as_many
not_one = refl

lone : truth_at part (c.Quant word.Lone false 1 every_b is_one) [] ≡ true
unfolding members is_listed slot_integer as_many
lone = refl

pairs : truth_at whole (c.Quant word.Some false 2 every_b are_same) [] ≡ true
unfolding members is_listed as_many
pairs = refl

different_pairs : truth_at whole (c.Quant word.Some true 2 every_b are_same) [] ≡ false
unfolding members is_listed as_many
different_pairs = refl

-- of no tuple nothing is asked
no_pairs : truth_at part (c.Quant word.All true 2 every_b are_same) [] ≡ true
unfolding members is_listed as_many
no_pairs = refl

-- ---- formed expressions, and bound slots

formed : is_formed (c.Quant word.All true 2 every_b are_same) 0 ≡ true
formed = refl

not_there : is_formed (c.Quant word.All false 1 every_b are_same) 0 ≡ false
not_there = refl

no_order : is_formed (c.Every (1 ∷ 0 ∷ [])) 0 ≡ false
no_order = refl

no_bits : is_formed (c.Count 0 every_b) 0 ≡ false
no_bits = refl

no_place : is_formed (c.Not every_b) 0 ≡ false
no_place = refl

too_many : is_formed (c.AtLeast 2 every_b) 0 ≡ false
too_many = refl

stands : stand_for layout whole ((0 ∷ []) ∷ (0 ∷ 1 ∷ []) ∷ []) (0 ∷ 2 ∷ []) ≡ true
unfolding is_listed
stands = refl

not_live : stand_for layout part ((1 ∷ []) ∷ []) (2 ∷ []) ≡ false
unfolding is_listed
not_live = refl

not_given : stand_for layout whole ((0 ∷ []) ∷ []) (2 ∷ []) ≡ false
unfolding is_listed
not_given = refl

not_as_many : stand_for layout whole [] (2 ∷ []) ≡ false
not_as_many = refl

nodes_there : nodes_at layout (2 ∷ 0 ∷ []) ≡ node 1 1 ∷ node 0 0 ∷ []
nodes_there = refl

clafers_there : clafers_at layout (2 ∷ 0 ∷ []) ≡ (1 ∷ []) ∷ (0 ∷ []) ∷ []
clafers_there = refl
