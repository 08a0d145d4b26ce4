-- Core meanings and weights, worked out: two nodes of clafer 0 with integers 5 and 5, and one of clafer 1 below the first.
use Rattle.std.proofs.Common.{◌≡◌, ℕ, ◌+◌, ◌*◌, true, false, List, [], ◌∷◌, Some, None, refl, pos}
use Rattle.clf_tree.specs.declared.core_expr.Quantifier.TheVariants as word
use Rattle.clf_tree.specs.declared.instance.Node.{Node}
use Rattle.clf_tree.specs.declared.instance.Entry.{Entry}
use Rattle.clf_tree.specs.declared.instance.Target.TheVariants as target
use Rattle.clf_tree.specs.declared.scopes.Scopes.{Scopes}
use Rattle.clf_tree.specs.Meaning.{Truth, Integer, Nodes}
use Rattle.clf_tree.specs.Core.{Core, Bound, Every, Down, Up, Const, Count, Total, Add, AtLeast, Quant, SameNodes, SameValues}
use Rattle.clf_tree.specs.CoreMeaning.{meaning}
use Rattle.clf_tree.specs.CoreWeights.{core_weight, binary_digits}
use Rattle.clf_tree.specs.Widths.{width}

abbrev node : ℕ → ℕ → Node
node c n = record { clafer = c; number = n }

abbrev five : ℕ → Entry
five n = record { node = node 0 n; parent = None; target = Some (target.Int (pos 5)) }

abbrev entries : List Entry
entries = five 0 ∷ five 1 ∷ record { node = node 1 0; parent = Some (node 0 0); target = None } ∷ []

abbrev fives : Core
fives = Every (0 ∷ [])

-- a sum has one value for each node, a comparison of values each value once
a_sum_adds_each_node : meaning entries (Total 5 fives) [] ≡ Integer (pos 10)
a_sum_adds_each_node = refl

equal_values_are_one : meaning entries (SameValues fives (Const 4 (pos 5))) [] ≡ Truth true
equal_values_are_one = refl

nothing_has_no_value : meaning entries (SameValues (Every []) (Const 1 (pos 0))) [] ≡ Truth false
nothing_has_no_value = refl

below : meaning entries (Down (1 ∷ []) fives) [] ≡ Nodes (node 1 0 ∷ [])
below = refl

above : meaning entries (Up (0 ∷ []) (Every (1 ∷ []))) [] ≡ Nodes (node 0 0 ∷ [])
above = refl

-- exactly one of the fives has a node below it; there are two ordered pairs of different fives, which is more than one
one_has : meaning entries (Quant word.One false 1 fives (AtLeast 1 (Down (1 ∷ []) (Bound (0 ∷ []) 0)))) [] ≡ Truth true
one_has = refl

two_pairs : meaning entries (Quant word.Lone true 2 fives (AtLeast 1 fives)) [] ≡ Truth false
two_pairs = refl

-- variables are counted from the innermost
innermost : meaning entries (SameNodes (Bound (1 ∷ []) 0) (Every (1 ∷ []))) (node 0 0 ∷ node 1 0 ∷ []) ≡ Truth true
innermost = refl

-- scopes 3 and 4, integers from 0 to 1, which have two bits
abbrev scopes : Scopes
scopes = record { of = 3 ∷ 4 ∷ []; low = pos 0; high = pos 1 }

digits : binary_digits 0 ∷ binary_digits 1 ∷ binary_digits 4 ∷ binary_digits 2048 ∷ [] ≡ 1 ∷ 1 ∷ 3 ∷ 12 ∷ []
digits = refl

weight_of_down : core_weight scopes (Down (1 ∷ []) fives) ≡ 4 * 3 * 4 + 1
weight_of_down = refl

weight_of_count : core_weight scopes (Count 3 fives) ≡ 32 * 4 * (2 + 2 + 1) + 1
unfolding width
weight_of_count = refl

weight_of_add : core_weight scopes (Add 5 (Const 4 (pos 5)) (Const 4 (pos 6))) ≡ 16 * 6 + 2 + 2
weight_of_add = refl

-- three nodes have a sum from 0 to 3, of three bits
weight_of_values : core_weight scopes (SameValues fives (Const 4 (pos 5))) ≡ 6 * 4 * 2 * (4 + 1) + 1 + 2
unfolding width
weight_of_values = refl

weight_of_all : core_weight scopes (Quant word.All true 2 fives (AtLeast 1 (Bound (0 ∷ []) 0))) ≡ 9 * ((16 * 4 + 1) + 2 * 2 + 4) + 2 + 1
weight_of_all = refl

weight_of_one : core_weight scopes (Quant word.One true 2 fives (AtLeast 1 (Bound (0 ∷ []) 0))) ≡ 9 * ((16 * 4 + 1) + 8 * 2 + 16 * 4 + 16) + 8 + 1
weight_of_one = refl
