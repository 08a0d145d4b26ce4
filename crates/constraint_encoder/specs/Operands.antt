-- The two operands of one sort that some forms have.
use Rattle.std.specs.Prelude.{Bool, true, false}
use Rattle.clf_tree.specs.Core as c
use Rattle.clf_tree.specs.Core.{Core}

-- whether they are truths, sets of nodes, or numbers
abbrev pub has_two_truths : Core → Bool
has_two_truths (c.And a b) = true
has_two_truths (c.Or a b) = true
has_two_truths (c.Xor a b) = true
has_two_truths (c.ChooseTruth t a b) = true
has_two_truths _ = false

abbrev pub has_two_sets : Core → Bool
has_two_sets (c.Union ks a b) = true
has_two_sets (c.Minus ks a b) = true
has_two_sets (c.Meet ks a b) = true
has_two_sets (c.ChooseNodes ks t a b) = true
has_two_sets (c.SameNodes a b) = true
has_two_sets (c.WithinNodes a b) = true
has_two_sets _ = false

abbrev pub has_two_numbers : Core → Bool
has_two_numbers (c.Add w a b) = true
has_two_numbers (c.Mul w a b) = true
has_two_numbers (c.ChooseNumber w t a b) = true
has_two_numbers (c.Less a b) = true
has_two_numbers _ = false

-- whether two sets of nodes are compared, nodes counted, or two sides of values compared
abbrev pub is_node_test : Core → Bool
is_node_test (c.SameNodes a b) = true
is_node_test (c.WithinNodes a b) = true
is_node_test _ = false

abbrev pub is_amount : Core → Bool
is_amount (c.AtLeast k a) = true
is_amount (c.AtMost k a) = true
is_amount (c.Exactly k a) = true
is_amount _ = false

abbrev pub is_value_test : Core → Bool
is_value_test (c.SameValues a b) = true
is_value_test (c.WithinValues a b) = true
is_value_test _ = false

abbrev pub is_order : Core → Bool
is_order (c.Less a b) = true
is_order _ = false

abbrev pub is_quantified : Core → Bool
is_quantified (c.Quant word disj names over body) = true
is_quantified _ = false

-- the first and the second; of another form the form itself
abbrev pub left_of : Core → Core
left_of (c.And a b) = a
left_of (c.Or a b) = a
left_of (c.Xor a b) = a
left_of (c.ChooseTruth t a b) = a
left_of (c.Union ks a b) = a
left_of (c.Minus ks a b) = a
left_of (c.Meet ks a b) = a
left_of (c.ChooseNodes ks t a b) = a
left_of (c.SameNodes a b) = a
left_of (c.WithinNodes a b) = a
left_of (c.Add w a b) = a
left_of (c.Mul w a b) = a
left_of (c.ChooseNumber w t a b) = a
left_of (c.Less a b) = a
left_of (c.SameValues a b) = a
left_of (c.WithinValues a b) = a
left_of a = a

abbrev pub right_of : Core → Core
right_of (c.And a b) = b
right_of (c.Or a b) = b
right_of (c.Xor a b) = b
right_of (c.ChooseTruth t a b) = b
right_of (c.Union ks a b) = b
right_of (c.Minus ks a b) = b
right_of (c.Meet ks a b) = b
right_of (c.ChooseNodes ks t a b) = b
right_of (c.SameNodes a b) = b
right_of (c.WithinNodes a b) = b
right_of (c.Add w a b) = b
right_of (c.Mul w a b) = b
right_of (c.ChooseNumber w t a b) = b
right_of (c.Less a b) = b
right_of (c.SameValues a b) = b
right_of (c.WithinValues a b) = b
right_of a = a

-- a step, and the set that it goes from; of another form the form itself
abbrev pub is_step : Core → Bool
is_step (c.Down ks a) = true
is_step (c.Up ks a) = true
is_step (c.Follow ks a) = true
is_step _ = false

abbrev pub step_from : Core → Core
step_from (c.Down ks a) = a
step_from (c.Up ks a) = a
step_from (c.Follow ks a) = a
step_from a = a

-- two sets of nodes joined in one, or the one of them that a test chooses
abbrev pub is_join : Core → Bool
is_join (c.Union ks a b) = true
is_join (c.Minus ks a b) = true
is_join (c.Meet ks a b) = true
is_join _ = false

abbrev pub is_node_choice : Core → Bool
is_node_choice (c.ChooseNodes ks t a b) = true
is_node_choice _ = false

-- a number of a set of nodes, and one of two numbers
abbrev pub is_aggregate : Core → Bool
is_aggregate (c.Count w a) = true
is_aggregate (c.Total w a) = true
is_aggregate _ = false

abbrev pub is_arithmetic : Core → Bool
is_arithmetic (c.Add w a b) = true
is_arithmetic (c.Mul w a b) = true
is_arithmetic _ = false

-- a choice, and its test; of another form the form itself
abbrev pub is_choice : Core → Bool
is_choice (c.ChooseNodes ks t a b) = true
is_choice (c.ChooseNumber w t a b) = true
is_choice (c.ChooseTruth t a b) = true
is_choice _ = false

abbrev pub test_of : Core → Core
test_of (c.ChooseNodes ks t a b) = t
test_of (c.ChooseNumber w t a b) = t
test_of (c.ChooseTruth t a b) = t
test_of a = a
