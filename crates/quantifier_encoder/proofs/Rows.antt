-- The definitions on small tuples and tests.
use Rattle.std.proofs.Common.{◌≡◌, true, false, [], ◌∷◌, refl}
use Rattle.clf_tree.specs.declared.core_expr.Quantifier.TheVariants as word
use Rattle.quantifier_encoder.specs.Tuples.{may_follow, longer_tuples, slots_of}
use Rattle.quantifier_encoder.specs.Passing.{all_pass, some_passes, passing, passes_present, many_cost}

-- ---- tuples that are one longer

pub members_have_slots : slots_of (record { slot = 2; here = record { number = 7 } } ∷ record { slot = 5; here = record { number = 3 } } ∷ []) ≡ 2 ∷ 5 ∷ []
members_have_slots = refl

pub a_slot_may_come_twice : may_follow false (4 ∷ 5 ∷ []) 4 ≡ true
a_slot_may_come_twice = refl

pub a_slot_may_not_come_twice : may_follow true (4 ∷ 5 ∷ []) 4 ≡ false
a_slot_may_not_come_twice = refl

pub another_slot_may_come : may_follow true (4 ∷ 5 ∷ []) 6 ≡ true
another_slot_may_come = refl

pub slots_come_behind : longer_tuples false (3 ∷ 4 ∷ []) (4 ∷ []) ≡ (4 ∷ 3 ∷ []) ∷ (4 ∷ 4 ∷ []) ∷ []
slots_come_behind = refl

pub different_slots_come_behind : longer_tuples true (3 ∷ 4 ∷ []) (4 ∷ []) ≡ (4 ∷ 3 ∷ []) ∷ []
different_slots_come_behind = refl

-- ---- how many pass

pub what_is_not_there_need_not_pass : all_pass (true ∷ false ∷ []) (true ∷ false ∷ []) ≡ true
what_is_not_there_need_not_pass = refl

pub what_is_there_must_pass : all_pass (true ∷ true ∷ []) (true ∷ false ∷ []) ≡ false
what_is_there_must_pass = refl

pub all_of_none_pass : all_pass [] [] ≡ true
all_of_none_pass = refl

pub what_is_not_there_does_not_count : some_passes (false ∷ true ∷ []) (true ∷ false ∷ []) ≡ false
what_is_not_there_does_not_count = refl

pub one_that_is_there_suffices : some_passes (false ∷ true ∷ []) (true ∷ true ∷ []) ≡ true
one_that_is_there_suffices = refl

pub each_is_asked_for_both : passing (true ∷ false ∷ true ∷ []) (true ∷ true ∷ false ∷ []) ≡ true ∷ false ∷ false ∷ []
each_is_asked_for_both = refl

pub one_passes : passes_present word.One (true ∷ false ∷ []) (true ∷ true ∷ []) ≡ true
unfolding passes_present
one_passes = refl

pub two_are_not_one : passes_present word.One (true ∷ true ∷ []) (true ∷ true ∷ []) ≡ false
unfolding passes_present
two_are_not_one = refl

pub none_is_lone : passes_present word.Lone (false ∷ true ∷ []) (true ∷ false ∷ []) ≡ true
unfolding passes_present
none_is_lone = refl

pub two_are_not_lone : passes_present word.Lone (true ∷ true ∷ []) (true ∷ true ∷ []) ≡ false
unfolding passes_present
two_are_not_lone = refl

pub some_of_none_fails : passes_present word.Some [] [] ≡ false
unfolding passes_present
some_of_none_fails = refl

pub costs_of_four : many_cost word.All 4 ≡ 13
costs_of_four = refl

pub costs_of_four_counted : many_cost word.Lone 4 ≡ 43
costs_of_four_counted = refl
