-- What some bits keep of integers, on worked rows.
use Rattle.std.proofs.Common.{◌≡◌, true, false, [], ◌∷◌, refl}
use Rattle.std.specs.Prelude.{pos, negsuc}
use Rattle.std.specs.Ordering.{int_eq}
use Rattle.integer_bits.specs.Numbers.{is_odd, half_of, spelled, cut}

odd_minus_three : is_odd (negsuc 2) ≡ true
odd_minus_three = refl

half_of_minus_three : half_of (negsuc 2) ≡ negsuc 1
half_of_minus_three = refl

half_of_minus_one : half_of (negsuc 0) ≡ negsuc 0
half_of_minus_one = refl

four_bits_of_minus_three : spelled 4 (negsuc 2) ≡ true ∷ false ∷ true ∷ true ∷ []
unfolding spelled
four_bits_of_minus_three = refl

three_stays : cut 3 (pos 3) ≡ pos 3
unfolding cut spelled
three_stays = refl

minus_four_stays : cut 3 (negsuc 3) ≡ negsuc 3
unfolding cut spelled
minus_four_stays = refl

five_wraps : cut 3 (pos 5) ≡ negsuc 2
unfolding cut spelled
five_wraps = refl

minus_five_wraps : cut 3 (negsuc 4) ≡ pos 3
unfolding cut spelled
minus_five_wraps = refl

one_in_a_single_bit : cut 1 (pos 1) ≡ negsuc 0
unfolding cut spelled
one_in_a_single_bit = refl

four_does_not_stay : int_eq (cut 3 (pos 4)) (pos 4) ≡ false
unfolding cut spelled
four_does_not_stay = refl
