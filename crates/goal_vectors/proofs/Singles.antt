-- Two values of one goal.
use Rattle.std.proofs.Common.{◌≡◌, Bool, true, false, arith, ℤ}
use Rattle.std.specs.Prelude.{int_lt}
use Rattle.std.proofs.lemmas.Int.{ints}
use Rattle.clf_tree.specs.Front.{better}

not_below_itself : (x : ℤ) → int_lt x x ≡ false
not_below_itself x = grind (arith, ints)

lower : (x y z : ℤ) → int_lt y x ≡ false → int_lt y z ≡ true → int_lt x z ≡ true
lower x y z p q = grind (arith, ints)

higher : (x y z : ℤ) → int_lt x y ≡ false → int_lt z y ≡ true → int_lt z x ≡ true
higher x y z p q = grind (arith, ints)

below_chain : (x y z : ℤ) → int_lt x y ≡ true → int_lt y z ≡ true → int_lt x z ≡ true
below_chain x y z p q = grind (arith, ints)

neither_below : (x y : ℤ) → int_lt x y ≡ false → int_lt y x ≡ false → x ≡ y
neither_below x y p q = omega (arith, ints, p, q)

pub better_self : (way : Bool) (x : ℤ) → better way x x ≡ false
better_self true x = not_below_itself x
better_self false x = not_below_itself x

-- x is at least as good as y, and y is better than z
pub better_more : (way : Bool) (x y z : ℤ) → better way y x ≡ false → better way y z ≡ true → better way x z ≡ true
better_more true x y z p q = lower x y z p q
better_more false x y z p q = higher x y z p q

pub better_chain : (way : Bool) (x y z : ℤ) → better way x y ≡ true → better way y z ≡ true → better way x z ≡ true
better_chain true x y z p q = below_chain x y z p q
better_chain false x y z p q = below_chain z y x q p

pub neither_better_there : (way : Bool) (x y : ℤ) → better way x y ≡ false → better way y x ≡ false → x ≡ y
neither_better_there true x y p q = neither_below x y p q
neither_better_there false x y p q = neither_below x y q p
