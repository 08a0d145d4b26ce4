-- Integers in order.
use Rattle.std.proofs.Common.{◌≡◌, ℕ, zero, suc, arith, ℤ, pos, negsuc, ◌+ℤ◌, ◌*ℤ◌, neg_ℤ, ◌≤ℤ◌}
use Rattle.std.proofs.lemmas.Int.{ints, clamps}
use Rattle.std.specs.Int.{int_min, int_max}

pub mul_suc : (n : ℕ) (z : ℤ) → pos (suc n) *ℤ z ≡ (z +ℤ (pos n *ℤ z))
mul_suc n z = omega (arith, ints)

mul_zero : (z : ℤ) → pos 0 *ℤ z ≡ pos 0
mul_zero z = omega (arith, ints)

pub add_le : (a b c d : ℤ) → a ≤ℤ b → c ≤ℤ d → (a +ℤ c) ≤ℤ (b +ℤ d)
add_le a b c d h k = omega (arith, ints)

le_by : (a b c d : ℤ) → a ≡ b → c ≡ d → b ≤ℤ d → a ≤ℤ c
le_by a b c d e f h = omega (arith, ints)

-- times a natural number
pub times_le : (n : ℕ) (a b : ℤ) → a ≤ℤ b → (pos n *ℤ a) ≤ℤ (pos n *ℤ b)
times_le zero a b h = le_by (pos 0 *ℤ a) (pos 0) (pos 0 *ℤ b) (pos 0) (mul_zero a) (mul_zero b) (omega (arith, ints))
times_le (suc n) a b h = le_by (pos (suc n) *ℤ a) (a +ℤ (pos n *ℤ a)) (pos (suc n) *ℤ b) (b +ℤ (pos n *ℤ b)) (mul_suc n a) (mul_suc n b) (add_le a b (pos n *ℤ a) (pos n *ℤ b) h (times_le n a b h))

swap : (n : ℕ) (a : ℤ) → (a *ℤ pos n) ≡ (pos n *ℤ a)
swap n a = omega (arith, ints)

swap_neg : (n : ℕ) (a : ℤ) → (a *ℤ negsuc n) ≡ neg_ℤ (pos (suc n) *ℤ a)
swap_neg n a = omega (arith, ints)

pub mul_comm : (a b : ℤ) → (a *ℤ b) ≡ (b *ℤ a)
mul_comm a b = omega (arith, ints)

-- z is between a and b, whichever is the smaller
pub record Between (a b z : ℤ) : Type 0 where
  pub least : int_min a b ≤ℤ z
  pub most : z ≤ℤ int_max a b

up_between : (a b z x y w : ℤ) → x ≡ a → y ≡ b → w ≡ z → a ≤ℤ z → z ≤ℤ b → Between x y w
up_between a b z x y w e f g h k = record { least = omega (arith, ints, clamps); most = omega (arith, ints, clamps) }

down_between : (a b z x y w : ℤ) → x ≡ neg_ℤ a → y ≡ neg_ℤ b → w ≡ neg_ℤ z → a ≤ℤ z → z ≤ℤ b → Between x y w
down_between a b z x y w e f g h k = record { least = omega (arith, ints, clamps); most = omega (arith, ints, clamps) }

-- a product with one factor in an interval is between the products with its ends
pub mul_between : (a b x y : ℤ) → a ≤ℤ x → x ≤ℤ b → Between (a *ℤ y) (b *ℤ y) (x *ℤ y)
mul_between a b x (pos n) h k =
    up_between (pos n *ℤ a) (pos n *ℤ b) (pos n *ℤ x) (a *ℤ pos n) (b *ℤ pos n) (x *ℤ pos n) (swap n a) (swap n b) (swap n x) (times_le n a x h) (times_le n x b k)
mul_between a b x (negsuc n) h k =
    down_between (pos (suc n) *ℤ a) (pos (suc n) *ℤ b) (pos (suc n) *ℤ x) (a *ℤ negsuc n) (b *ℤ negsuc n) (x *ℤ negsuc n)
    (swap_neg n a) (swap_neg n b) (swap_neg n x) (times_le (suc n) a x h) (times_le (suc n) x b k)

four : (ac ad bc bd cy dy z : ℤ) → Between ac bc cy → Between ad bd dy → Between cy dy z
    → (int_min (int_min ac ad) (int_min bc bd) ≤ℤ z) × (z ≤ℤ int_max (int_max ac ad) (int_max bc bd))
four ac ad bc bd cy dy z p q r =
    (omega (arith, ints, clamps, p.least, q.least, r.least, p.most, q.most, r.most), omega (arith, ints, clamps, p.least, q.least, r.least, p.most, q.most, r.most))

swapped : (a b c d p q z w : ℤ) → c ≡ a → d ≡ b → w ≡ z → Between a b z → Between c d w
swapped a b c d p q z w e f g h = record { least = omega (arith, ints, clamps, h.least); most = omega (arith, ints, clamps, h.most) }

-- a product lies between the least and the greatest of the products of ends
pub product_between : (a b c d x y : ℤ) → a ≤ℤ x → x ≤ℤ b → c ≤ℤ y → y ≤ℤ d
    → (int_min (int_min (a *ℤ c) (a *ℤ d)) (int_min (b *ℤ c) (b *ℤ d)) ≤ℤ (x *ℤ y)) × ((x *ℤ y) ≤ℤ int_max (int_max (a *ℤ c) (a *ℤ d)) (int_max (b *ℤ c) (b *ℤ d)))
product_between a b c d x y h k l m =
    four (a *ℤ c) (a *ℤ d) (b *ℤ c) (b *ℤ d) (x *ℤ c) (x *ℤ d) (x *ℤ y) (mul_between a b x c h k) (mul_between a b x d h k)
    (swapped (c *ℤ x) (d *ℤ x) (x *ℤ c) (x *ℤ d) x x (y *ℤ x) (x *ℤ y) (mul_comm x c) (mul_comm x d) (mul_comm x y) (mul_between c d y x l m))
