-- Products of integers, and of what stands for them.
use Rattle.std.proofs.Common.{◌≡◌, ℕ, suc, zero, ◌+◌, ◌*◌, ◌^◌, ◌<◌, Bool, true, false, List, [], ◌∷◌, ◌++◌, length, refl, sym, ap, ◌∙◌, subst, arith}
use Rattle.std.specs.Prelude.{ℤ, pos, negsuc, ◌+ℤ◌, ◌*ℤ◌}
use Rattle.std.proofs.Math.IntN.{suc_ℤ, zero-*ℤ, suc_ℤ-*ℤ, *ℤ_comm, pos-*ℤ-pos}
use Rattle.std.proofs.lemmas.Int.{ints}
use Rattle.integer_bits.proofs.Congruent.{congruent_add, congruent_same, pow_suc}
use Rattle.integer_bits.specs.Numbers.{bit, natural_of, integer_of, IsCongruent}
use Rattle.integer_bits.specs.Totals.{number_of}

-- ---- products of integers

suc_is : (m : ℤ) → suc_ℤ m ≡ m +ℤ pos 1
suc_is (pos n) = omega (arith, ints)
suc_is (negsuc zero) = refl
suc_is (negsuc (suc n)) = omega (arith, ints)

add_natural_times : (x z : ℤ) (k : ℕ) → (x +ℤ pos k) *ℤ z ≡ x *ℤ z +ℤ pos k *ℤ z
add_natural_times x z zero =
    let a : x +ℤ pos 0 ≡ x = omega (arith, ints) in
    let b : x *ℤ z ≡ x *ℤ z +ℤ pos 0 = omega (arith, ints) in
    ap (λ t. t *ℤ z) a ∙ b ∙ ap (λ t. x *ℤ z +ℤ t) (sym (zero-*ℤ z))
add_natural_times x z (suc k) =
    let a : x +ℤ pos (suc k) ≡ suc_ℤ (x +ℤ pos k) = (let s = suc_is (x +ℤ pos k) in omega (arith, ints, s)) in
    let b : suc_ℤ (x +ℤ pos k) *ℤ z ≡ (x +ℤ pos k) *ℤ z +ℤ z = suc_ℤ-*ℤ (x +ℤ pos k) z in
    let c : pos (suc k) *ℤ z ≡ pos k *ℤ z +ℤ z = suc_ℤ-*ℤ (pos k) z in
    let r = add_natural_times x z k in
    ap (λ t. t *ℤ z) a ∙ b ∙ regroup ((x +ℤ pos k) *ℤ z) (x *ℤ z) (pos k *ℤ z) z (pos (suc k) *ℤ z) r c
  where
    regroup : (p q r z s : ℤ) → p ≡ q +ℤ r → s ≡ r +ℤ z → p +ℤ z ≡ q +ℤ s
    regroup p q r z s e f = omega (arith, ints)

-- a negative number's product is the negative of a product
negative_times : (k : ℕ) (z : ℤ) → negsuc k *ℤ z +ℤ pos (suc k) *ℤ z ≡ pos 0
negative_times k z = sym (add_natural_times (negsuc k) z (suc k)) ∙ ap (λ t. t *ℤ z) nothing ∙ zero-*ℤ z
  where
    nothing : negsuc k +ℤ pos (suc k) ≡ pos 0
    nothing = omega (arith, ints)

pub add_times : (x y z : ℤ) → (x +ℤ y) *ℤ z ≡ x *ℤ z +ℤ y *ℤ z
add_times x (pos k) z = add_natural_times x z k
add_times x (negsuc k) z =
    let a : (x +ℤ negsuc k) +ℤ pos (suc k) ≡ x = omega (arith, ints) in
    let b : x *ℤ z ≡ (x +ℤ negsuc k) *ℤ z +ℤ pos (suc k) *ℤ z = ap (λ t. t *ℤ z) (sym a) ∙ add_natural_times (x +ℤ negsuc k) z (suc k) in
    regroup (x *ℤ z) ((x +ℤ negsuc k) *ℤ z) (pos (suc k) *ℤ z) (negsuc k *ℤ z) b (negative_times k z)
  where
    regroup : (p q r s : ℤ) → p ≡ q +ℤ r → s +ℤ r ≡ pos 0 → q ≡ p +ℤ s
    regroup p q r s e f = omega (arith, ints)

pub scale_times : (p : ℕ) (z a : ℤ) → (pos p *ℤ z) *ℤ a ≡ pos p *ℤ (z *ℤ a)
scale_times zero z a = ap (λ t. t *ℤ a) (zero-*ℤ z) ∙ zero-*ℤ a ∙ sym (zero-*ℤ (z *ℤ a))
scale_times (suc p) z a = ap (λ t. t *ℤ a) (suc_ℤ-*ℤ (pos p) z) ∙ add_times (pos p *ℤ z) z a ∙ ap (λ t. t +ℤ z *ℤ a) (scale_times p z a) ∙ sym (suc_ℤ-*ℤ (pos p) (z *ℤ a))

double_scale : (p : ℕ) (z : ℤ) → pos (2 * p) *ℤ z ≡ pos 2 *ℤ (pos p *ℤ z)
double_scale p z =
    let e : pos (2 * p) ≡ pos p +ℤ pos p = omega (arith, ints) in
    ap (λ t. t *ℤ z) e ∙ add_times (pos p) (pos p) z ∙ twice (pos p *ℤ z)
  where
    twice : (m : ℤ) → m +ℤ m ≡ pos 2 *ℤ m
    twice m = omega (arith, ints)

-- the product with a number that is cut in two
pub times_split : (a z : ℤ) (n p : ℕ) → a *ℤ (pos n +ℤ pos p *ℤ z) ≡ a *ℤ pos n +ℤ pos p *ℤ (a *ℤ z)
times_split a z n p =
    *ℤ_comm a (pos n +ℤ pos p *ℤ z) ∙ add_times (pos n) (pos p *ℤ z) a ∙ ap (λ t. t +ℤ (pos p *ℤ z) *ℤ a) (*ℤ_comm (pos n) a)
    ∙ ap (λ t. a *ℤ pos n +ℤ t) (scale_times p z a ∙ ap (λ t. pos p *ℤ t) (*ℤ_comm z a))

-- ---- products of congruent integers

congruent_scale : (n k : ℕ) (x y : ℤ) → IsCongruent n x y → IsCongruent n (pos k *ℤ x) (pos k *ℤ y)
congruent_scale n zero x y c = congruent_same n _ _ (zero-*ℤ x ∙ sym (zero-*ℤ y))
congruent_scale n (suc k) x y c = subst (λ t. IsCongruent n t (pos (suc k) *ℤ y)) (sym (suc_ℤ-*ℤ (pos k) x)) (subst (λ t. IsCongruent n (pos k *ℤ x +ℤ x) t) (sym (suc_ℤ-*ℤ (pos k) y)) (congruent_add n _ _ _ _ (congruent_scale n k x y c) c))

congruent_opposite : (n : ℕ) (x y u v : ℤ) → IsCongruent n x y → u +ℤ x ≡ pos 0 → v +ℤ y ≡ pos 0 → IsCongruent n u v
congruent_opposite n x y u v c e f = record { below = c.above; above = c.below; equal = (let g = c.equal in omega (arith, ints)) }

pub congruent_times : (n : ℕ) (a x y : ℤ) → IsCongruent n x y → IsCongruent n (a *ℤ x) (a *ℤ y)
congruent_times n (pos k) x y c = congruent_scale n k x y c
congruent_times n (negsuc k) x y c = congruent_opposite n _ _ _ _ (congruent_scale n (suc k) x y c) (negative_times k x) (negative_times k y)

-- ---- bits behind others

pub integer_of-append : (xs ys : List Bool) → 0 < length ys → integer_of (xs ++ ys) ≡ pos (natural_of xs) +ℤ pos (2 ^ length xs) *ℤ integer_of ys
integer_of-append [] ys h = once (integer_of ys)
  where
    once : (z : ℤ) → z ≡ pos 0 +ℤ pos 1 *ℤ z
    once z = omega (arith, ints)
integer_of-append (x ∷ []) [] h = absurd (omega arith)
integer_of-append (x ∷ []) (y ∷ ys) h = ap (λ n. pos n +ℤ pos 2 *ℤ integer_of (y ∷ ys)) none
  where
    none : bit x ≡ bit x + 2 * 0
    none = omega arith
integer_of-append (x ∷ x' ∷ xs) ys h =
    let r = integer_of-append (x' ∷ xs) ys h in
    ap (λ z. pos (bit x) +ℤ pos 2 *ℤ z) r ∙ step (bit x) (natural_of (x' ∷ xs)) (pos (2 ^ length (x' ∷ xs)) *ℤ integer_of ys)
    ∙ ap (λ z. pos (bit x + 2 * natural_of (x' ∷ xs)) +ℤ z) (sym (double_scale (2 ^ length (x' ∷ xs)) (integer_of ys)) ∙ ap (λ p. pos p *ℤ integer_of ys) (sym (pow_suc (length (x' ∷ xs)))))
  where
    step : (b n : ℕ) (m : ℤ) → pos b +ℤ pos 2 *ℤ (pos n +ℤ m) ≡ pos (b + 2 * n) +ℤ pos 2 *ℤ m
    step b n m = omega (arith, ints)

natural_of-append : (xs ys : List Bool) → natural_of (xs ++ ys) ≡ natural_of xs + 2 ^ length xs * natural_of ys
natural_of-append [] ys = omega arith
natural_of-append (x ∷ xs) ys =
    let p : 2 ^ suc (length xs) * natural_of ys ≡ 2 * (2 ^ length xs * natural_of ys) = ap (λ q. q * natural_of ys) (pow_suc (length xs)) ∙ assoc (2 ^ length xs) (natural_of ys) in
    omega (arith, natural_of-append xs ys, p)
  where
    assoc : (p n : ℕ) → (2 * p) * n ≡ 2 * (p * n)
    assoc p n = omega arith

pub number_of-append : (signed : Bool) (xs ys : List Bool) → 0 < length ys → number_of signed (xs ++ ys) ≡ pos (natural_of xs) +ℤ pos (2 ^ length xs) *ℤ number_of signed ys
number_of-append true xs ys h = integer_of-append xs ys h
number_of-append false xs ys h = ap pos (natural_of-append xs ys) ∙ ap (λ z. pos (natural_of xs) +ℤ z) (sym (pos-*ℤ-pos (2 ^ length xs) (natural_of ys)))
